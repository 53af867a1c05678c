use Rattle.std.proofs.Common.{◌∙◌, ◌++◌, List, ℕ, ap, string_bytes}
use Rattle.hc_html.specs.Marked.{heading_text}
use Rattle.hc_html.proofs.html.Html.into_document.Goals as goal

pub returns : goal.returns
returns c = record {
  rest = string_bytes c.args.self.text;
  is = c.in_ok-push_str.ensures.bytes ∙ ap (λ (text : List ℕ). string_bytes c.push_heading.new.out ++ text) c.as_str.ensures.value
      ∙ ap (λ (text : List ℕ). text ++ string_bytes c.args.self.text) (c.in_ok-push_heading.ensures ∙ ap (λ (text : List ℕ). text ++ heading_text c.args.line.now) c.new-whole.ensures.bytes);
  marked = c.args.self.marked c.if-is_refused.false;
}
