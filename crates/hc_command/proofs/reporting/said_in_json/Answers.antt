use Rattle.std.proofs.Common.{◌≡◌, ◌++◌, ◌∷◌, ◌∙◌, [], List, ℕ, ap, arith, string_bytes, subst}
use Rattle.std.specs.Io.KnownBytes.{Appends}
use Rattle.hc_command.proofs.reporting.said_in_json.Goals as goal

pub returns-in-Ok : goal.returns-in-Ok
returns-in-Ok g c =
    let text = string_bytes c.in_ok-text.text in
    let is : c.as_str.result.now ≡ text ++ 10 ∷ [] =
    c.as_str.ensures.value ∙ c.in_ok-push.ensures.bytes ∙ ap (λ (e : List ℕ). text ++ e) (c.in_ok-push.ensures.ascii (omega arith)) in
    record {
      text = text;
      has_status = c.verdict_status.ensures;
      written = subst (λ (octets : List ℕ). Appends (g.W.Write.contents c.args.output.now) (g.W.Write.contents c.printed.new.to) octets) is c.in-Ok.ensures;
      all = λ h wrongs told counted. rw (c.ending.ensures, c.counts.ensures) at (c.in_ok-text.ensures h wrongs told counted);
    }
