use Rattle.std.proofs.Common.{◌≡◌, ◌++◌, List, ℕ, Bor, subst}
use Rattle.std.specs.Option.{option_map}
use Rattle.std.specs.Prelude.{codes, string_bytes}
use Rattle.std.proofs.lemmas.Result.{IfOk-weaker}
use Rattle.hc_command.specs.Report.{reply_text}
use Rattle.hc_command.proofs.objects.object.Goals as goal

pub returns : goal.returns
returns c =
    let told = option_map (λ (t : Bor (List ℕ)). t.now) c.args.told in
    let verdict = c.as_str-verdict.result.now in
    let value : verdict ≡ string_bytes c.in_ok-verdict.verdict = search in
    IfOk-weaker c.format.result _ _ (λ text is. record {
      verdict_text = string_bytes c.in_ok-verdict.verdict;
      null = c.in_ok-verdict.ensures;
      is = subst (λ (v : List ℕ). string_bytes text ≡ codes "{\"verdict\":" ++ (v ++ (codes ",\"reply\":" ++ (reply_text told ++ codes "}\n")))) value
          (subst (λ (t : List ℕ). string_bytes text ≡ codes "{\"verdict\":" ++ (verdict ++ (codes ",\"reply\":" ++ (t ++ codes "}\n")))) c.reply_text-told.ensures is);
    }) c.format.ensures.ok
