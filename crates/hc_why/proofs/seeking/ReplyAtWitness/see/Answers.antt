use Rattle.std.proofs.Common.{ℕ, ◌++◌, ◌∷◌, ap, length, nat_le, sym, ◌∙◌}
use Rattle.hc_audit.specs.Hearing.{item_judged}
use Rattle.hc_audit.specs.Told.{wrong_of}
use Rattle.hc_why.proofs.SeekingLemmas.{next_is}
use Rattle.hc_why.proofs.seeking.ReplyAtWitness.see.Goals as goal

pub returns : goal.returns
returns g c =
    let judged = c.args.judged.now in
    let kept = c.in_ok-take.ensures.kept in
    record {
      told = λ wrongs before. c.pass_by.ensures.told (wrongs ++ wrong_of judged.position judged.finding) (c.in_ok-take.ensures.told wrongs before);
      heard = λ h heard behind. record {
        found = c.pass_by.ensures.found (item_judged judged ∷ h) (c.in_ok-take.ensures.found h heard.found behind);
        passed = c.pass_by.ensures.passed (length h) (next_is judged.position h behind.position)
            (kept.1 ∙ heard.passed ∙ ap (λ (place : ℕ). nat_le place (length h)) (sym kept.0));
      };
    }
