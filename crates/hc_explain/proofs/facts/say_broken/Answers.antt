use Rattle.std.proofs.Common.{◌++◌, refl, subst, sym}
use Rattle.std.specs.Prelude.{codes}
use Rattle.hc_history.specs.declared.verdicts.Finding.{Finding}
use Rattle.hc_explain.specs.Facts.{AreAskedOf, IsBrokenLine}
use Rattle.hc_explain.proofs.HearingLemmas.{on_ok}
use Rattle.hc_explain.proofs.facts.say_broken.Goals as goal

pub returns : goal.returns
returns c =
    let known = c.args.known.now in
    let sections = c.asked_of-asked.result.sections.now in
    let words = c.asked_of-asked.result.words.now in
    let line = codes "broken          " ++ (sections ++ (codes ": " ++ (words ++ codes "\n"))) in
    on_ok c.write.result c.write.ensures.bytes (λ is. (
      line,
      subst (λ (f : Finding). IsBrokenLine known f line) (sym c.in-Wrong.is)
          (sections, words, subst (λ (f : Finding). AreAskedOf known f sections) c.in-Wrong.is c.asked_of-asked.ensures, refl),
      is,
    ))
