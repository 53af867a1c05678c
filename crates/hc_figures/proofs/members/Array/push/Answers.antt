use Rattle.std.proofs.lemmas.Result.{IfOk-at_ok}
use Rattle.hc_figures.specs.Nesting.{NestsTo}
use Rattle.hc_figures.proofs.EntryLemmas.{pushed_depth}
use Rattle.hc_figures.proofs.members.Array.push.Goals as goal

pub returns-in-Ok-push-clause-nests : goal.returns-in-Ok-push-clause-nests
returns-in-Ok-push-clause-nests c = λ n few had. record {
  nests = λ kept. pushed_depth _ _ c.in-Ok.value n (IfOk-at_ok (NestsTo n) c.in-Ok.is few) (had.nests kept) c.in-Ok-push.ensures.ok;
}
