use Rattle.std.proofs.Common.{refl}
use Rattle.std.proofs.lemmas.Result.{IfOk-at_ok}
use Rattle.serde_json.specs.View.{view}
use Rattle.hc_figures.specs.Nesting.{NestsTo}
use Rattle.hc_figures.proofs.EntryLemmas.{value_depth}
use Rattle.hc_figures.proofs.members.Object.put.Goals as goal

pub returns-in-Ok-put-clause-nests : goal.returns-in-Ok-put-clause-nests
returns-in-Ok-put-clause-nests c = λ n few had. record {
  nests = λ kept. value_depth c.args.name.now (view c.in-Ok.value) _ _ _ n refl (IfOk-at_ok (NestsTo n) c.in-Ok.is few) (had.nests kept) c.in-Ok-put.ensures.ok;
}
