use Rattle.std.proofs.lemmas.Result.{IfOk-weaker}
use Rattle.serde_json.specs.Data.{no_members}
use Rattle.serde_json.specs.Find.{get}
use Rattle.std.proofs.Common.{ap, codes}
use Rattle.hc_report.proofs.JsonLemmas.{some_value}
use Rattle.hc_report.proofs.json.new_json.Goals as goal

pub returns-clause-count : goal.returns-clause-count
returns-clause-count c =
    let kinds = some_value c.kinds_json.result 2 c.kinds_json.ensures in
    let first = c.number.ensures.has no_members c.new-object.ensures.has in
    let second = c.number-2.ensures.has _ (c.put.ensures.has kinds.0 kinds.1 _ first) in
    IfOk-weaker c.into_value.result _ _ (λ v is. ap (get (codes "count")) is) (c.into_value.ensures.has _ second)
