use Rattle.std.proofs.Common.{◌∙◌, ◌≡◌, sym}
use Rattle.std.proofs.lemmas.Result.{IfOk-weaker}
use Rattle.hc_rules.specs.Selecting.{selects}
use Rattle.hc_rules.specs.Storing.{asks_for_storable}
use Rattle.hc_update.specs.Identifying.{identifies, may_freshen, validators_agree}
use Rattle.hc_update.proofs.UpdateLemmas.{asked_last}
use Rattle.hc_update.proofs.identifying.identifies.Goals as goal

pub returns-clause-answer : goal.returns-clause-answer
returns-clause-answer c =
    let state = c.args.state.now in
    let forward = c.args.forward.now in
    let response = c.args.response.now in
    IfOk-weaker c.selects.result (λ is. is ≡ selects state.fields state.request.fields forward.fields) (λ is. is ≡ identifies state forward response)
    (λ is selected. selected
    ∙ asked_last (may_freshen response) (asks_for_storable forward) (selects state.fields state.request.fields forward.fields)
    (validators_agree state.fields forward.fields response.fields) (sym c.may_identify.ensures ∙ c.if-not-may_identify.false))
    c.selects.ensures.answer
