use Rattle.std.proofs.Common.{◌≡◌, ◌∙◌, ◌++◌, ◌∷◌, List, [], ap, append_assoc, append-nil, rules, subst, sym, true}
use Rattle.hc_service.specs.declared.event.Event.{Event}
use Rattle.hc_service.specs.State.{usual_options}
use Rattle.hc_core.specs.Runs.{IsRunOf}
use Rattle.hc_core.proofs.RunLemmas.{begins, ended, leads_to_runs, none_left, went_on, was_cut_off}
use Rattle.hc_core.proofs.running.take_steps.Goals as goal

pub events-init : goal.events-init
events-init g c = record {
  recorded = λ settings good stands none opens. begins settings _ _ c.args.core.now none opens stands;
  left = search rules;
}

pub events-preserved : goal.events-preserved
events-preserved g c = record {
  recorded = λ settings good stands none opens.
      let on : c.in_ok-take_step.field-0 ≡ true = search rules in
      went_on settings (c.steps_end_ready.ensures settings good usual_options) c.in-Some.event c.events.yielded _ _ _ _ c.in_ok-take_step.field-0
      (c.events.invariant.recorded settings good stands none opens) c.in_ok-take_step.ensures on;
  left = append_assoc c.events.yielded (c.in-Some.event ∷ []) c.next.new.self.rest.items
      ∙ ap (λ (xs : List Event). c.events.yielded ++ xs) (sym c.in-Some.ensures.steps.0) ∙ c.events.invariant.left;
}

pub returns-then-not-branch : goal.returns-then-not-branch
returns-then-not-branch g c = λ settings good stands none opens.
    let left : c.events.yielded ++ c.in-Some.event ∷ c.next.new.self.rest.items ≡ c.args.events.items =
    ap (λ (xs : List Event). c.events.yielded ++ xs) (sym c.in-Some.ensures.steps.0) ∙ c.events.invariant.left in
    let all = was_cut_off settings (c.steps_end_ready.ensures settings good usual_options) c.in-Some.event c.events.yielded _ _ _ _ c.in_ok-take_step.field-0
    (c.events.invariant.recorded settings good stands none opens) c.in_ok-take_step.ensures c.next.new.self.rest.items good
    (leads_to_runs settings (c.steps_are_runs.ensures settings good)) c.if-not-branch.true in
    subst (λ (xs : List Event). IsRunOf settings xs c.take_step.new.recording.results.items c.take_step.new.recording.text.items) left all

pub returns : goal.returns
returns g c = λ settings good stands none opens.
    let none_more = none_left c.events.event-iterator.rest.items _ c.events.event-iterator.rest.ok.0 c.in-None.ensures.steps.0 in
    let whole : c.events.yielded ≡ c.args.events.items =
    sym (append-nil c.events.yielded) ∙ ap (λ (xs : List Event). c.events.yielded ++ xs) (sym none_more) ∙ c.events.invariant.left in
    let all = ended settings c.events.yielded _ _ _ good (leads_to_runs settings (c.steps_are_runs.ensures settings good))
    (c.events.invariant.recorded settings good stands none opens) in
    subst (λ (xs : List Event). IsRunOf settings xs c.events.recording.results.items c.events.recording.text.items) whole all
