use Rattle.std.proofs.Common.{◌≡◌, ◌∙◌, ◌++◌, ℕ, Bool, Err, length, ap, arith, inl, refl, rules, subst, true, false}
use Rattle.std.proofs.lemmas.Result.{err_from_is_err_and}
use Rattle.hc_service.specs.declared.fault.StepFault.TheVariants.{Failed}
use Rattle.hc_drive.specs.declared.fault.DriveFault.TheVariants.{Core}
use Rattle.hc_order.specs.Passed.{passed}
use Rattle.hc_drive.specs.Drives.{most_rounds, texts_given}
use Rattle.hc_drive.specs.Rounds.{IsRound, MayBreak, stage}
use Rattle.hc_drive.specs.Rounds.Break.{BeforeEvent}
use Rattle.hc_links.proofs.KeepingLemmas.{links_same, links_stay, recorder_same, recorder_stays}
use Rattle.hc_drive.proofs.DriveLemmas.{begins, breaks, broke_off, ended, goes_on, late_all, made_all, never_late}
use Rattle.hc_drive.proofs.driving.drive.Goals as goal

pub rounds-init : goal.rounds-init
rounds-init g c = record {
  so_far = λ log text told held. begins (g.L.Links.most c.args.links.now) (g.L.Links.tells c.args.links.now) (g.R.Link.has_got c.args.recorder.now) c.args.core.now log text told held;
  links = links_same c.args.links.now;
  recorder = recorder_same c.args.recorder.now;
  count = refl;
}

pub rounds-preserved : goal.rounds-preserved
rounds-preserved g c = record {
  so_far = λ log text told held.
      let on : c.in_ok-round.field-0 ≡ true = search rules in
      let f = c.rounds.invariant.so_far log text told held in
      goes_on c.steps_are_runs.ensures c.runs_keep_agreement.ensures c.agreement_is_ready.ensures
      c.runs_go_on.ensures.counted c.what_may_happen_in_turn_is_served.ensures.usual c.what_may_happen_in_turn_is_served.ensures.mirrors (g.L.Links.most c.args.links.now)
      (g.L.Links.tells c.rounds.links) (g.L.Links.tells c.round.new.links) (g.R.Link.has_got c.rounds.recorder) (g.R.Link.has_got c.round.new.recorder)
      _ _ c.round.new.core log text _ f
      (subst (λ (n : ℕ). IsRound n (g.L.Links.tells c.round.new.links) (g.R.Link.has_got c.round.new.recorder) (stage c.rounds.core (passed f.occurrences f.results log) (text ++ texts_given f.results)) c.round.new.core)
      c.rounds.invariant.links.limits.as_many ((rw on at c.in_ok-round.ensures.round) _ _ f.told f.held).0);
  links = links_stay c.rounds.invariant.links c.in_ok-round.ensures.links;
  recorder = recorder_stays c.rounds.invariant.recorder c.in_ok-round.ensures.recorder;
  count = c.in_ok-round.ensures.count ∙ c.rounds.invariant.count;
}

pub returns-in_err-round-clause-drive : goal.returns-in_err-round-clause-drive
returns-in_err-round-clause-drive g c =
    let p = err_from_is_err_and c.from_residual.result c.from_residual.ensures.1 in
    rw (p.1 ∙ ap Err p.2) (λ log text told held.
    let f = c.rounds.invariant.so_far log text told held in
    let b = c.in_err-round.ensures.round _ _ f.told f.held in
    breaks Bool Bool (g.L.Links.most c.args.links.now) c.in_err-round.field-0.0 (g.L.Links.tells c.round.new.links) (g.R.Link.has_got c.round.new.recorder) (g.L.Links.rests c.round.new.links) c.args.core.now c.round.new.core log text _ _ c.in_err-round.ensures.count
    (broke_off c.steps_are_runs.ensures c.runs_keep_agreement.ensures c.agreement_is_ready.ensures
    c.runs_go_on.ensures.counted c.what_may_happen_in_turn_is_served.ensures.usual c.what_may_happen_in_turn_is_served.ensures.mirrors (g.L.Links.most c.args.links.now)
    (g.L.Links.tells c.rounds.links) (g.L.Links.tells c.round.new.links) (g.R.Link.has_got c.rounds.recorder) (g.R.Link.has_got c.round.new.recorder)
    c.args.core.now c.rounds.core c.round.new.core log text _ f (g.L.Links.rests c.round.new.links) c.in_err-round.field-0.0 b.0 (inl b.1) b.2
    (never_late b.0 c.in_err-round.field-0.0 (length f.occurrences) b.1) b.3
    (subst (λ (n : ℕ). MayBreak n b.0 (passed f.occurrences f.results log)) c.rounds.invariant.links.limits.as_many b.4)))

pub returns-then-not-branch-clause-drive : goal.returns-then-not-branch-clause-drive
returns-then-not-branch-clause-drive g c = λ log text told held.
    let off : c.in_ok-round.field-0 ≡ false = search rules in
    let f = c.rounds.invariant.so_far log text told held in
    let d = (rw off at c.in_ok-round.ensures.round) _ _ f.told f.held in
    ended c.steps_are_runs.ensures c.runs_keep_agreement.ensures c.agreement_is_ready.ensures
    c.runs_go_on.ensures.counted c.what_may_happen_in_turn_is_served.ensures.usual c.what_may_happen_in_turn_is_served.ensures.mirrors (g.L.Links.most c.args.links.now)
    (g.L.Links.tells c.rounds.links) (g.L.Links.tells c.round.new.links) (g.R.Link.has_got c.rounds.recorder) (g.R.Link.has_got c.round.new.recorder)
    c.args.core.now c.rounds.core c.round.new.core log text _ f d.0 d.1 d.2

pub returns-clause-drive : goal.returns-clause-drive
returns-clause-drive g c = λ log text told held.
    let f = c.rounds.invariant.so_far log text told held in
    let all : c.rounds.counter ≡ most_rounds = omega (arith, c.rounds-test.false) in
    broke_off c.steps_are_runs.ensures c.runs_keep_agreement.ensures c.agreement_is_ready.ensures
    c.runs_go_on.ensures.counted c.what_may_happen_in_turn_is_served.ensures.usual c.what_may_happen_in_turn_is_served.ensures.mirrors (g.L.Links.most c.args.links.now)
    (g.L.Links.tells c.rounds.links) (g.L.Links.tells c.rounds.links) (g.R.Link.has_got c.rounds.recorder) (g.R.Link.has_got c.rounds.recorder)
    c.args.core.now c.rounds.core c.rounds.core log text _ f (g.L.Links.rests c.rounds.links) (Core Failed) BeforeEvent (made_all _ _ _ _ _ _ log text _ f all) refl (late_all _ _ _ _ _ log text _ f all) (f.told, f.held) tt

pub returns-in_err-round-clause-links : goal.returns-in_err-round-clause-links
returns-in_err-round-clause-links g c = links_stay c.rounds.invariant.links c.round.ensures.links

pub returns-in_err-round-clause-recorder : goal.returns-in_err-round-clause-recorder
returns-in_err-round-clause-recorder g c = recorder_stays c.rounds.invariant.recorder c.round.ensures.recorder

pub returns-then-not-branch-clause-links : goal.returns-then-not-branch-clause-links
returns-then-not-branch-clause-links g c = links_stay c.rounds.invariant.links c.round.ensures.links

pub returns-then-not-branch-clause-recorder : goal.returns-then-not-branch-clause-recorder
returns-then-not-branch-clause-recorder g c = recorder_stays c.rounds.invariant.recorder c.round.ensures.recorder
