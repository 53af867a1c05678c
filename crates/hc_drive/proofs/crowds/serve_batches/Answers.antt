use Rattle.std.proofs.Common.{◌≡◌, ◌∙◌, ◌++◌, ℕ, Err, Ok, ap, arith, false, inl, inr, refl, rules, subst, true}
use Rattle.std.proofs.lemmas.Result.{err_from_is_err_and}
use Rattle.hc_service.specs.declared.fault.StepFault.TheVariants.{Failed}
use Rattle.hc_order.specs.Passed.{passed}
use Rattle.hc_links.proofs.KeepingLemmas.{limits_same, limits_stay, recorder_same, recorder_stays}
use Rattle.hc_drive.specs.declared.fault.DriveFault.TheVariants.{Core}
use Rattle.hc_drive.specs.Crowds.{telling}
use Rattle.hc_drive.specs.Drives.{texts_given}
use Rattle.hc_drive.specs.Rounds.{IsRound, MayBreak, stage}
use Rattle.hc_drive.specs.Rounds.Break.{BeforeEvent}
use Rattle.hc_drive.proofs.CrowdLemmas.{all_served, broke_off, idle_on, pause_on, round_on, safe_paused, safe_still, told_of_pause, turns_begin}
use Rattle.hc_drive.proofs.crowds.serve_batches.Goals as goal

pub turns-init : goal.turns-init
turns-init g c = record {
  laws = record {
    runs = c.steps_are_runs.ensures;
    keeps = c.runs_keep_agreement.ensures;
    is_ready = c.agreement_is_ready.ensures;
    counted = c.runs_go_on.ensures.counted;
    usual = c.what_may_happen_in_turn_is_served.ensures.usual;
    mirrored = c.what_may_happen_in_turn_is_served.ensures.mirrors;
    agrees = c.new_cache_agrees.ensures;
    empty = c.a_new_cache_mirrors_what_is_before.ensures.empty;
  };
  so_far = λ log text told held. turns_begin (g.L.Links.most c.args.links.now) (telling g.L.Links.tells g.L.Links.shows g.R.Link.has_got g.R.Link.has_kept c.args.links.now c.args.recorder.now) (stage c.args.core.now log text) told held;
  limits = limits_same c.args.links.now;
  recorder = recorder_same c.args.recorder.now;
  count = refl;
  watched = g.met.V.Watcher.stays c.args.watcher.now;
}

pub turns-preserved-then-branch : goal.turns-preserved-then-branch
turns-preserved-then-branch g c = record {
  laws = c.turns.invariant.laws;
  so_far = λ log text told held.
      let on : c.in_ok-round.field-0 ≡ true = search rules in
      let f = c.turns.invariant.so_far log text told held in
      let now = telling g.L.Links.tells g.L.Links.shows g.R.Link.has_got g.R.Link.has_kept c.round.new.links c.round.new.recorder in
      round_on f {new = now} c.turns.invariant.laws c.round.new.core (record { shown = c.in_ok-round.ensures.links.shown; kept = c.in_ok-round.ensures.recorder.kept })
      (subst (λ (n : ℕ). IsRound n (g.L.Links.tells c.round.new.links) (g.R.Link.has_got c.round.new.recorder) (stage c.turns.core (passed f.so_far.occurrences f.so_far.results log) (text ++ texts_given f.so_far.results)) c.round.new.core)
      c.turns.invariant.limits.as_many ((rw on at c.in_ok-round.ensures.round) _ _ f.so_far.told f.so_far.held).0);
  limits = limits_stay c.turns.invariant.limits c.in_ok-round.ensures.links.limits;
  recorder = recorder_stays c.turns.invariant.recorder c.in_ok-round.ensures.recorder;
  count = c.in_ok-round.ensures.count ∙ c.turns.invariant.count;
  watched = g.met.V.Watcher.goes_on c.args.watcher.now c.turns.watcher c.round.new.watcher c.turns.invariant.watched c.in_ok-round.ensures.watched;
}

pub turns-preserved : goal.turns-preserved
turns-preserved g c = record {
  laws = c.turns.invariant.laws;
  so_far = λ log text told held.
      let off : c.in_ok-round.field-0 ≡ false = search rules in
      let f = c.turns.invariant.so_far log text told held in
      let between = telling g.L.Links.tells g.L.Links.shows g.R.Link.has_got g.R.Link.has_kept c.round.new.links c.round.new.recorder in
      let now = telling g.L.Links.tells g.L.Links.shows g.R.Link.has_got g.R.Link.has_kept c.pause.new.links c.pause.new.recorder in
      let i = idle_on f {new = between} c.round.new.core (record { shown = c.in_ok-round.ensures.links.shown; kept = c.in_ok-round.ensures.recorder.kept })
      ((rw off at c.in_ok-round.ensures.round) _ _ f.so_far.told f.so_far.held) in
      pause_on i {new = now} c.in_ok-pause.ensures.tells c.in_ok-pause.ensures.got c.in_ok-pause.ensures.safe;
  limits = limits_stay c.turns.invariant.limits (limits_stay c.in_ok-round.ensures.links.limits c.in_ok-pause.ensures.limits);
  recorder = recorder_stays c.turns.invariant.recorder (recorder_stays c.in_ok-round.ensures.recorder c.in_ok-pause.ensures.recorder);
  count = c.in_ok-pause.ensures.count ∙ c.in_ok-round.ensures.count ∙ c.turns.invariant.count;
  watched = g.met.V.Watcher.goes_on c.args.watcher.now c.round.new.watcher c.pause.new.watcher
      (g.met.V.Watcher.goes_on c.args.watcher.now c.turns.watcher c.round.new.watcher c.turns.invariant.watched c.in_ok-round.ensures.watched) c.in_ok-pause.ensures.watched;
}

pub returns-then-branch-2-clause-serves : goal.returns-then-branch-2-clause-serves
returns-then-branch-2-clause-serves g c = λ log text told held.
    let over : c.in_ok-pause.field-0 ≡ true = search rules in
    let off : c.in_ok-round.field-0 ≡ false = search rules in
    let f = c.turns.invariant.so_far log text told held in
    let between = telling g.L.Links.tells g.L.Links.shows g.R.Link.has_got g.R.Link.has_kept c.round.new.links c.round.new.recorder in
    let now = telling g.L.Links.tells g.L.Links.shows g.R.Link.has_got g.R.Link.has_kept c.pause.new.links c.pause.new.recorder in
    let i = idle_on f {new = between} c.round.new.core (record { shown = c.in_ok-round.ensures.links.shown; kept = c.in_ok-round.ensures.recorder.kept })
    ((rw off at c.in_ok-round.ensures.round) _ _ f.so_far.told f.so_far.held) in
    all_served i {new = now} c.turns.invariant.laws c.in_ok-pause.ensures.tells c.in_ok-pause.ensures.got c.in_ok-pause.ensures.safe
    (g.met.L.Batches.all_closed c.pause.new.links (passed i.so_far.occurrences i.so_far.results log) (c.in_ok-pause.ensures.over (ap Ok over)))

pub returns-in_err-round-clause-serves : goal.returns-in_err-round-clause-serves
returns-in_err-round-clause-serves g c =
    let p = err_from_is_err_and c.from_residual.result c.from_residual.ensures.1 in
    rw (p.1 ∙ ap Err p.2) (λ log text told held.
    let f = c.turns.invariant.so_far log text told held in
    let b = c.in_err-round.ensures.round _ _ f.so_far.told f.so_far.held in
    let now = telling g.L.Links.tells g.L.Links.shows g.R.Link.has_got g.R.Link.has_kept c.round.new.links c.round.new.recorder in
    broke_off f {new = now} c.turns.invariant.laws c.round.new.core (g.met.L.Batches.in_time c.round.new.links) (omega (arith, c.turns-test.true)) c.in_err-round.field-0.0 b.0 (inl b.1) b.2 b.3
    (subst (λ (n : ℕ). MayBreak n b.0 (passed f.so_far.occurrences f.so_far.results log)) c.turns.invariant.limits.as_many b.4)
    (safe_still f {new = now} (record { shown = c.in_err-round.ensures.links.shown; kept = c.in_err-round.ensures.recorder.kept })))

pub returns-in_err-pause-clause-serves : goal.returns-in_err-pause-clause-serves
returns-in_err-pause-clause-serves g c =
    let p = err_from_is_err_and c.from_residual-in_err-pause.result c.from_residual-in_err-pause.ensures.1 in
    rw (p.1 ∙ ap Err p.2) (λ log text told held.
    let off : c.in_ok-round.field-0 ≡ false = search rules in
    let f = c.turns.invariant.so_far log text told held in
    let between = telling g.L.Links.tells g.L.Links.shows g.R.Link.has_got g.R.Link.has_kept c.round.new.links c.round.new.recorder in
    let now = telling g.L.Links.tells g.L.Links.shows g.R.Link.has_got g.R.Link.has_kept c.pause.new.links c.pause.new.recorder in
    let i = idle_on f {new = between} c.round.new.core (record { shown = c.in_ok-round.ensures.links.shown; kept = c.in_ok-round.ensures.recorder.kept })
    ((rw off at c.in_ok-round.ensures.round) _ _ f.so_far.told f.so_far.held) in
    broke_off i {new = now} c.turns.invariant.laws c.round.new.core (g.met.L.Batches.in_time c.pause.new.links) (omega (arith, c.turns-test.true)) c.in_err-pause.field-0.0 BeforeEvent
    (told_of_pause c.in_err-pause.field-0.0 c.in_err-pause.ensures.why) refl
    (c.in_err-pause.ensures.tells (passed i.so_far.occurrences i.so_far.results log) i.so_far.told, c.in_err-pause.ensures.got (text ++ texts_given i.so_far.results) i.so_far.held) tt
    (safe_paused i {new = now} c.in_err-pause.ensures.safe))

pub returns-clause-serves : goal.returns-clause-serves
returns-clause-serves g c = λ log text told held.
    let f = c.turns.invariant.so_far log text told held in
    broke_off f {new = telling g.L.Links.tells g.L.Links.shows g.R.Link.has_got g.R.Link.has_kept c.turns.links c.turns.recorder} c.turns.invariant.laws c.turns.core (g.met.L.Batches.in_time c.turns.links) (omega (arith, c.turns-test.false, c.turns.auto.counter-end)) (Core Failed) BeforeEvent (inr (refl, inr refl)) refl
    (f.so_far.told, f.so_far.held) tt f.safe

pub returns-in_err-round-clause-limits : goal.returns-in_err-round-clause-limits
returns-in_err-round-clause-limits g c = limits_stay c.turns.invariant.limits c.round.ensures.links.limits

pub returns-in_err-round-clause-recorder : goal.returns-in_err-round-clause-recorder
returns-in_err-round-clause-recorder g c = recorder_stays c.turns.invariant.recorder c.round.ensures.recorder

pub returns-in_err-pause-clause-limits : goal.returns-in_err-pause-clause-limits
returns-in_err-pause-clause-limits g c = limits_stay c.turns.invariant.limits (limits_stay c.round.ensures.links.limits c.pause.ensures.limits)

pub returns-in_err-pause-clause-recorder : goal.returns-in_err-pause-clause-recorder
returns-in_err-pause-clause-recorder g c = recorder_stays c.turns.invariant.recorder (recorder_stays c.round.ensures.recorder c.pause.ensures.recorder)

pub returns-then-branch-2-clause-limits : goal.returns-then-branch-2-clause-limits
returns-then-branch-2-clause-limits g c = limits_stay c.turns.invariant.limits (limits_stay c.round.ensures.links.limits c.pause.ensures.limits)

pub returns-then-branch-2-clause-recorder : goal.returns-then-branch-2-clause-recorder
returns-then-branch-2-clause-recorder g c = recorder_stays c.turns.invariant.recorder (recorder_stays c.round.ensures.recorder c.pause.ensures.recorder)
