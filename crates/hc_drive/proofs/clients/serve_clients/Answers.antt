use Rattle.std.proofs.Common.{◌≡◌, ◌∙◌, ℕ, Bool, Err, ap, arith, refl, subst}
use Rattle.std.proofs.lemmas.Result.{err_from_is_err_and}
use Rattle.hc_transcript.specs.Records.{opening}
use Rattle.hc_service.specs.Sending.{recorded_format}
use Rattle.hc_links.proofs.KeepingLemmas.{recorder_same, recorder_stays}
use Rattle.hc_drive.specs.Clients.{ComeSince, LeftSince, Serving}
use Rattle.hc_drive.proofs.ClientLemmas.{at_fault, counted_from, goes_on, holds_all, holds_as, idle_behind, serving_begins}
use Rattle.hc_drive.proofs.clients.serve_clients.Goals as goal

pub connections-init : goal.connections-init
connections-init g c = record {
  so_far = λ text held.
      serving_begins (g.K.Clock.may_tell c.args.surroundings.now.clock.now) (g.A.Clients.came c.args.clients.now) (g.A.Clients.left c.args.clients.now) (g.R.Link.has_got c.args.recorder.now) c.args.core.now text held;
  idle = λ idle. idle;
  count = refl;
  recorder = recorder_same c.args.recorder.now;
}

pub connections-preserved : goal.connections-preserved
connections-preserved g c = record {
  so_far = λ text held.
      let serving = c.connections.invariant.so_far text held in
      goes_on c.runs_go_on.ensures.on c.runs_go_on.ensures.counted (g.K.Clock.may_tell c.args.surroundings.now.clock.now)
      (g.A.Clients.came c.args.clients.now) (g.A.Clients.came c.connections.clients) (g.A.Clients.came c.serve_next.new.clients)
      (g.A.Clients.left c.args.clients.now) (g.A.Clients.left c.connections.clients) (g.A.Clients.left c.serve_next.new.clients)
      (g.R.Link.has_got c.connections.recorder) (g.R.Link.has_got c.serve_next.new.recorder) c.args.core.now c.connections.core c.serve_next.new.core text
      c.connections.served _ _ (omega arith) (omega arith) serving (c.in_ok-serve_next.ensures.serves _ serving.held);
  idle = λ idle. c.in_ok-serve_next.ensures.idle (c.connections.invariant.idle idle);
  count = c.in_ok-serve_next.ensures.count ∙ c.connections.invariant.count;
  recorder = recorder_stays c.connections.invariant.recorder c.in_ok-serve_next.ensures.recorder;
}

pub returns-in_err-serve_next-clause-transcript : goal.returns-in_err-serve_next-clause-transcript
returns-in_err-serve_next-clause-transcript g c =
    let p = err_from_is_err_and c.from_residual.result c.from_residual.ensures.1 in
    rw (p.1 ∙ ap Err p.2) (λ settings good is_new held.
    holds_as c.runs_go_on.ensures.on c.runs_go_on.ensures.counted c.runs_are_judged_right.ensures c.new_cache_agrees.ensures settings good c.args.core.now is_new
    Bool (g.K.Clock.may_tell c.args.surroundings.now.clock.now) (Err c.in_err-serve_next.field-0.0) c.args.count (ComeSince (g.A.Clients.came c.args.clients.now) (g.A.Clients.came c.serve_next.new.clients)) (LeftSince (g.A.Clients.left c.args.clients.now) (g.A.Clients.left c.serve_next.new.clients)) (g.R.Link.has_got c.serve_next.new.recorder) c.serve_next.new.core
    (at_fault c.runs_go_on.ensures.on c.runs_go_on.ensures.counted (g.K.Clock.may_tell c.args.surroundings.now.clock.now)
    (g.A.Clients.came c.args.clients.now) (g.A.Clients.came c.connections.clients) (g.A.Clients.came c.serve_next.new.clients)
    (g.A.Clients.left c.args.clients.now) (g.A.Clients.left c.connections.clients) (g.A.Clients.left c.serve_next.new.clients)
    (g.R.Link.has_got c.connections.recorder) (g.R.Link.has_got c.serve_next.new.recorder) c.args.core.now c.connections.core c.serve_next.new.core (opening recorded_format)
    c.new_cache_agrees.ensures c.a_new_cache_mirrors_what_is_before.ensures.mirrors c.a_new_cache_mirrors_what_is_before.ensures.rests Bool c.in_err-serve_next.field-0.0
    c.connections.served _ c.args.count (omega (arith, c.connections-test.true)) (omega arith) (c.connections.invariant.so_far (opening recorded_format) held)
    (c.in_err-serve_next.ensures.serves _ (c.connections.invariant.so_far (opening recorded_format) held).held)))

pub returns-in_err-serve_next-clause-serves : goal.returns-in_err-serve_next-clause-serves
returns-in_err-serve_next-clause-serves g c =
    let p = err_from_is_err_and c.from_residual.result c.from_residual.ensures.1 in
    rw (p.1 ∙ ap Err p.2) (λ text held.
    (at_fault c.runs_go_on.ensures.on c.runs_go_on.ensures.counted (g.K.Clock.may_tell c.args.surroundings.now.clock.now)
    (g.A.Clients.came c.args.clients.now) (g.A.Clients.came c.connections.clients) (g.A.Clients.came c.serve_next.new.clients)
    (g.A.Clients.left c.args.clients.now) (g.A.Clients.left c.connections.clients) (g.A.Clients.left c.serve_next.new.clients)
    (g.R.Link.has_got c.connections.recorder) (g.R.Link.has_got c.serve_next.new.recorder) c.args.core.now c.connections.core c.serve_next.new.core text
    c.new_cache_agrees.ensures c.a_new_cache_mirrors_what_is_before.ensures.mirrors c.a_new_cache_mirrors_what_is_before.ensures.rests Bool c.in_err-serve_next.field-0.0
    c.connections.served _ c.args.count (omega (arith, c.connections-test.true)) (omega arith) (c.connections.invariant.so_far text held)
    (c.in_err-serve_next.ensures.serves _ (c.connections.invariant.so_far text held).held)))

pub returns-in_err-serve_next-clause-idle : goal.returns-in_err-serve_next-clause-idle
returns-in_err-serve_next-clause-idle g c =
    let p = err_from_is_err_and c.from_residual.result c.from_residual.ensures.1 in
    rw (p.1 ∙ ap Err p.2) (idle_behind Bool c.in_err-serve_next.field-0.0 c.args.core.now c.connections.core c.serve_next.new.core c.connections.invariant.idle c.in_err-serve_next.ensures.idle)

pub returns-in_err-serve_next-clause-count : goal.returns-in_err-serve_next-clause-count
returns-in_err-serve_next-clause-count g c =
    let p = err_from_is_err_and c.from_residual.result c.from_residual.ensures.1 in
    rw (p.1 ∙ ap Err p.2) (counted_from Bool c.in_err-serve_next.field-0.0 (g.R.Link.count c.args.recorder.now) (g.R.Link.count c.connections.recorder) (g.R.Link.count c.serve_next.new.recorder)
    c.connections.invariant.count c.in_err-serve_next.ensures.count)

pub returns-clause-transcript : goal.returns-clause-transcript
returns-clause-transcript g c =
    λ settings good is_new held.
    holds_all c.runs_go_on.ensures.on c.runs_go_on.ensures.counted c.runs_are_judged_right.ensures c.new_cache_agrees.ensures settings good c.args.core.now is_new
    (g.K.Clock.may_tell c.args.surroundings.now.clock.now) c.connections.served 0 (ComeSince (g.A.Clients.came c.args.clients.now) (g.A.Clients.came c.connections.clients)) (LeftSince (g.A.Clients.left c.args.clients.now) (g.A.Clients.left c.connections.clients)) (g.R.Link.has_got c.connections.recorder) c.connections.core (c.connections.invariant.so_far (opening recorded_format) held)

pub returns-clause-serves : goal.returns-clause-serves
returns-clause-serves g c =
    λ text held.
    let all : c.connections.served ≡ c.args.count = omega (arith, c.connections-test.false) in
    subst (λ (n : ℕ). Serving (g.K.Clock.may_tell c.args.surroundings.now.clock.now) (ComeSince (g.A.Clients.came c.args.clients.now) (g.A.Clients.came c.connections.clients)) (LeftSince (g.A.Clients.left c.args.clients.now) (g.A.Clients.left c.connections.clients)) (g.R.Link.has_got c.connections.recorder) n 0 c.args.core.now c.connections.core text) all
    (c.connections.invariant.so_far text held)
