use Rattle.std.proofs.Common.{Err, Ok, Option, Result, subst, sym}
use Rattle.std.proofs.lemmas.Result.{err_from_is_err_and}
use Rattle.std.specs.declared.alloc.AllocError.{AllocError}
use Rattle.hc_links.specs.declared.happened.Happened.{Happened}
use Rattle.hc_peers.specs.Keeping.{Hears}
use Rattle.hc_peers.specs.Known.{is_cut_at}
use Rattle.hc_crowd.specs.Courses.{EndsUnawaited, EndsUnbegun, FailsAt, is_late}
use Rattle.hc_attended.proofs.KeepingLemmas.{hears_at_once, hears_by_answer}
use Rattle.hc_crowd.proofs.TurnLemmas.{client_ends, client_ends_in_time, forward_ends, forward_ends_in_time}
use Rattle.hc_crowd.proofs.traffic.Traffic.turn.Goals as goal

pub returns-in_ok-heard-in-Client-clause-heard : goal.returns-in_ok-heard-in-Client-clause-heard
returns-in_ok-heard-in-Client-clause-heard g c =
    subst (λ (r : Result (Option Happened) AllocError). Hears g.W.Stream.Stream.has_given g.W.Stream.Stream.has_got (g.A.Awaiting.awaited c.args.cache.now) r c.args.self.now.links.peers c.client_turn.new.self.links.peers)
    (sym c.happened.ensures) (hears_by_answer c.awaits-awaited.ensures c.in_ok-heard-in-Client.ensures.heard)

pub returns-in_err-heard-in-Client-clause-heard : goal.returns-in_err-heard-in-Client-clause-heard
returns-in_err-heard-in-Client-clause-heard g c =
    let p = err_from_is_err_and c.from_residual.result c.from_residual.ensures.1 in
    rw p.1 (hears_by_answer {result = Err p.0} c.awaits-awaited.ensures c.in_err-heard-in-Client.ensures.heard)

pub returns-in_ok-heard-in-Origin-clause-heard : goal.returns-in_ok-heard-in-Origin-clause-heard
returns-in_ok-heard-in-Origin-clause-heard g c =
    subst (λ (r : Result (Option Happened) AllocError). Hears g.W.Stream.Stream.has_given g.W.Stream.Stream.has_got (g.A.Awaiting.awaited c.args.cache.now) r c.args.self.now.links.peers c.origin_turn.new.self.links.peers)
    (sym c.happened-in-Origin.ensures) (hears_at_once c.in_ok-heard-in-Origin.ensures.heard)

pub returns-in_err-heard-in-Origin-clause-heard : goal.returns-in_err-heard-in-Origin-clause-heard
returns-in_err-heard-in-Origin-clause-heard g c =
    let p = err_from_is_err_and c.from_residual-in_err-heard-in-Origin.result c.from_residual-in_err-heard-in-Origin.ensures.1 in
    rw p.1 (hears_at_once {result = Err p.0} c.in_err-heard-in-Origin.ensures.heard)

pub returns-in_ok-heard-in-Client-clause-unbegun : goal.returns-in_ok-heard-in-Client-clause-unbegun
returns-in_ok-heard-in-Client-clause-unbegun g c =
    let holds = g.A.Awaiting.holds c.args.cache.now in
    let heard = c.in_ok-heard-in-Client.ensures.reason in
    subst (λ (r : Result (Option Happened) AllocError). EndsUnbegun holds r) (sym c.happened.ensures)
    (client_ends holds c.in-Client.number heard.0 (is_cut_at c.in-Client.number c.args.self.now.links.peers.clients.links)
    (FailsAt g.W.Stream.Stream.has_failed c.in-Client.number c.args.self.now.links.peers c.client_turn.new.self.links.peers)
    c.held-begun.result (Ok c.in_ok-heard-in-Client.heard) c.held-begun.ensures heard.1.unless_begun heard.4)

pub returns-in_err-heard-in-Client-clause-unbegun : goal.returns-in_err-heard-in-Client-clause-unbegun
returns-in_err-heard-in-Client-clause-unbegun g c = let p = err_from_is_err_and c.from_residual.result c.from_residual.ensures.1 in rw p.1 tt

pub returns-in_ok-heard-in-Origin-clause-unbegun : goal.returns-in_ok-heard-in-Origin-clause-unbegun
returns-in_ok-heard-in-Origin-clause-unbegun g c =
    let holds = g.A.Awaiting.holds c.args.cache.now in
    subst (λ (r : Result (Option Happened) AllocError). EndsUnbegun holds r) (sym c.happened-in-Origin.ensures)
    (forward_ends holds c.in-Origin.forward (Ok c.in_ok-heard-in-Origin.heard))

pub returns-in_err-heard-in-Origin-clause-unbegun : goal.returns-in_err-heard-in-Origin-clause-unbegun
returns-in_err-heard-in-Origin-clause-unbegun g c = let p = err_from_is_err_and c.from_residual-in_err-heard-in-Origin.result c.from_residual-in_err-heard-in-Origin.ensures.1 in rw p.1 tt

pub returns-in_ok-heard-in-Client-clause-unawaited : goal.returns-in_ok-heard-in-Client-clause-unawaited
returns-in_ok-heard-in-Client-clause-unawaited g c =
    let now = c.args.self.now in
    let awaited = g.A.Awaiting.awaited c.args.cache.now in
    let heard = c.in_ok-heard-in-Client.ensures.reason in
    subst (λ (r : Result (Option Happened) AllocError). EndsUnawaited awaited (is_late now.told.course) r) (sym c.happened.ensures)
    (client_ends_in_time awaited c.in-Client.number now.told.course now.links.peers now.links.times.patience heard.0 (is_cut_at c.in-Client.number now.links.peers.clients.links)
    (FailsAt g.W.Stream.Stream.has_failed c.in-Client.number now.links.peers c.client_turn.new.self.links.peers) (Ok c.in_ok-heard-in-Client.heard)
    (subst (awaited c.in-Client.number) (sym heard.2) c.awaits-awaited.ensures) heard.1.late heard.4)

pub returns-in_err-heard-in-Client-clause-unawaited : goal.returns-in_err-heard-in-Client-clause-unawaited
returns-in_err-heard-in-Client-clause-unawaited g c = let p = err_from_is_err_and c.from_residual.result c.from_residual.ensures.1 in rw p.1 tt

pub returns-in_ok-heard-in-Origin-clause-unawaited : goal.returns-in_ok-heard-in-Origin-clause-unawaited
returns-in_ok-heard-in-Origin-clause-unawaited g c =
    let awaited = g.A.Awaiting.awaited c.args.cache.now in
    subst (λ (r : Result (Option Happened) AllocError). EndsUnawaited awaited (is_late c.args.self.now.told.course) r) (sym c.happened-in-Origin.ensures)
    (forward_ends_in_time awaited c.in-Origin.forward (is_late c.args.self.now.told.course) (Ok c.in_ok-heard-in-Origin.heard))

pub returns-in_err-heard-in-Origin-clause-unawaited : goal.returns-in_err-heard-in-Origin-clause-unawaited
returns-in_err-heard-in-Origin-clause-unawaited g c = let p = err_from_is_err_and c.from_residual-in_err-heard-in-Origin.result c.from_residual-in_err-heard-in-Origin.ensures.1 in rw p.1 tt
