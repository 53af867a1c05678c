use Rattle.std.proofs.Common.{◌≡◌, refl, rules}
use Rattle.hc_service.specs.declared.event.Happening.TheVariants.{ClientOpened}
use Rattle.std.proofs.lemmas.Result.{err_from_is_err_and}
use Rattle.hc_connection.specs.Forwards.{AreKept}
use Rattle.hc_connection.specs.Sides.{Tells}
use Rattle.hc_connection.proofs.ConnectionLemmas.{heard_now, next_now}
use Rattle.hc_connection.proofs.OrderLemmas.{next_may, opening_may}
use Rattle.hc_connection.proofs.TellLemmas.{opens_by, opens_heard}
use Rattle.hc_connection.proofs.connection.ConnectionLinks.next.Goals as goal

pub returns-in_err-happening-clause-tells : goal.returns-in_err-happening-clause-tells
returns-in_err-happening-clause-tells g c =
    let p = err_from_is_err_and c.from_residual.result c.from_residual.ensures.1 in
    rw p.1 (λ log t. (
      c.in_err-happening.ensures.tells log t.0,
      opens_by c.args.self.now.opened _ _ log log refl refl c.in_err-happening.ensures.number t.1,
      t.2,
      c.in_err-happening.ensures.kept log t.3,
      t.4,
    ))

pub returns-in-None-clause-tells : goal.returns-in-None-clause-tells
returns-in-None-clause-tells g c = λ log t. (
  (rw c.in-None.is at c.in_ok-happening.ensures.tells) log t.0,
  opens_by c.args.self.now.opened _ _ log log refl refl c.in_ok-happening.ensures.number t.1,
  t.2,
  (rw c.in-None.is at c.in_ok-happening.ensures.kept) log t.3,
  t.4,
)

pub returns-in-Some-clause-tells : goal.returns-in-Some-clause-tells
returns-in-Some-clause-tells g c = λ log t.
    let occurrence = c.now-in-Some.result in
    let is = c.now-in-Some.ensures.of in
    let why = c.now-in-Some.ensures.reason in
    let happened = c.in-Some.happened in
    let kept = (rw c.in-Some.is at c.in_ok-happening.ensures.kept) log t.3 in (
      heard_now (Tells g.C.Link.has_given g.C.Link.has_got g.C.Link.was_read g.C.Link.count c.happening.new.self.client) occurrence happened.of happened.reason log is why
          ((rw c.in-Some.is at c.in_ok-happening.ensures.tells) log t.0),
      opens_heard c.args.self.now.opened _ _ occurrence log c.if-not-self.false c.in_ok-happening.ensures.number t.1,
      (c.now-in-Some.ensures.moment, t.2),
      heard_now (AreKept g.O.Link.Link.has_given g.O.Link.Link.has_got c.happening.new.self.forwards.links) occurrence happened.of happened.reason log is why kept.1,
      (next_now occurrence happened.of log is kept.0, t.4),
    )

pub returns-in-Some-clause-orderly : goal.returns-in-Some-clause-orderly
returns-in-Some-clause-orderly g c = λ log t.
    let occurrence = c.now-in-Some.result in
    let is = c.now-in-Some.ensures.of in
    let happened = c.in-Some.happened in
    let kept = (rw c.in-Some.is at c.in_ok-happening.ensures.kept) log t.3 in
    let told =
    heard_now (Tells g.C.Link.has_given g.C.Link.has_got g.C.Link.was_read g.C.Link.count c.happening.new.self.client) occurrence happened.of happened.reason log is
    c.now-in-Some.ensures.reason ((rw c.in-Some.is at c.in_ok-happening.ensures.tells) log t.0) in
    next_may c.args.self.now.opened _ occurrence log c.if-not-self.false (next_now occurrence happened.of log is kept.0)
    (opens_by c.args.self.now.opened _ _ log log refl refl c.in_ok-happening.ensures.number t.1) told.own told.in_time

pub returns-then-not-self-clause-orderly : goal.returns-then-not-self-clause-orderly
returns-then-not-self-clause-orderly g c = λ log t.
    let is : c.now.result.event.of ≡ ClientOpened c.args.self.now.peers.client.number = search rules in
    opening_may c.args.self.now.opened _ c.now.result log c.if-not-self.true is t.1
