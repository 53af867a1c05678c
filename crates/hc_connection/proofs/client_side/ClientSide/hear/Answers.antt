use Rattle.std.proofs.Common.{refl, ◌∙◌, sym, subst, ℕ, ◌<◌}
use Rattle.hc_connection.specs.Moves.{most_replies}
use Rattle.hc_connection.proofs.TellLemmas.{broken, by_peer, ended, heard, is_on, read_still}
use Rattle.hc_connection.proofs.client_side.ClientSide.hear.Goals as goal

pub returns-in-Octets-clause-tells : goal.returns-in-Octets-clause-tells
returns-in-Octets-clause-tells g c = λ log tells moment.
    let read = c.may_read.ensures.may log tells c.if-not-may_read.false in
    let left = c.if-is_left.ensures refl in
    let on = is_on _ _ (sym c.if-is_heard_out.ensures) in
    let works = c.if-self.false in
    let same = c.may_read.ensures.same in
    let came = rw c.in-Octets.is at c.in_ok-octets.ensures.given in
    heard g.C.Link.has_given g.C.Link.has_got g.C.Link.was_read g.C.Link.count c.may_read.new.self log read c.read_some.new.link (same.1 ∙ works) c.in_ok-octets.ensures.got c.in-Octets.octets moment
    (subst (λ (n : ℕ). n < most_replies) (sym same.2) left) (same.3 ∙ on.1) (same.4 ∙ on.0) came.0
    came.1 (rw c.in-Octets.is at c.in_ok-octets.ensures.reads) (rw c.in-Octets.is at c.in_ok-octets.ensures.count)

pub returns-in-End-clause-tells : goal.returns-in-End-clause-tells
returns-in-End-clause-tells g c = λ log tells.
    let read = c.may_read.ensures.may log tells c.if-not-may_read.false in
    let left = c.if-is_left.ensures refl in
    let works = c.if-self.false in
    let same = c.may_read.ensures.same in
    let done =
    ended g.C.Link.has_given g.C.Link.has_got g.C.Link.was_read g.C.Link.count c.may_read.new.self log read c.read_some.new.link (same.1 ∙ works) c.in_ok-octets.ensures.got
    (rw c.in-End.is at c.in_ok-octets.ensures.given) (rw c.in-End.is at c.in_ok-octets.ensures.reads) (rw c.in-End.is at c.in_ok-octets.ensures.count) in
    c.leave_for.ensures.tells log done
    (by_peer g.C.Link.has_given g.C.Link.has_got g.C.Link.was_read g.C.Link.count _ log done (subst (λ (n : ℕ). n < most_replies) (sym same.2) left)
    (read_still g.C.Link.has_given g.C.Link.has_got g.C.Link.was_read g.C.Link.count c.may_read.new.self log read))

pub returns-in-Failure-clause-tells : goal.returns-in-Failure-clause-tells
returns-in-Failure-clause-tells g c = λ log tells.
    let read = c.may_read.ensures.may log tells c.if-not-may_read.false in
    let left = c.if-is_left.ensures refl in
    let works = c.if-self.false in
    let same = c.may_read.ensures.same in
    let done =
    broken g.C.Link.has_given g.C.Link.has_got g.C.Link.was_read g.C.Link.count c.may_read.new.self log read c.read_some.new.link (same.1 ∙ works) c.in_ok-octets.ensures.got
    (rw c.in-Failure.is at c.in_ok-octets.ensures.given) (rw c.in-Failure.is at c.in_ok-octets.ensures.reads) (rw c.in-Failure.is at c.in_ok-octets.ensures.count) in
    c.leave_for-in-Failure.ensures.tells log done
    (by_peer g.C.Link.has_given g.C.Link.has_got g.C.Link.was_read g.C.Link.count _ log done (subst (λ (n : ℕ). n < most_replies) (sym same.2) left)
    (read_still g.C.Link.has_given g.C.Link.has_got g.C.Link.was_read g.C.Link.count c.may_read.new.self log read))
