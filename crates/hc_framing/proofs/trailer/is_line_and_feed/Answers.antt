use Rattle.std.proofs.Common.{◌≡◌, ℕ, length, refl, arith, ap, subst, ◌∙◌, Result, Ok}
use Rattle.std.proofs.lemmas.Bool.Decides.{nat_tests}
use Rattle.httparse.specs.Outcome.{IsCompleteAnd}
use Rattle.httparse.specs.declared.Error.{Error}
use Rattle.httparse.specs.declared.Status.{Status}
use Rattle.hc_framing.proofs.TrailerLemmas.{one_line, found_line}
use Rattle.hc_framing.proofs.trailer.is_line_and_feed.Goals as goal

pub returns-then-count-eq1-clause-yes : goal.returns-then-count-eq1-clause-yes
returns-then-count-eq1-clause-yes c = λ same front octets-are.
    one_line c.args.octets.now c.parse_headers.new.headers c.in-Ok-Complete.len c.in-Ok-Complete.count (rw c.in-Ok-Complete.field-0-is at c.in-Ok-Complete.ensures.complete)
    c.if-count-eq1.true (grind (arith, nat_tests, same)) (omega (arith, c.parse_headers.auto.headers)) front octets-are

pub returns-then-count-eq1-clause-no : goal.returns-then-count-eq1-clause-no
returns-then-count-eq1-clause-no c = λ other front octets-are line.
    let h = found_line c.args.octets.now 1 c.parse_headers.new.headers c.parse_headers.result refl c.parse_headers.ensures.found c.parse_headers.ensures.within c.parse_headers.auto.headers front octets-are line in
    let at = subst (λ (r : Result (Status (ℕ × ℕ)) Error). IsCompleteAnd r (λ x. (x.0 ≡ length c.args.octets.now) × (x.1 ≡ 1))) (c.in-Ok-Complete.is ∙ ap (λ s. Ok s) c.in-Ok-Complete.field-0-is) h in
    grind (arith, nat_tests, at.0, other)

pub returns-else-count-eq1-clause-no : goal.returns-else-count-eq1-clause-no
returns-else-count-eq1-clause-no c = λ other front octets-are line.
    let h = found_line c.args.octets.now 1 c.parse_headers.new.headers c.parse_headers.result refl c.parse_headers.ensures.found c.parse_headers.ensures.within c.parse_headers.auto.headers front octets-are line in
    let at = subst (λ (r : Result (Status (ℕ × ℕ)) Error). IsCompleteAnd r (λ x. (x.0 ≡ length c.args.octets.now) × (x.1 ≡ 1))) (c.in-Ok-Complete.is ∙ ap (λ s. Ok s) c.in-Ok-Complete.field-0-is) h in
    c.if-count-eq1.false at.1

pub returns-in-Ok-Partial-clause-no : goal.returns-in-Ok-Partial-clause-no
returns-in-Ok-Partial-clause-no c = λ other front octets-are line.
    let h = found_line c.args.octets.now 1 c.parse_headers.new.headers c.parse_headers.result refl c.parse_headers.ensures.found c.parse_headers.ensures.within c.parse_headers.auto.headers front octets-are line in
    let at = subst (λ (r : Result (Status (ℕ × ℕ)) Error). IsCompleteAnd r (λ x. (x.0 ≡ length c.args.octets.now) × (x.1 ≡ 1))) (c.in-Ok-Partial.is ∙ ap (λ s. Ok s) c.in-Ok-Partial.field-0-is) h in
    absurd at

pub returns-in-Err-clause-no : goal.returns-in-Err-clause-no
returns-in-Err-clause-no c = λ other front octets-are line.
    let h = found_line c.args.octets.now 1 c.parse_headers.new.headers c.parse_headers.result refl c.parse_headers.ensures.found c.parse_headers.ensures.within c.parse_headers.auto.headers front octets-are line in
    let at = subst (λ (r : Result (Status (ℕ × ℕ)) Error). IsCompleteAnd r (λ x. (x.0 ≡ length c.args.octets.now) × (x.1 ≡ 1))) c.in-Err.is h in
    absurd at
