-- A wrong reply isn't right, and is wrong by one reason.
use Rattle.std.proofs.Common.{◌≡◌, ℕ, ◌<◌, Bool, true, false, eqb, List, refl, ap, sym, ◌∙◌, arith, inl, inr}
use Rattle.std.specs.Prelude.{if◌then◌else◌}
use Rattle.std.proofs.lemmas.Bool.{cases_lt}
use Rattle.hc_status.specs.declared.marks.Mark.{Mark}
use Rattle.hc_status.specs.declared.marks.Mark.TheVariants.{Hit, Forwarded, Both, Unmarked}
use Rattle.hc_transcript.specs.Items.{Item}
use Rattle.hc_history.specs.declared.reasons.Reason.{Reason}
use Rattle.hc_history.specs.declared.reasons.Reason.TheVariants as reason
use Rattle.hc_history.specs.declared.among.Among.TheVariants.{Any}
use Rattle.hc_history.specs.Names.{reason_number}
use Rattle.hc_history.specs.Claims.{Claim}
use Rattle.hc_history.specs.Reused.{IsFirstFailed, filter_count}
use Rattle.hc_history.specs.Right.{IsRightBy, IsWrongBy, IsRightForwarded, IsWrongForwarded, is_judged_collapsed}
use Rattle.hc_history.proofs.FurthestLemmas.{Pass-fewer}

-- the reason of a number, so that two reasons have two numbers
reason_of : ℕ → Reason
reason_of n =
    if eqb n 1 then reason.NoResponse
    else if eqb n 2 then reason.Vary
    else if eqb n 3 then reason.Invalidated
    else if eqb n 4 then reason.NoExplicitFreshness
    else if eqb n 5 then reason.NotAllowed
    else if eqb n 6 then reason.Body
    else if eqb n 7 then reason.Fields
    else if eqb n 8 then reason.Age
    else if eqb n 9 then reason.Ttl
    else if eqb n 10 then reason.NotForwarded
    else if eqb n 11 then reason.Unmarked
    else if eqb n 12 then reason.BothMarks
    else reason.NotCollapsible

named_back : (why : Reason) → reason_of (reason_number why) ≡ why
unfolding reason_of
named_back reason.NoResponse = refl
named_back reason.Vary = refl
named_back reason.Invalidated = refl
named_back reason.NoExplicitFreshness = refl
named_back reason.NotAllowed = refl
named_back reason.Body = refl
named_back reason.Fields = refl
named_back reason.Age = refl
named_back reason.Ttl = refl
named_back reason.NotForwarded = refl
named_back reason.Unmarked = refl
named_back reason.BothMarks = refl
named_back reason.NotCollapsible = refl

one_number : (why other : Reason) → reason_number why ≡ reason_number other → why ≡ other
one_number why other e = sym (named_back why) ∙ ap reason_of e ∙ named_back other

first_below : (n m : ℕ) (claim : Claim) (h : List Item) → IsFirstFailed n claim h → IsFirstFailed m claim h → n < m → ⊥
first_below n m claim h one other lt = one.leaves_nobody (other.earlier n one.is_filter.0 lt)

one_first : (n m : ℕ) (claim : Claim) (h : List Item) → IsFirstFailed n claim h → IsFirstFailed m claim h → n ≡ m
one_first n m claim h one other =
    elim (cases_lt n m) [
      | inl lt ↦ absurd (first_below n m claim h one other lt)
      | inr ge ↦ elim (cases_lt m n) [ inl lt ↦ absurd (first_below m n claim h other one lt) | inr le ↦ omega arith ]
    ]

one_reason_forwarded : (judged : Bool) (claim : Claim) (h : List Item) (why other : Reason) → IsWrongForwarded judged claim h why → IsWrongForwarded judged claim h other
    → why ≡ other
one_reason_forwarded true claim h why other one two = one.0 ∙ sym two.0
one_reason_forwarded false claim h why other one two = one.0 ∙ sym two.0

pub one_reason : (mark : Mark) (claim : Claim) (h : List Item) (why other : Reason) → IsWrongBy mark claim h why → IsWrongBy mark claim h other → why ≡ other
one_reason (Hit ttl) claim h why other one two = one_number why other (one_first (reason_number why) (reason_number other) claim h one two)
one_reason (Forwarded collapsed) claim h why other one two = one_reason_forwarded (is_judged_collapsed claim.format collapsed) claim h why other one two
one_reason Both claim h why other one two = one ∙ sym two
one_reason Unmarked claim h why other one two = one.0 ∙ sym two.0

apart : {b : Bool} → b ≡ true → b ≡ false → ⊥
apart yes_it no_it = cc

not_both_forwarded : (judged : Bool) (claim : Claim) (h : List Item) (why : Reason) → IsRightForwarded judged claim h → ¬ (IsWrongForwarded judged claim h why)
not_both_forwarded true claim h why right wrong = wrong.1 right
not_both_forwarded false claim h why right wrong = elim right [ inl carried ↦ apart carried wrong.1.0 | inr stored ↦ wrong.1.1 stored ]

pub not_both : (mark : Mark) (claim : Claim) (h : List Item) (why : Reason) → IsRightBy mark claim h → ¬ (IsWrongBy mark claim h why)
not_both (Hit ttl) claim h why right wrong = wrong.leaves_nobody (Pass-fewer (reason_number why) filter_count Any claim h wrong.is_filter.1 right)
not_both (Forwarded collapsed) claim h why right wrong = not_both_forwarded (is_judged_collapsed claim.format collapsed) claim h why right wrong
not_both Both claim h why right wrong = right
not_both Unmarked claim h why right wrong = apart right wrong.1
