-- How far a reply gets tells the first filter that leaves nobody.
use Rattle.std.proofs.Common.{◌≡◌, ℕ, zero, suc, ◌+◌, ◌≤◌, ◌<◌, Bool, true, false, List, [], ◌∷◌, length, take, Option, Some, None, refl, sym, ap, subst, ◌∙◌, arith, max, ◌⊎◌, inl, inr}
use Rattle.std.specs.Prelude.{if◌then◌else◌}
use Rattle.std.specs.List.{list_all}
use Rattle.std.proofs.lemmas.Bool.{cases_Bool, cases_lt}
use Rattle.hc_transcript.specs.Items.{Item}
use Rattle.hc_history.specs.declared.reasons.Reason.{Reason}
use Rattle.hc_history.specs.Names.{reason_number}
use Rattle.hc_history.specs.Claims.{Claim}
use Rattle.hc_history.specs.declared.kept.Kept.{Kept}
use Rattle.hc_history.specs.States.{state_at}
use Rattle.hc_history.specs.declared.among.Among.{Among}
use Rattle.hc_history.specs.declared.among.Among.TheVariants.{Any}
use Rattle.hc_history.specs.Allowing.{filters}
use Rattle.hc_history.specs.Reused.{Pass, IsFirstFailed, filter_count, is_looked_at}
use Rattle.hc_history.specs.Furthest.{passed, passed_among, furthest_up_to, furthest}
use Rattle.hc_history.proofs.StateLemmas.{place_of}

-- the first n hold where n is at most the number that hold from the first on
hold_to : (tests : List Bool) (n : ℕ) → n ≤ passed tests → list_all (λ b. b) (take n tests) ≡ true
hold_to tests zero le = refl
hold_to [] (suc n) le = refl
hold_to (true ∷ tests) (suc n) le = hold_to tests n (omega arith)
hold_to (false ∷ tests) (suc n) le = absurd (omega arith)

pub hold_from : (tests : List Bool) (n : ℕ) → n ≤ length tests → list_all (λ b. b) (take n tests) ≡ true → n ≤ passed tests
hold_from tests zero le h = omega arith
hold_from [] (suc n) le h = absurd (omega arith)
hold_from (true ∷ tests) (suc n) le h = omega (arith, hold_from tests n (omega arith) h)
hold_from (false ∷ tests) (suc n) le h = cc

pub passed_few : (tests : List Bool) → passed tests ≤ length tests
passed_few [] = omega arith
passed_few (true ∷ tests) = omega (arith, passed_few tests)
passed_few (false ∷ tests) = omega arith

at_most_max : (n a b : ℕ) → n ≤ max a b → (n ≤ a) ⊎ (n ≤ b)
at_most_max n a b le = elim (cases_lt a n) [ inl lt ↦ inr (omega arith) | inr ge ↦ inl ge ]

found_at : (among : Among) (claim : Claim) (h : List Item) (position n : ℕ) (o : Option Kept) → state_at position h ≡ o → 1 ≤ n → n ≤ passed_among among claim position o
    → Pass n among claim h
found_at among claim h position n None is one le = absurd (omega arith)
found_at among claim h position n (Some kept) is one le =
    elim (cases_Bool (is_looked_at among claim position kept.state)) [
      | inl one_of ↦ record {
        position = position;
        kept = kept;
        is_one = one_of;
        is_its_state = is;
        holds = hold_to (filters claim kept) n (rw one_of at le);
      }
      | inr none_of ↦ absurd (let nobody : n ≤ 0 = rw none_of at le in omega arith)
    ]

found_up_to : (among : Among) (claim : Claim) (h : List Item) (m n : ℕ) → 1 ≤ n → n ≤ furthest_up_to among claim m h → Pass n among claim h
found_up_to among claim h zero n one le = absurd (omega arith)
found_up_to among claim h (suc m) n one le =
    elim (at_most_max n (furthest_up_to among claim m h) (passed_among among claim (suc m) (state_at (suc m) h)) le) [
      | inl before ↦ found_up_to among claim h m n one before
      | inr here ↦ found_at among claim h (suc m) n (state_at (suc m) h) refl one here
    ]

pub Pass-found : (n : ℕ) (among : Among) (claim : Claim) (h : List Item) → 1 ≤ n → n ≤ furthest among claim h → Pass n among claim h
Pass-found n among claim h one le = found_up_to among claim h (length h) n one le

passed_there : (among : Among) (claim : Claim) (position : ℕ) (o : Option Kept) (kept : Kept) → is_looked_at among claim position kept.state ≡ true → o ≡ Some kept
    → passed_among among claim position o ≡ passed (filters claim kept)
passed_there among claim position o kept one is = ap (passed_among among claim position) is ∙ ap (λ (b : Bool). if b then passed (filters claim kept) else 0) one

pub passed_up_to : (among : Among) (claim : Claim) (h : List Item) (position m : ℕ) (kept : Kept) → is_looked_at among claim position kept.state ≡ true
    → state_at position h ≡ Some kept → 1 ≤ position → position ≤ m → passed (filters claim kept) ≤ furthest_up_to among claim m h
passed_up_to among claim h position zero kept one is some le = absurd (omega arith)
passed_up_to among claim h position (suc m) kept one is some le =
    elim (cases_lt m position) [
      | inl last ↦
          let e : position ≡ suc m = omega arith in
          let there = passed_there among claim (suc m) (state_at (suc m) h) kept (subst (λ (k : ℕ). is_looked_at among claim k kept.state ≡ true) e one)
          (subst (λ (k : ℕ). state_at k h ≡ Some kept) e is) in
          omega (arith, there)
      | inr before ↦ omega (arith, passed_up_to among claim h position m kept one is some before)
    ]

pub Pass-only : (n : ℕ) (among : Among) (claim : Claim) (h : List Item) → n ≤ filter_count → Pass n among claim h → n ≤ furthest among claim h
Pass-only n among claim h few p =
    let place = place_of p.position h p.kept p.is_its_state in
    let passes : n ≤ passed (filters claim p.kept) = hold_from (filters claim p.kept) n few p.holds in
    let at_most : passed (filters claim p.kept) ≤ furthest among claim h = passed_up_to among claim h p.position (length h) p.kept p.is_one p.is_its_state place.0 place.1 in
    omega arith

-- the first filter that leaves nobody is the one behind the furthest
pub first_failed : (claim : Claim) (h : List Item) → furthest Any claim h < filter_count → IsFirstFailed (furthest Any claim h + 1) claim h
first_failed claim h lt = record {
  is_filter = (omega arith, omega arith);
  leaves_nobody = λ p. let le = Pass-only (furthest Any claim h + 1) Any claim h (omega arith) p in absurd (omega arith);
  earlier = λ k one below. Pass-found k Any claim h one (omega arith);
}

pub all_passed : (among : Among) (claim : Claim) (h : List Item) → furthest among claim h ≡ filter_count → Pass filter_count among claim h
all_passed among claim h all = Pass-found filter_count among claim h (omega arith) (omega arith)

-- who passes more filters passes fewer
take_all : (tests : List Bool) (n m : ℕ) → n ≤ m → list_all (λ b. b) (take m tests) ≡ true → list_all (λ b. b) (take n tests) ≡ true
take_all tests zero m le all = refl
take_all [] (suc n) m le all = refl
take_all (b ∷ tests) (suc n) zero le all = absurd (omega arith)
take_all (true ∷ tests) (suc n) (suc m) le all = take_all tests n m (omega arith) all
take_all (false ∷ tests) (suc n) (suc m) le all = all

pub Pass-fewer : (n m : ℕ) (among : Among) (claim : Claim) (h : List Item) → n ≤ m → Pass m among claim h → Pass n among claim h
Pass-fewer n m among claim h le p = record {
  position = p.position;
  kept = p.kept;
  is_one = p.is_one;
  is_its_state = p.is_its_state;
  holds = take_all (filters claim p.kept) n m le p.holds;
}

-- the reason of the filter behind as many as the furthest response passes
pub failed_for : (claim : Claim) (h : List Item) (n : ℕ) (why : Reason) → n ≡ furthest Any claim h → reason_number why ≡ n + 1 → n + 1 ≤ filter_count
    → IsFirstFailed (reason_number why) claim h
failed_for claim h n why n-is why-is few =
    subst (λ (k : ℕ). IsFirstFailed k claim h) (ap (λ (m : ℕ). m + 1) (sym n-is) ∙ sym why-is) (first_failed claim h (omega (arith, n-is, few)))

-- so many filters are passed by one response
pub passes : (among : Among) (claim : Claim) (h : List Item) (n k : ℕ) → n ≡ furthest among claim h → 1 ≤ k → k ≤ n → Pass k among claim h
passes among claim h n k n-is one few = Pass-found k among claim h one (omega (arith, n-is, few))
