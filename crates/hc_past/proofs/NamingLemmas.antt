-- The candidate that is named.
use Rattle.std.proofs.Common.{◌≡◌, ℕ, zero, suc, ◌≤◌, Bool, true, false, nat_lt, List, [], ◌∷◌, Option, Some, None, IfSome, IsSome, refl, sym, ap, ◌∙◌, subst, arith, ◌⊎◌, inl, inr, length, get_or, eqb, ltb, ◌+◌}
use Rattle.std.specs.Prelude.{All, AllPairs, Contains, find, unwrap_or, ◌==◌, ◌||◌, ◌&&◌, if◌then◌else◌}
use Rattle.std.specs.Option.{option_map, option_or}
use Rattle.std.proofs.lemmas.Bool.{cases_lt, eq-eqb}
use Rattle.std.proofs.lemmas.Bool.Decides.{nat_tests}
use Rattle.std.proofs.lemmas.List.Elements.{All-cons, All-contains, All-contains_itself, All-head, All-nil, All-tail}
use Rattle.std.proofs.lemmas.List.Folds.{find-append}
use Rattle.hc_head.specs.declared.head.Target.{Target}
use Rattle.hc_head.specs.Targets.{same_target}
use Rattle.hc_transcript.specs.Items.{Item}
use Rattle.hc_history.specs.declared.candidates.Candidate.{Candidate}
use Rattle.hc_history.specs.declared.kept.Kept.{Kept}
use Rattle.hc_history.specs.declared.among.Among.{Among}
use Rattle.hc_history.specs.declared.among.Among.TheVariants.{Any}
use Rattle.hc_history.specs.Allowing.{filters}
use Rattle.hc_history.specs.Candidates.{AreCandidates, IsCandidate, is_before}
use Rattle.hc_history.specs.Claims.{Claim}
use Rattle.hc_history.specs.Furthest.{passed}
use Rattle.hc_history.specs.Reused.{Pass, filter_count, is_looked_at, IsFirstFailed}
use Rattle.hc_history.specs.Seen.{Live, live_at, live_of, live_up_to}
use Rattle.hc_history.specs.States.{state_at}
use Rattle.hc_history.proofs.FurthestLemmas.{Pass-found, hold_from, passed_up_to}
use Rattle.hc_history.proofs.LiveLemmas.{passed_other}
use Rattle.hc_history.proofs.StateLemmas.{place_of}
use Rattle.hc_index.specs.Lists.{state_in}
use Rattle.hc_past.specs.Naming.{GetsFurthest, HasNone, IsFurthest, IsOfOneOf, IsOneOf, IsPreferred, first_after, first_with_body, has_all, has_its_body, IsNamed, IsThatOf, named_after, reason_told, rule_of}
use Rattle.hc_history.specs.declared.reasons.Reason.{Reason}
use Rattle.hc_history.specs.declared.reasons.Reason.TheVariants as reason
use Rattle.hc_status.specs.declared.marks.Mark.TheVariants as mark
use Rattle.hc_use.specs.declared.rules.Rule.TheVariants as rule
use Rattle.hc_history.specs.Names.{reason_number}
use Rattle.hc_history.proofs.ReasonLemmas.{one_reason}
use Rattle.hc_use.specs.declared.rules.Rule.{Rule}
use Rattle.hc_use.specs.Rules.{IsRuleBehind, reason_of}
use Rattle.hc_past.specs.declared.shortfalls.Nearest.{Nearest}
use Rattle.hc_past.specs.declared.shortfalls.Shortfall.{Shortfall}

-- what holds of the element that is found
chosen : {X : Type 0} (P : X → Type 0) (here : Bool) (x : X) (rest : Option X) → (here ≡ true → P x) → IfSome rest P → IfSome (if here then Some x else rest) P
chosen P true x rest this others = this refl
chosen P false x rest this others = others

found : {X : Type 0} (P : X → Type 0) (test : X → Bool) (xs : List X) → All P xs → IfSome (find test xs) (λ x. P x × (test x ≡ true))
found P test [] all = tt
found P test (x ∷ xs) all = chosen (λ y. P y × (test y ≡ true)) (test x) x (find test xs) (λ is. (All-head P x xs all, is)) (found P test xs (All-tail P x xs all))

-- the first candidate behind a position gets furthest
pub first_gets : (candidates : List Candidate) (since : ℕ) (one : Candidate) → first_after since candidates ≡ Some one → GetsFurthest candidates since one
first_gets candidates since one is =
    let known = found (Contains candidates) (λ c. nat_lt since c.position) candidates (All-contains_itself candidates) in
    let that = subst (λ (o : Option Candidate). IfSome o (λ c. Contains candidates c × (nat_lt since c.position ≡ true))) is known in
    record { among = that.0; after = that.1; furthest = ap (option_map (λ (c : Candidate). c.passed)) is }

-- so does another one that gets as far
pub other_gets : (candidates : List Candidate) (since : ℕ) (first one : Candidate) → first_after since candidates ≡ Some first
    → IsOneOf candidates since first.passed one → GetsFurthest candidates since one
other_gets candidates since first one is other =
    record {
      among = other.among;
      after = other.after;
      furthest = ap (option_map (λ (c : Candidate). c.passed)) is ∙ ap Some (sym other.gets);
    }

-- so does the one that is named: another one, if there is one, and else the first
pub named_gets : (candidates : List Candidate) (since : ℕ) (first : Candidate) (other : Option Candidate) → first_after since candidates ≡ Some first
    → IfSome other (IsOneOf candidates since first.passed) → IfSome (option_or other (Some first)) (GetsFurthest candidates since)
named_gets candidates since first None is none = first_gets candidates since first is
named_gets candidates since first (Some one) is other = other_gets candidates since first one is other

-- ---- of those behind a position, which stand in order, none gets further than the first

some_is : {X : Type 0} (x y : X) → Some x ≡ Some y → x ≡ y
some_is {X = X} x y is = ap (λ (o : Option X). unwrap_or o x) is

apart : {b : Bool} → b ≡ true → b ≡ false → ⊥
apart yes_it no_it = cc

no_less : (a b p q : ℕ) → (ltb b a || (eqb a b && ltb q p)) ≡ true → b ≤ a
no_less a b p q before = grind (arith, nat_tests)

-- the test by which one stands behind, and gets no further than another one
abbrev NoFurther : ℕ → Candidate → Candidate → Type 0
NoFurther since first other = nat_lt since other.position ≡ true → other.passed ≤ first.passed

no_further : (cs : List Candidate) (since : ℕ) (first : Candidate) → AllPairs (λ one other. is_before one other ≡ true) cs → first_after since cs ≡ Some first
    → All (NoFurther since first) cs
no_further [] since first ordered is = All-nil (NoFurther since first)
no_further (c ∷ cs) since first ordered is =
    go (nat_lt since c.position) refl is (no_further cs since first (λ i j d lt below. ordered (suc i) (suc j) d (omega (arith, lt)) (omega (arith, below))))
  where
    go : (here : Bool) → nat_lt since c.position ≡ here → (if here then Some c else first_after since cs) ≡ Some first
        → (first_after since cs ≡ Some first → All (NoFurther since first) cs) → All (NoFurther since first) (c ∷ cs)
    go true here is later =
        let same = ap (λ (one : Candidate). one.passed) (some_is c first is) in
        All-cons (NoFurther since first) c cs (λ behind. omega (arith, same))
        (λ k d lt. λ behind.
        let least = no_less c.passed (get_or cs k d).passed c.position (get_or cs k d).position (ordered 0 (suc k) d (omega arith) (omega (arith, lt))) in
        omega (arith, same, least))
    go false here is later = All-cons (NoFurther since first) c cs (λ behind. absurd (apart behind here)) (later is)

first_known : (o : Option Candidate) (n : ℕ) → option_map (λ (first : Candidate). first.passed) o ≡ Some n → (first : Candidate) × (o ≡ Some first) × (first.passed ≡ n)
first_known None n is = cc
first_known (Some first) n is = (first, refl, some_is first.passed n is)

-- so the one that is named gets as far as any
pub is_furthest : (claim : Claim) (h : List Item) (candidates : List Candidate) (since : ℕ) (one : Candidate) → AreCandidates claim h candidates
    → GetsFurthest candidates since one → IsFurthest claim h since one
is_furthest claim h candidates since one are gets =
    let first = first_known (first_after since candidates) one.passed gets.furthest in
    let least = no_further candidates since first.0 are.in_order first.1 in
    record {
      is_candidate = All-contains (IsCandidate claim h) candidates one are.each gets.among;
      after = gets.after;
      furthest = λ other is behind.
          let few : other.passed ≤ first.0.passed = All-contains (NoFurther since first.0) candidates other least (are.all other is) behind in
          omega (arith, few, first.2);
    }

-- ---- of those that get as far the first is the newest

no_newer : (a b p q : ℕ) → (ltb b a || (eqb a b && ltb q p)) ≡ true → b ≡ a → q ≤ p
no_newer a b p q before even = grind (arith, nat_tests)

-- one that passes the test, and gets as far as another one, is no newer
abbrev NoNewer : (Candidate → Bool) → Candidate → Candidate → Type 0
NoNewer test first other = test other ≡ true → other.passed ≡ first.passed → other.position ≤ first.position

no_newer_one : (cs : List Candidate) (test : Candidate → Bool) (first : Candidate) → AllPairs (λ one other. is_before one other ≡ true) cs → find test cs ≡ Some first
    → All (NoNewer test first) cs
no_newer_one [] test first ordered is = All-nil (NoNewer test first)
no_newer_one (c ∷ cs) test first ordered is =
    go (test c) refl is (no_newer_one cs test first (λ i j d lt below. ordered (suc i) (suc j) d (omega (arith, lt)) (omega (arith, below))))
  where
    go : (here : Bool) → test c ≡ here → (if here then Some c else find test cs) ≡ Some first
        → (find test cs ≡ Some first → All (NoNewer test first) cs) → All (NoNewer test first) (c ∷ cs)
    go true here is later =
        let same = ap (λ (one : Candidate). one.position) (some_is c first is) in
        let as_far = ap (λ (one : Candidate). one.passed) (some_is c first is) in
        All-cons (NoNewer test first) c cs (λ tested even. omega (arith, same))
        (λ k d lt. λ tested even.
        let older = no_newer c.passed (get_or cs k d).passed c.position (get_or cs k d).position (ordered 0 (suc k) d (omega arith) (omega (arith, lt)))
        (even ∙ sym as_far) in
        omega (arith, same, older))
    go false here is later = All-cons (NoNewer test first) c cs (λ tested even. absurd (apart tested here)) (later is)

has_parts : (a b c : Bool) → (a && b && c) ≡ true → (a ≡ true) × (b ≡ true) × (c ≡ true)
has_parts true true true is = (refl, refl, refl)
has_parts true true false is = cc
has_parts true false c is = cc
has_parts false b c is = cc

of_parts : (a b c : Bool) → a ≡ true → b ≡ true → c ≡ true → (a && b && c) ≡ true
of_parts a b c one two three = rw one (rw two three)

even_is : (a b : ℕ) → (a == b) ≡ true → a ≡ b
even_is a b is = grind (arith, nat_tests)

-- where none is found, each fails the test
none_passes : {X : Type 0} (test : X → Bool) (xs : List X) → find test xs ≡ None → All (λ x. test x ≡ false) xs
none_passes {X} test [] is = All-nil (λ (x : X). test x ≡ false)
none_passes {X} test (x ∷ xs) is = go (test x) refl is (none_passes test xs)
  where
    go : (here : Bool) → test x ≡ here → (if here then Some x else find test xs) ≡ None → (find test xs ≡ None → All (λ (y : X). test y ≡ false) xs)
        → All (λ (y : X). test y ≡ false) (x ∷ xs)
    go true here is later = cc
    go false here is later = All-cons (λ (y : X). test y ≡ false) x xs here (later is)

-- so one with the reply's body is preferred, if it is the first of these
with_body_preferred : (claim : Claim) (h : List Item) (candidates : List Candidate) (since passed : ℕ) (one : Candidate) → AreCandidates claim h candidates
    → first_with_body claim h since passed candidates ≡ Some one → IsPreferred claim h since one
with_body_preferred claim h candidates since passed one are is = λ other is_one behind even.
    let test = has_all claim h since passed in
    let known = found (Contains candidates) test candidates (All-contains_itself candidates) in
    let that = subst (λ (o : Option Candidate). IfSome o (λ c. Contains candidates c × (test c ≡ true))) is known in
    let parts = has_parts (nat_lt since one.position) (one.passed == passed) (has_its_body claim h one.position) that.1 in
    let least = All-contains (NoNewer test one) candidates other (no_newer_one candidates test one are.in_order is) (are.all other is_one) in
    record {
      body = λ with_it. parts.2;
      newer = λ same.
          least (of_parts (nat_lt since other.position) (other.passed == passed) (has_its_body claim h other.position) behind
          (eq-eqb other.passed passed (even ∙ even_is one.passed passed parts.1)) (same ∙ parts.2)) even;
    }

-- and else the first
first_preferred : (claim : Claim) (h : List Item) (candidates : List Candidate) (since : ℕ) (one : Candidate) → AreCandidates claim h candidates
    → first_after since candidates ≡ Some one → first_with_body claim h since one.passed candidates ≡ None → IsPreferred claim h since one
first_preferred claim h candidates since one are is none = λ other is_one behind even.
    let test = has_all claim h since one.passed in
    let lacks : test other ≡ false =
    All-contains (λ (c : Candidate). test c ≡ false) candidates other (none_passes test candidates none) (are.all other is_one) in
    let least = All-contains (NoNewer (λ c. nat_lt since c.position) one) candidates other
    (no_newer_one candidates (λ c. nat_lt since c.position) one are.in_order is) (are.all other is_one) in
    record {
      body = λ with_it.
          absurd (apart (of_parts (nat_lt since other.position) (other.passed == one.passed) (has_its_body claim h other.position) behind
          (eq-eqb other.passed one.passed even) with_it) lacks);
      newer = λ same. least behind even;
    }

pub named_is_preferred : (claim : Claim) (h : List Item) (candidates : List Candidate) (since : ℕ) (first : Candidate) (other : Option Candidate)
    → AreCandidates claim h candidates → first_after since candidates ≡ Some first → other ≡ first_with_body claim h since first.passed candidates
    → IfSome (option_or other (Some first)) (IsPreferred claim h since)
named_is_preferred claim h candidates since first None are is none = first_preferred claim h candidates since first are is (sym none)
named_is_preferred claim h candidates since first (Some one) are is other = with_body_preferred claim h candidates since first.passed one are (sym other)

-- and where none is named, none stands behind the position
pub none_behind : (claim : Claim) (h : List Item) (candidates : List Candidate) (since : ℕ) → AreCandidates claim h candidates → first_after since candidates ≡ None
    → HasNone claim h since
none_behind claim h candidates since are none = λ other is.
    All-contains (λ (c : Candidate). nat_lt since c.position ≡ false) candidates other (none_passes (λ (c : Candidate). nat_lt since c.position) candidates none) (are.all other is)

-- ---- what the one that is named keeps, and what is found of the reply

-- it is one earlier response that passes so many
pub it_passes : (n : ℕ) (among : Among) (claim : Claim) (h : List Item) (c : Candidate) (is : IsCandidate claim h c)
    → is_looked_at among claim c.position is.kept.state ≡ true → 1 ≤ n → n ≤ c.passed → Pass n among claim h
it_passes n among claim h c is one some few =
    let place = place_of c.position h is.kept is.is_its_state in
    let least = passed_up_to among claim h c.position (length h) is.kept one is.is_its_state place.0 place.1 in
    Pass-found n among claim h some (omega (arith, few, is.passes, least))

of_target : (claim : Claim) (kept : Kept) (same : Bool) → same_target kept.target claim.target ≡ same → 1 ≤ passed (filters claim kept)
    → same_target kept.target claim.target ≡ true
of_target claim kept true is some = is
of_target claim kept false is some = absurd (omega (arith, some, passed_other claim kept is))

behind_all : (position : ℕ) → 1 ≤ position → nat_lt 0 position ≡ true
behind_all position some = grind (arith, nat_tests)

-- it passes as many as any
pub it_passes_too : (n : ℕ) (claim : Claim) (h : List Item) (c : Candidate) → IsFurthest claim h 0 c → 1 ≤ n → n ≤ filter_count → Pass n Any claim h → n ≤ c.passed
it_passes_too n claim h c is some few pass =
    let enough : n ≤ passed (filters claim pass.kept) = hold_from (filters claim pass.kept) n few pass.holds in
    let place = place_of pass.position h pass.kept pass.is_its_state in
    let other : Candidate = record { position = pass.position; passed = passed (filters claim pass.kept) } in
    let one : IsCandidate claim h other = record {
      kept = pass.kept;
      is_its_state = pass.is_its_state;
      is_of_target = of_target claim pass.kept (same_target pass.kept.target claim.target) refl (omega (arith, some, enough));
      passes = refl;
    } in
    let least : passed (filters claim pass.kept) ≤ c.passed = is.furthest other one (behind_all pass.position place.0) in
    omega (arith, enough, least)

-- ---- what is left of a candidate

abbrev at_place : ℕ → Live → Bool
at_place position live = live.position == position

either_there : {X : Type 0} (one other : Option X) → IsSome one ⊎ IsSome other → IsSome (option_or one other)
either_there None other (inl is) = cc
either_there None other (inr is) = is
either_there (Some x) other is = refl

there_here : (target : Target) (position : ℕ) (kept : Kept) → same_target kept.target target ≡ true
    → IsSome (find (at_place position) (live_at target position (Some kept)))
there_here target position kept same = rw same (rw (eq-eqb position position refl) refl)

there_at : (target : Target) (position : ℕ) (o : Option Kept) (kept : Kept) → o ≡ Some kept → same_target kept.target target ≡ true
    → IsSome (find (at_place position) (live_at target position o))
there_at target position o kept is same =
    subst (λ (one : Option Kept). IsSome (find (at_place position) (live_at target position one))) (sym is) (there_here target position kept same)

there_up_to : (claim : Claim) (n : ℕ) (h : List Item) (c : Candidate) → IsCandidate claim h c → c.position ≤ n
    → IsSome (find (at_place c.position) (live_up_to claim.target n h))
there_up_to claim zero h c is le = absurd (let place = place_of c.position h is.kept is.is_its_state in omega (arith, place.0))
there_up_to claim (suc n) h c is le =
    let front = live_up_to claim.target n h in
    let last = live_at claim.target (suc n) (state_at (suc n) h) in
    subst IsSome (sym (find-append (at_place c.position) front last))
    (either_there (find (at_place c.position) front) (find (at_place c.position) last)
    (elim (cases_lt n c.position) [
      | inl here ↦
          let e : c.position ≡ suc n = omega arith in
          inr (subst (λ (k : ℕ). IsSome (find (at_place c.position) (live_at claim.target k (state_at k h)))) e
          (there_at claim.target c.position (state_at c.position h) is.kept is.is_its_state is.is_of_target))
      | inr before ↦ inl (there_up_to claim n h c is before)
    ]))

mapped_there : {X Y : Type 0} (f : X → Y) (o : Option X) → IsSome o → IsSome (option_map f o)
mapped_there f None is = is
mapped_there f (Some x) is = refl

-- something is left of the response of each candidate
pub candidate_is_left : (claim : Claim) (h : List Item) (c : Candidate) → IsCandidate claim h c → IsSome (state_in c.position (live_of claim.target h))
candidate_is_left claim h c is =
    mapped_there (λ (live : Live). live.state) (find (at_place c.position) (live_of claim.target h))
    (there_up_to claim _ h c is (place_of c.position h is.kept is.is_its_state).1)

-- ---- which response is named, and what is told of it

-- one of them is named, and gets as far as any
pub named_is : (claim : Claim) (h : List Item) (candidates : List Candidate) (since : ℕ) (named : Option Candidate) (nearest : Option Nearest)
    → AreCandidates claim h candidates → IfSome named (GetsFurthest candidates since) → IfSome named (IsPreferred claim h since)
    → IfSome nearest (IsThatOf claim h named) → IfSome nearest (IsNamed claim h since)
named_is claim h candidates since named None are gets preferred that = tt
named_is claim h candidates since named (Some nearest) are gets preferred that =
    let one = subst (λ (o : Option Candidate). IfSome o (GetsFurthest candidates since)) that.1 gets in
    record {
      candidate = that.0;
      is_furthest = is_furthest claim h candidates since that.0 are one;
      is_preferred = subst (λ (o : Option Candidate). IfSome o (IsPreferred claim h since)) that.1 preferred;
      is_that = that.2;
    }

no_none : {X : Type 0} (o : Option X) → o ≡ None → IsSome o → ⊥
no_none None is there = cc
no_none (Some x) is there = cc

-- where none is named, none of them stands behind the position
pub none_named : (claim : Claim) (h : List Item) (candidates : List Candidate) (since : ℕ) (named : Option Candidate) (nearest : Option Nearest)
    → AreCandidates claim h candidates → IfSome named (GetsFurthest candidates since) → (named ≡ None → first_after since candidates ≡ None)
    → (IsSome named → IfSome named (IsCandidate claim h) → IsSome nearest) → nearest ≡ None → HasNone claim h since
none_named claim h candidates since None nearest are gets none there is = none_behind claim h candidates since are (none refl)
none_named claim h candidates since (Some one) nearest are gets none there is =
    absurd (no_none nearest is (there refl (is_furthest claim h candidates since one are gets).is_candidate))

-- whatever list they are of, it is one of them
pub one_named : (claim : Claim) (h : List Item) (candidates : List Candidate) (since : ℕ) (named : Option Candidate) (nearest : Option Nearest)
    → IfSome named (GetsFurthest candidates since) → IfSome nearest (IsThatOf claim h named) → IfSome nearest (IsOfOneOf claim h candidates since)
one_named claim h candidates since named None gets that = tt
one_named claim h candidates since named (Some nearest) gets that =
    record {
      candidate = that.0;
      gets = subst (λ (o : Option Candidate). IfSome o (GetsFurthest candidates since)) that.1 gets;
      is_that = that.2;
    }

-- and where none is, none of the candidates stands behind the position
pub none_first : (claim : Claim) (h : List Item) (candidates : List Candidate) (since : ℕ) (named : Option Candidate) (nearest : Option Nearest)
    → All (IsCandidate claim h) candidates → IfSome named (GetsFurthest candidates since) → (named ≡ None → first_after since candidates ≡ None)
    → (IsSome named → IfSome named (IsCandidate claim h) → IsSome nearest) → nearest ≡ None → first_after since candidates ≡ None
none_first claim h candidates since None nearest each gets none there is = none refl
none_first claim h candidates since (Some one) nearest each gets none there is =
    absurd (no_none nearest is (there refl (All-contains (IsCandidate claim h) candidates one each gets.among)))

number_few : (r : Rule) → reason_number (reason_of r) ≤ filter_count
number_few rule.Asked = omega arith
number_few rule.Selected = omega arith
number_few rule.Valid = omega arith
number_few rule.Lifetime = omega arith
number_few rule.Use = omega arith
number_few rule.Body = omega arith
number_few rule.Fields = omega arith
number_few rule.Age = omega arith
number_few rule.Ttl = omega arith

-- it breaks a rule where it doesn't pass all
pub breaks_some : (passed : ℕ) (shortfall : Option Shortfall) → IsRuleBehind passed (option_map rule_of shortfall) → suc passed ≤ filter_count → IsSome shortfall
breaks_some passed None is few = absurd (omega (arith, is, few))
breaks_some passed (Some shortfall) is few = refl

-- and none where it does
pub breaks_none : (passed : ℕ) (shortfall : Option Shortfall) → IsRuleBehind passed (option_map rule_of shortfall) → filter_count ≤ passed
    → option_map (λ (s : Shortfall). reason_of (rule_of s)) shortfall ≡ None
breaks_none passed None is all = refl
breaks_none passed (Some shortfall) is all = absurd (omega (arith, is, all, number_few (rule_of shortfall)))

-- the rule behind those that it passes is that one
breaks_it : (claim : Claim) (h : List Item) (passed : ℕ) (shortfall : Option Shortfall) (why : Reason) → IsRuleBehind passed (option_map rule_of shortfall)
    → reason_number why ≡ passed + 1 → IsFirstFailed (reason_number why) claim h → option_map (λ (s : Shortfall). reason_of (rule_of s)) shortfall ≡ Some why
breaks_it claim h passed None why is number failed = absurd (omega (arith, is, number, failed.is_filter.1))
breaks_it claim h passed (Some shortfall) why is number failed =
    let same : reason_number why ≡ reason_number (reason_of (rule_of shortfall)) = number ∙ sym is in
    ap Some (sym (one_reason (mark.Hit None) claim h why (reason_of (rule_of shortfall)) failed (subst (λ (n : ℕ). IsFirstFailed n claim h) same failed)))

-- the first filter that leaves nobody is the one behind those that the furthest passes
failed_behind : (claim : Claim) (h : List Item) (n : ℕ) (nearest : Nearest) (named : IsNamed claim h 0 nearest) → IsFirstFailed n claim h → n ≡ named.candidate.passed + 1
failed_behind claim h n nearest named failed =
    let c = named.candidate in
    let is = named.is_furthest in
    let below : suc c.passed ≤ n = elim (cases_lt c.passed n) [
      | inl lt ↦ omega (arith, lt)
      | inr ge ↦ absurd (failed.leaves_nobody (it_passes n Any claim h c is.is_candidate refl failed.is_filter.0 (omega (arith, ge))))
    ] in
    elim (cases_lt (c.passed + 1) n) [
      | inl further ↦
          let k = c.passed + 1 in
          let few : k ≤ filter_count = omega (arith, further, failed.is_filter.1) in
          let reached = it_passes_too k claim h c is (omega arith) few (failed.earlier k (omega arith) (omega (arith, further))) in
          absurd (omega (arith, reached))
      | inr ge ↦ omega (arith, below, ge)
    ]

pub wrong_hit : (claim : Claim) (h : List Item) (why : Reason) (nearest : Nearest) → IsNamed claim h 0 nearest → IsFirstFailed (reason_number why) claim h
    → reason_told nearest ≡ Some why
wrong_hit claim h why nearest named failed =
    breaks_it claim h named.candidate.passed nearest.shortfall why named.is_that.rule (failed_behind claim h (reason_number why) nearest named failed) failed

-- where that is one of a hit, all are behind the position
pub named_of_hit : (why : Reason) (claim : Claim) → reason_number why ≤ filter_count → named_after why claim ≡ 0
named_of_hit reason.NoResponse claim few = refl
named_of_hit reason.Vary claim few = refl
named_of_hit reason.Invalidated claim few = refl
named_of_hit reason.NoExplicitFreshness claim few = refl
named_of_hit reason.NotAllowed claim few = refl
named_of_hit reason.Body claim few = refl
named_of_hit reason.Fields claim few = refl
named_of_hit reason.Age claim few = refl
named_of_hit reason.Ttl claim few = refl
named_of_hit reason.NotForwarded claim few = refl
named_of_hit reason.Unmarked claim few = refl
named_of_hit reason.BothMarks claim few = refl
named_of_hit reason.NotCollapsible claim few = absurd (omega (arith, few))

pub breaks_wrong : (claim : Claim) (h : List Item) (why : Reason) (nearest : Option Nearest) → IfSome nearest (IsNamed claim h (named_after why claim))
    → IsFirstFailed (reason_number why) claim h → IfSome nearest (λ n. reason_told n ≡ Some why)
breaks_wrong claim h why None named failed = tt
breaks_wrong claim h why (Some nearest) named failed =
    wrong_hit claim h why nearest (subst (λ (n : ℕ). IsNamed claim h n nearest) (named_of_hit why claim failed.is_filter.1) named) failed
