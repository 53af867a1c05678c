-- What is kept of the responses of a target tells its candidates, and they are one list.
use Rattle.std.proofs.Common.{◌≡◌, ℕ, zero, suc, ◌+◌, ◌≤◌, ◌<◌, Bool, true, false, ◌&&◌, ◌||◌, cond, eqb, ltb, List, [], ◌∷◌, ◌++◌, length, get_or, map, Option, Some, None, refl, ap, sym, subst, ◌∙◌, arith, ◌⊎◌, inl, inr}
use Rattle.std.specs.Prelude.{All, AllPairs, Contains, IsPermutation, sum_by}
use Rattle.std.specs.List.Sorted.{IsSortedBy}
use Rattle.std.proofs.lemmas.Bool.{cases_lt, cases_eq}
use Rattle.std.proofs.lemmas.Bool.Decides.{nat_tests}
use Rattle.std.proofs.lemmas.List.{map-append}
use Rattle.std.proofs.lemmas.List.Elements.{All-nil, All-cons, All-append, All-contains, All-head, Contains-append_left, Contains-append_right}
use Rattle.std.proofs.lemmas.List.Sorted.{All-permutation, Contains-permutation, sum_by-IsPermutation}
use Rattle.std.proofs.lemmas.List.Sums.{sum_by-append, sum_by-cons}
use Rattle.hc_head.specs.declared.head.Target.{Target}
use Rattle.hc_head.specs.Targets.{same_target}
use Rattle.hc_head.proofs.SameTargetLemmas.{same_target_one}
use Rattle.hc_transcript.specs.Items.{Item}
use Rattle.hc_history.specs.declared.candidates.Candidate.{Candidate}
use Rattle.hc_history.specs.declared.kept.Kept.{Kept}
use Rattle.hc_history.specs.States.{state_at}
use Rattle.hc_history.specs.Claims.{Claim}
use Rattle.hc_history.specs.declared.among.Among.{Among}
use Rattle.hc_history.specs.declared.among.Among.TheVariants.{Any}
use Rattle.hc_history.specs.Allowing.{filters}
use Rattle.hc_history.specs.Furthest.{passed, passed_among, furthest_up_to, furthest}
use Rattle.hc_history.specs.Reused.{filter_count, is_looked_at}
use Rattle.hc_history.specs.Seen.{Live, remaining, live_at, live_up_to, live_of}
use Rattle.hc_history.specs.Candidates.{IsCandidate, is_before, AreCandidates}
use Rattle.hc_history.proofs.StateLemmas.{place_of}
use Rattle.hc_history.proofs.FurthestLemmas.{Pass-found, hold_from, passed_few, passed_up_to}
use Rattle.hc_history.proofs.LiveLemmas.{passed_remaining, passed_other}

-- ---- those of the live responses, by rising position

-- how far a live response of the claim's target gets
abbrev pub candidate_of : Claim → Live → Candidate
candidate_of claim live = record { position = live.position; passed = passed (filters claim (record { target = claim.target; state = live.state })) }

-- the candidate at a position, if one stands there
abbrev candidate_at : Claim → ℕ → Option Kept → List Candidate
candidate_at claim position None = []
candidate_at claim position (Some kept) = cond (same_target kept.target claim.target) (record { position = position; passed = passed (filters claim kept) } ∷ []) []

abbrev up_to : Claim → ℕ → List Item → List Candidate
up_to claim zero h = []
up_to claim (suc n) h = up_to claim n h ++ candidate_at claim (suc n) (state_at (suc n) h)

of_live_at : (claim : Claim) (position : ℕ) (o : Option Kept) → map (candidate_of claim) (live_at claim.target position o) ≡ candidate_at claim position o
of_live_at claim position None = refl
of_live_at claim position (Some kept) = go (same_target kept.target claim.target) refl
  where
    go : (same : Bool) → same_target kept.target claim.target ≡ same
        → map (candidate_of claim) (cond same (record { position = position; state = remaining kept.state } ∷ []) [])
        ≡ cond same (record { position = position; passed = passed (filters claim kept) } ∷ []) []
    go true is =
        ap (λ (n : ℕ). let c : Candidate = record { position = position; passed = n } in c ∷ [])
        (passed_remaining claim claim.target kept.state
        ∙ sym (ap (λ (t : Target). passed (filters claim (record { target = t; state = kept.state }))) (same_target_one kept.target claim.target is)))
    go false is = refl

of_live_up_to : (claim : Claim) (n : ℕ) (h : List Item) → map (candidate_of claim) (live_up_to claim.target n h) ≡ up_to claim n h
of_live_up_to claim zero h = refl
of_live_up_to claim (suc n) h =
    map-append (candidate_of claim) (live_up_to claim.target n h) (live_at claim.target (suc n) (state_at (suc n) h))
    ∙ ap (λ (cs : List Candidate). cs ++ map (candidate_of claim) (live_at claim.target (suc n) (state_at (suc n) h))) (of_live_up_to claim n h)
    ∙ ap (λ (cs : List Candidate). up_to claim n h ++ cs) (of_live_at claim (suc n) (state_at (suc n) h))

-- ---- each is one, and all are there

each_at : (claim : Claim) (h : List Item) (position : ℕ) (o : Option Kept) → state_at position h ≡ o → All (IsCandidate claim h) (candidate_at claim position o)
each_at claim h position None is = All-nil (IsCandidate claim h)
each_at claim h position (Some kept) is = go (same_target kept.target claim.target) refl
  where
    go : (same : Bool) → same_target kept.target claim.target ≡ same
        → All (IsCandidate claim h) (cond same (record { position = position; passed = passed (filters claim kept) } ∷ []) [])
    go true same =
        All-cons (IsCandidate claim h) _ [] (record { kept = kept; is_its_state = is; is_of_target = same; passes = refl }) (All-nil (IsCandidate claim h))
    go false same = All-nil (IsCandidate claim h)

each_up_to : (claim : Claim) (n : ℕ) (h : List Item) → All (IsCandidate claim h) (up_to claim n h)
each_up_to claim zero h = All-nil (IsCandidate claim h)
each_up_to claim (suc n) h =
    All-append (IsCandidate claim h) (up_to claim n h) (candidate_at claim (suc n) (state_at (suc n) h)) (each_up_to claim n h)
    (each_at claim h (suc n) (state_at (suc n) h) refl)

itself_at : (claim : Claim) (h : List Item) (c : Candidate) → IsCandidate claim h c → candidate_at claim c.position (state_at c.position h) ≡ c ∷ []
itself_at claim h c is =
    ap (candidate_at claim c.position) is.is_its_state
    ∙ ap (λ (b : Bool). let it : Candidate = record { position = c.position; passed = passed (filters claim is.kept) } in cond b (it ∷ []) []) is.is_of_target
    ∙ ap (λ (n : ℕ). let it : Candidate = record { position = c.position; passed = n } in it ∷ []) (sym is.passes)

all_up_to : (claim : Claim) (n : ℕ) (h : List Item) (c : Candidate) → IsCandidate claim h c → c.position ≤ n → Contains (up_to claim n h) c
all_up_to claim zero h c is le = absurd (let place = place_of c.position h is.kept is.is_its_state in omega (arith, place.0))
all_up_to claim (suc n) h c is le =
    elim (cases_lt n c.position) [
      | inl last ↦
          let e : c.position ≡ suc n = omega arith in
          let here : candidate_at claim (suc n) (state_at (suc n) h) ≡ c ∷ [] =
          subst (λ (k : ℕ). candidate_at claim k (state_at k h) ≡ c ∷ []) e (itself_at claim h c is) in
          Contains-append_right (up_to claim n h) (candidate_at claim (suc n) (state_at (suc n) h)) c
          (subst (λ (cs : List Candidate). Contains cs c) (sym here) (0, omega arith, refl))
      | inr before ↦
          Contains-append_left (up_to claim n h) (candidate_at claim (suc n) (state_at (suc n) h)) c (all_up_to claim n h c is before)
    ]

-- ---- none stands twice

-- 1 for what stands at that position
abbrev count_of : ℕ → ℕ → ℕ
count_of p position = cond (eqb position p) 1 0

abbrev at_place : ℕ → Candidate → ℕ
at_place p c = count_of p c.position

-- how many stand at that position
abbrev count_at : ℕ → List Candidate → ℕ
count_at p cs = sum_by (at_place p) cs

few_at : (claim : Claim) (p position : ℕ) (o : Option Kept) → count_at p (candidate_at claim position o) ≤ count_of p position
few_at claim p position None = omega arith
few_at claim p position (Some kept) = go (same_target kept.target claim.target)
  where
    go : (same : Bool) → count_at p (cond same (record { position = position; passed = passed (filters claim kept) } ∷ []) []) ≤ count_of p position
    go true = omega arith
    go false = omega arith

other_place : (p position : ℕ) → (position ≡ p → ⊥) → count_of p position ≡ 0
other_place p position other = grind (arith, nat_tests)

same_place : (p position : ℕ) → position ≡ p → count_of p position ≡ 1
same_place p position same = grind (arith, nat_tests)

one_place : (p position : ℕ) → count_of p position ≤ 1
one_place p position = grind (arith, nat_tests)

none_above : (claim : Claim) (n : ℕ) (h : List Item) (p : ℕ) → n < p → count_at p (up_to claim n h) ≡ 0
none_above claim zero h p lt = refl
none_above claim (suc n) h p lt =
    let few = few_at claim p (suc n) (state_at (suc n) h) in
    let other = other_place p (suc n) (λ e. absurd (omega (arith, e, lt))) in
    let both = sum_by-append (at_place p) (up_to claim n h) (candidate_at claim (suc n) (state_at (suc n) h)) in
    omega (arith, few, other, both, none_above claim n h p (omega arith))

few_up_to : (claim : Claim) (n : ℕ) (h : List Item) (p : ℕ) → count_at p (up_to claim n h) ≤ 1
few_up_to claim zero h p = omega arith
few_up_to claim (suc n) h p =
    let few = few_at claim p (suc n) (state_at (suc n) h) in
    let both = sum_by-append (at_place p) (up_to claim n h) (candidate_at claim (suc n) (state_at (suc n) h)) in
    elim (cases_eq (suc n) p) [
      | inl e ↦ omega (arith, few, one_place p (suc n), both, none_above claim n h p (omega (arith, e)))
      | inr other ↦ omega (arith, few, other_place p (suc n) other, both, few_up_to claim n h p)
    ]

-- ---- in order

-- neighbours stand at two positions, where at most one stands at each
neighbours_differ : (cs : List Candidate) → ((p : ℕ) → count_at p cs ≤ 1) → (k : ℕ) (d : Candidate) → suc k < length cs
    → (get_or cs k d).position ≡ (get_or cs (suc k) d).position → ⊥
neighbours_differ [] few k d lt same = omega arith
neighbours_differ (x ∷ []) few k d lt same = omega arith
neighbours_differ (x ∷ y ∷ cs) few zero d lt same =
    let here = few x.position in
    let first = sum_by-cons (at_place x.position) x (y ∷ cs) in
    let second = sum_by-cons (at_place x.position) y cs in
    let one = same_place x.position x.position refl in
    let other = same_place x.position y.position (sym same) in
    omega (arith, here, first, second, one, other)
neighbours_differ (x ∷ y ∷ cs) few (suc k) d lt same =
    neighbours_differ (y ∷ cs) (λ p. omega (arith, few p, sum_by-cons (at_place p) x (y ∷ cs))) k d (omega arith) same

before_by : (a b p q : ℕ) → (ltb a b || (eqb b a && ltb p q)) ≡ false → (p ≡ q → ⊥) → (ltb b a || (eqb a b && ltb q p)) ≡ true
before_by a b p q after differ = grind (arith, nat_tests)

before_before : (a b c p q r : ℕ) → (ltb b a || (eqb a b && ltb q p)) ≡ true → (ltb c b || (eqb b c && ltb r q)) ≡ true
    → (ltb c a || (eqb a c && ltb r p)) ≡ true
before_before a b c p q r one other = grind (arith, nat_tests)

-- what stands before its neighbour stands before all behind it
pairs : (cs : List Candidate) → ((k : ℕ) (d : Candidate) → suc k < length cs → is_before (get_or cs k d) (get_or cs (suc k) d) ≡ true)
    → AllPairs (λ one other. is_before one other ≡ true) cs
pairs cs next i zero d lt below = absurd (omega arith)
pairs cs next i (suc j) d lt below =
    elim (cases_lt i j) [
      | inl further ↦
          before_before (get_or cs i d).passed (get_or cs j d).passed (get_or cs (suc j) d).passed (get_or cs i d).position (get_or cs j d).position
          (get_or cs (suc j) d).position (pairs cs next i j d further (omega arith)) (next j d below)
      | inr last ↦
          let e : j ≡ i = omega arith in
          subst (λ (k : ℕ). is_before (get_or cs k d) (get_or cs (suc j) d) ≡ true) e (next j d below)
    ]

sorted_pairs : (cs : List Candidate) → IsSortedBy is_before cs → ((p : ℕ) → count_at p cs ≤ 1) → AllPairs (λ one other. is_before one other ≡ true) cs
sorted_pairs cs sorted few =
    pairs cs (λ k d lt.
    let one = get_or cs k d in
    let other = get_or cs (suc k) d in
    let next : k + 1 ≡ suc k = omega arith in
    let after : is_before other one ≡ false =
    subst (λ (j : ℕ). is_before (get_or cs j d) one ≡ false) next (sorted k d (omega arith) (omega (arith, lt))) in
    before_by one.passed other.passed one.position other.position after (neighbours_differ cs few k d lt))

-- ---- all of them

-- what is kept of the responses of the target, measured and put into order
pub candidates_are : (claim : Claim) (h : List Item) (lives : List Live) (sorted : List Candidate) → lives ≡ live_of claim.target h
    → IsPermutation (map (candidate_of claim) lives) sorted → IsSortedBy is_before sorted → AreCandidates claim h sorted
candidates_are claim h lives sorted are moved in_order =
    let made : map (candidate_of claim) lives ≡ up_to claim (length h) h = ap (map (candidate_of claim)) are ∙ of_live_up_to claim (length h) h in
    let from : IsPermutation (up_to claim (length h) h) sorted = subst (λ (cs : List Candidate). IsPermutation cs sorted) made moved in
    record {
      each = All-permutation (IsCandidate claim h) (up_to claim (length h) h) sorted from (each_up_to claim (length h) h);
      all = λ c is.
          Contains-permutation (up_to claim (length h) h) sorted c from (all_up_to claim (length h) h c is (place_of c.position h is.kept is.is_its_state).1);
      in_order = sorted_pairs sorted in_order (λ p.
          omega (arith, sum_by-IsPermutation (at_place p) (up_to claim (length h) h) sorted from, few_up_to claim (length h) h p));
    }

-- ---- they are one list

contains_by : (x y : Candidate) (cs : List Candidate) (k : ℕ) → k < length (y ∷ cs) → get_or (y ∷ cs) k x ≡ x → (y ≡ x) ⊎ Contains cs x
contains_by x y cs zero lt is = inl is
contains_by x y cs (suc k) lt is = inr (k, omega arith, is)

contains_first : (x y : Candidate) (cs : List Candidate) → Contains (y ∷ cs) x → (y ≡ x) ⊎ Contains cs x
contains_first x y cs has = contains_by x y cs has.0 has.1 has.2

contains_later : (x y : Candidate) (cs : List Candidate) → Contains cs x → Contains (y ∷ cs) x
contains_later x y cs has = let lt = has.1 in (suc has.0, omega (arith, lt), has.2)

contains_none : (x : Candidate) → Contains [] x → ⊥
contains_none x has = let lt = has.1 in omega (arith, lt)

-- each of them stands before those behind it
abbrev InOrder : List Candidate → Type 0
InOrder cs = AllPairs (λ one other. is_before one other ≡ true) cs

first_before : (x y : Candidate) (cs : List Candidate) → InOrder (x ∷ cs) → Contains cs y → is_before x y ≡ true
first_before x y cs ordered has =
    let lt = has.1 in
    let before : is_before x (get_or cs has.0 y) ≡ true = ordered 0 (suc has.0) y (omega arith) (omega (arith, lt)) in
    subst (λ (c : Candidate). is_before x c ≡ true) has.2 before

later_ordered : (x : Candidate) (cs : List Candidate) → InOrder (x ∷ cs) → InOrder cs
later_ordered x cs ordered = λ i j d lt below. ordered (suc i) (suc j) d (omega (arith, lt)) (omega (arith, below))

not_before_by : (a p : ℕ) → (ltb a a || (eqb a a && ltb p p)) ≡ true → ⊥
not_before_by a p before = grind (arith, nat_tests)

not_before_itself : (x y : Candidate) → x ≡ y → is_before x y ≡ true → ⊥
not_before_itself x y same before = not_before_by x.passed x.position (subst (λ (c : Candidate). is_before x c ≡ true) (sym same) before)

not_both_before : (x y : Candidate) → is_before x y ≡ true → is_before y x ≡ true → ⊥
not_both_before x y one other =
    not_before_by x.passed x.position (before_before x.passed y.passed x.passed x.position y.position x.position one other)

one_first : (x y : Candidate) (xs ys : List Candidate) → InOrder (x ∷ xs) → InOrder (y ∷ ys) → Contains (y ∷ ys) x → Contains (x ∷ xs) y → x ≡ y
one_first x y xs ys ordered other there back =
    elim (contains_first x y ys there) [
      | inl e ↦ sym e
      | inr later ↦
          elim (contains_first y x xs back) [
            | inl e ↦ e
            | inr behind ↦ absurd (not_both_before x y (first_before x y xs ordered behind) (first_before y x ys other later))
          ]
    ]

-- what stands behind the first of one stands behind the first of the other
behind_first : (x y c : Candidate) (xs ys : List Candidate) → x ≡ y → InOrder (x ∷ xs) → Contains xs c → Contains (y ∷ ys) c → Contains ys c
behind_first x y c xs ys same ordered has there =
    elim (contains_first c y ys there) [
      | inl e ↦ absurd (not_before_itself x c (same ∙ e) (first_before x c xs ordered has))
      | inr later ↦ later
    ]

same_list : (xs ys : List Candidate) → InOrder xs → InOrder ys → ((c : Candidate) → Contains xs c → Contains ys c) → ((c : Candidate) → Contains ys c → Contains xs c)
    → xs ≡ ys
same_list [] [] ordered other there back = refl
same_list [] (y ∷ ys) ordered other there back = absurd (contains_none y (back y (0, omega arith, refl)))
same_list (x ∷ xs) [] ordered other there back = absurd (contains_none x (there x (0, omega arith, refl)))
same_list (x ∷ xs) (y ∷ ys) ordered other there back =
    let first = one_first x y xs ys ordered other (there x (0, omega arith, refl)) (back y (0, omega arith, refl)) in
    let later = same_list xs ys (later_ordered x xs ordered) (later_ordered y ys other)
    (λ c has. behind_first x y c xs ys first ordered has (there c (contains_later c x xs has)))
    (λ c has. behind_first y x c ys xs (sym first) other has (back c (contains_later c y ys has))) in
    λ i. first i ∷ later i

-- what one list has, the other has
has_what : (claim : Claim) (h : List Item) (cs ds : List Candidate) → AreCandidates claim h cs → AreCandidates claim h ds → (c : Candidate) → Contains cs c → Contains ds c
has_what claim h cs ds one other c has = other.all c (All-contains (IsCandidate claim h) cs c one.each has)

pub one_list : (claim : Claim) (h : List Item) (cs ds : List Candidate) → AreCandidates claim h cs → AreCandidates claim h ds → cs ≡ ds
one_list claim h cs ds one other =
    same_list cs ds one.in_order other.in_order (has_what claim h cs ds one other) (has_what claim h ds cs other one)

-- ---- the first one

-- one of them passes as many as one earlier response does
record Reaches (n : ℕ) (cs : List Candidate) : Type 0 where
  candidate : Candidate
  has : Contains cs candidate
  reaches : n ≤ candidate.passed

of_target : (claim : Claim) (kept : Kept) (same : Bool) → same_target kept.target claim.target ≡ same → 1 ≤ passed (filters claim kept)
    → same_target kept.target claim.target ≡ true
of_target claim kept true is some = is
of_target claim kept false is some = absurd (omega (arith, some, passed_other claim kept is))

reached : (claim : Claim) (h : List Item) (cs : List Candidate) → AreCandidates claim h cs → (n : ℕ) → 1 ≤ n → n ≤ furthest Any claim h → n ≤ filter_count
    → Reaches n cs
reached claim h cs are n some le few =
    let pass = Pass-found n Any claim h some le in
    let enough : n ≤ passed (filters claim pass.kept) = hold_from (filters claim pass.kept) n few pass.holds in
    let c : Candidate = record { position = pass.position; passed = passed (filters claim pass.kept) } in
    record {
      candidate = c;
      has = are.all c (record {
        kept = pass.kept;
        is_its_state = pass.is_its_state;
        is_of_target = of_target claim pass.kept (same_target pass.kept.target claim.target) refl (omega arith);
        passes = refl;
      });
      reaches = enough;
    }

few_among : (among : Among) (claim : Claim) (position : ℕ) (o : Option Kept) → passed_among among claim position o ≤ filter_count
few_among among claim position None = omega arith
few_among among claim position (Some kept) = go (is_looked_at among claim position kept.state) (passed_few (filters claim kept))
  where
    go : (one : Bool) → passed (filters claim kept) ≤ filter_count → cond one (passed (filters claim kept)) 0 ≤ filter_count
    go true few = few
    go false few = omega arith

few_furthest : (among : Among) (claim : Claim) (n : ℕ) (h : List Item) → furthest_up_to among claim n h ≤ filter_count
few_furthest among claim zero h = omega arith
few_furthest among claim (suc n) h = omega (arith, few_furthest among claim n h, few_among among claim (suc n) (state_at (suc n) h))

furthest_reached : (claim : Claim) (h : List Item) (cs : List Candidate) → AreCandidates claim h cs → 0 < furthest Any claim h → Reaches (furthest Any claim h) cs
furthest_reached claim h cs are some =
    reached claim h cs are (furthest Any claim h) (omega (arith, some)) (omega arith) (few_furthest Any claim (length h) h)

passes_no_less : (a b p q : ℕ) → (ltb b a || (eqb a b && ltb q p)) ≡ true → b ≤ a
passes_no_less a b p q before = grind (arith, nat_tests)

first_reaches : (n : ℕ) (c : Candidate) (cs : List Candidate) → InOrder (c ∷ cs) → Reaches n (c ∷ cs) → n ≤ c.passed
first_reaches n c cs ordered r =
    elim (contains_first r.candidate c cs r.has) [
      | inl e ↦ omega (arith, ap (λ (k : Candidate). k.passed) e, r.reaches)
      | inr later ↦
          let before = first_before c r.candidate cs ordered later in
          omega (arith, passes_no_less c.passed r.candidate.passed c.position r.candidate.position before, r.reaches)
    ]

first_at_least : (claim : Claim) (h : List Item) (c : Candidate) (cs : List Candidate) → AreCandidates claim h (c ∷ cs) → furthest Any claim h ≤ c.passed
first_at_least claim h c cs are =
    elim (cases_lt 0 (furthest Any claim h)) [
      | inl some ↦ first_reaches (furthest Any claim h) c cs are.in_order (furthest_reached claim h (c ∷ cs) are some)
      | inr none ↦ omega (arith, none)
    ]

passes_at_most : (claim : Claim) (h : List Item) (c : Candidate) → IsCandidate claim h c → c.passed ≤ furthest Any claim h
passes_at_most claim h c is =
    let place = place_of c.position h is.kept is.is_its_state in
    omega (arith, is.passes, passed_up_to Any claim h c.position (length h) is.kept refl is.is_its_state place.0 place.1)

pub first_is_furthest : (claim : Claim) (h : List Item) (c : Candidate) (cs : List Candidate) → AreCandidates claim h (c ∷ cs) → c.passed ≡ furthest Any claim h
first_is_furthest claim h c cs are =
    omega (arith, passes_at_most claim h c (All-head (IsCandidate claim h) c cs are.each), first_at_least claim h c cs are)

pub none_is_furthest : (claim : Claim) (h : List Item) → AreCandidates claim h [] → furthest Any claim h ≡ 0
none_is_furthest claim h are =
    elim (cases_lt 0 (furthest Any claim h)) [
      | inl some ↦ let r = furthest_reached claim h [] are some in absurd (contains_none r.candidate r.has)
      | inr none ↦ omega (arith, none)
    ]
