-- What the live responses of an index tell of the candidates of a reply.
use Rattle.std.proofs.Common.{◌≡◌, ℕ, Bool, true, false, ◌&&◌, ◌||◌, cond, eqb, ltb, List, [], ◌∷◌, Option, Some, refl, sym, ap, subst, ◌∙◌, ◌++◌, ◌+◌, ◌<◌, arith, drop, get_or, length}
use Rattle.std.specs.Prelude.{filter, find, map, IsPermutation}
use Rattle.std.specs.Option.{option_map}
use Rattle.std.specs.Cmp.{IsStrictWeakOrder}
use Rattle.std.specs.List.Sorted.{IsSortedBy}
use Rattle.std.specs.Ordering.{is_lt, nat_cmp, ordering_then}
use Rattle.std.proofs.lemmas.Bool.Decides.{nat_tests}
use Rattle.std.proofs.lemmas.List.{append_assoc, at_drop_more}
use Rattle.hc_head.specs.declared.head.Target.{Target}
use Rattle.hc_head.specs.Targets.{same_target}
use Rattle.hc_head.proofs.SameTargetLemmas.{same_target_one}
use Rattle.hc_update.specs.declared.stored.Stored.{Stored}
use Rattle.hc_transcript.specs.Items.{Item}
use Rattle.hc_history.specs.declared.candidates.Candidate.{Candidate}
use Rattle.hc_history.specs.Candidates.{is_before, AreCandidates}
use Rattle.hc_history.specs.Claims.{Claim}
use Rattle.hc_history.specs.Allowing.{filters}
use Rattle.hc_history.specs.Furthest.{passed}
use Rattle.hc_history.specs.Seen.{live_of}
use Rattle.hc_history.proofs.CandidateLemmas.{candidate_of as candidate_seen, candidates_are}
use Rattle.hc_index.specs.declared.kept.LiveResponse.{LiveResponse}
use Rattle.hc_index.specs.Lists.{live_seen, candidate_of, candidates_in, live_in, stands_at, state_in}

-- ---- the order

before_other : (a b p q : ℕ) → (ltb b a || (eqb a b && ltb q p)) ≡ true → (ltb a b || (eqb b a && ltb p q)) ≡ false
before_other a b p q before = grind (arith, nat_tests)

no_chain : (a b c p q r : ℕ) → (ltb b a || (eqb a b && ltb q p)) ≡ false → (ltb c b || (eqb b c && ltb r q)) ≡ false
    → (ltb c a || (eqb a c && ltb r p)) ≡ false
no_chain a b c p q r one other = grind (arith, nat_tests)

pub before_ranks : IsStrictWeakOrder is_before
before_ranks = record {
  one_way = λ x y before. before_other x.passed y.passed x.position y.position before;
  chain = λ x y z one other. no_chain x.passed y.passed z.passed x.position y.position z.position one other;
}

pub compared : (a b p q : ℕ) → is_lt (ordering_then (nat_cmp b a) (nat_cmp q p)) ≡ (ltb b a || (eqb a b && ltb q p))
compared a b p q = grind (arith, nat_tests)

-- ---- those of the live responses

-- one of the claim's target gets as far as what is seen of it
seen_alike : (claim : Claim) (live : LiveResponse) → same_target live.target claim.target ≡ true → candidate_seen claim (live_seen live) ≡ candidate_of claim live
seen_alike claim live same =
    ap (λ (t : Target). let c : Candidate = record { position = live.position; passed = passed (filters claim (record { target = t; state = live.state })) } in c)
    (sym (same_target_one live.target claim.target same))

all_alike : (claim : Claim) (lives : List LiveResponse) → map (candidate_seen claim) (live_in claim.target lives) ≡ candidates_in claim lives
all_alike claim [] = refl
all_alike claim (live ∷ lives) = go (same_target live.target claim.target) refl (all_alike claim lives)
  where
    go : (same : Bool) → same_target live.target claim.target ≡ same → map (candidate_seen claim) (live_in claim.target lives) ≡ candidates_in claim lives
        → map (candidate_seen claim)
        (map live_seen (cond same (live ∷ filter (λ live. same_target live.target claim.target) lives) (filter (λ live. same_target live.target claim.target) lives)))
        ≡ map (candidate_of claim) (cond same (live ∷ filter (λ live. same_target live.target claim.target) lives) (filter (λ live. same_target live.target claim.target) lives))
    go true is rest = let first = seen_alike claim live is in λ i. first i ∷ rest i
    go false is rest = rest

pub candidates_told : (claim : Claim) (h : List Item) (lives : List LiveResponse) (made sorted : List Candidate) → live_in claim.target lives ≡ live_of claim.target h
    → made ≡ candidates_in claim lives → IsPermutation made sorted → IsSortedBy is_before sorted → AreCandidates claim h sorted
candidates_told claim h lives made sorted are made-is moved in_order =
    candidates_are claim h (live_in claim.target lives) sorted are
    (subst (λ (cs : List Candidate). IsPermutation cs sorted) (made-is ∙ sym (all_alike claim lives)) moved) in_order

-- ---- those of what is left

head_in : {A B : Type 0} (f : A → B) (same : Bool) (x : A) (xs : List A) → same ≡ true → map f (cond same (x ∷ xs) xs) ≡ f x ∷ map f xs
head_in f same x xs is = rw is refl

head_out : {A B : Type 0} (f : A → B) (same : Bool) (x : A) (xs : List A) → same ≡ false → map f (cond same (x ∷ xs) xs) ≡ map f xs
head_out f same x xs is = rw is refl

abbrev among : Claim → List LiveResponse → List LiveResponse
among claim lives = filter (λ live. same_target live.target claim.target) lives

other_is_none : (claim : Claim) (live : LiveResponse) (lives : List LiveResponse) → same_target live.target claim.target ≡ false
    → candidates_in claim (live ∷ lives) ≡ candidates_in claim lives
other_is_none claim live lives other = head_out (candidate_of claim) (same_target live.target claim.target) live (among claim lives) other

one_is_first : (claim : Claim) (live : LiveResponse) (lives : List LiveResponse) → same_target live.target claim.target ≡ true
    → candidates_in claim (live ∷ lives) ≡ candidate_of claim live ∷ candidates_in claim lives
one_is_first claim live lives same = head_in (candidate_of claim) (same_target live.target claim.target) live (among claim lives) same

-- those from a place on, where that live response stands there
from_place : (claim : Claim) (lives : List LiveResponse) (i : ℕ) (live : LiveResponse) → i < length lives → live ≡ get_or lives i live
    → candidates_in claim (drop i lives) ≡ candidates_in claim (live ∷ drop (i + 1) lives)
from_place claim lives i live within is =
    at_drop_more (candidates_in claim) lives i live within ∙ ap (λ l. candidates_in claim (l ∷ drop (i + 1) lives)) (sym is)

-- it is none of the claim's target, or one
pub passed_over : (claim : Claim) (lives : List LiveResponse) (i : ℕ) (live : LiveResponse) (made all : List Candidate) → i < length lives
    → live ≡ get_or lives i live → same_target live.target claim.target ≡ false → made ++ candidates_in claim (drop i lives) ≡ all
    → made ++ candidates_in claim (drop (i + 1) lives) ≡ all
passed_over claim lives i live made all within is other so =
    ap (λ cs. made ++ cs) (sym (from_place claim lives i live within is ∙ other_is_none claim live (drop (i + 1) lives) other)) ∙ so

pub taken_in : (claim : Claim) (lives : List LiveResponse) (i : ℕ) (live : LiveResponse) (made all : List Candidate) → i < length lives
    → live ≡ get_or lives i live → same_target live.target claim.target ≡ true → made ++ candidates_in claim (drop i lives) ≡ all
    → (made ++ (candidate_of claim live ∷ [])) ++ candidates_in claim (drop (i + 1) lives) ≡ all
taken_in claim lives i live made all within is same so =
    append_assoc made (candidate_of claim live ∷ []) (candidates_in claim (drop (i + 1) lives))
    ∙ (ap (λ cs. made ++ cs) (sym (from_place claim lives i live within is ∙ one_is_first claim live (drop (i + 1) lives) same)) ∙ so)

-- ---- what is left of one of them

-- that of what was found
abbrev state_found : Option LiveResponse → Option Stored
state_found o = option_map (λ (live : LiveResponse). live.state) o

others_first : (target : Target) (position : ℕ) (live : LiveResponse) (lives : List LiveResponse) (same there : Bool) → eqb live.position position ≡ there
    → state_found (find (stands_at target position) lives) ≡ state_in position (live_in target lives)
    → state_found (cond (there && same) (Some live) (find (stands_at target position) lives))
    ≡ state_in position (map live_seen (cond same (live ∷ filter (λ live. same_target live.target target) lives) (filter (λ live. same_target live.target target) lives)))
others_first target position live lives true true is rest = rw is refl
others_first target position live lives true false is rest = rw is rest
others_first target position live lives false true is rest = rest
others_first target position live lives false false is rest = rest

-- of the one of the target at a position, among all live responses
pub state_among : (target : Target) (position : ℕ) (lives : List LiveResponse)
    → option_map (λ (live : LiveResponse). live.state) (find (stands_at target position) lives) ≡ state_in position (live_in target lives)
state_among target position [] = refl
state_among target position (live ∷ lives) =
    others_first target position live lives (same_target live.target target) (eqb live.position position) refl (state_among target position lives)
