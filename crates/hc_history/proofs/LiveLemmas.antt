-- What is kept of the responses of a target tells how many filters one passes.
use Rattle.std.proofs.Common.{◌≡◌, ℕ, zero, suc, ◌≤◌, Bool, true, false, not, ◌&&◌, ◌||◌, cond, List, [], ◌∷◌, ◌++◌, length, max, ltb, Option, Some, None, refl, ap, sym, subst, ◌∙◌, arith}
use Rattle.std.specs.Prelude.{filter, codes}
use Rattle.std.specs.List.{list_all, flat_map}
use Rattle.std.specs.Str.{bytes_eq}
use Rattle.hc_fields.specs.declared.fields.Field.{Field}
use Rattle.hc_fields.specs.Values.{values_of}
use Rattle.hc_fields.specs.Lists.{list_members, members_of}
use Rattle.hc_head.specs.declared.head.Target.{Target}
use Rattle.hc_head.specs.Methods.{is_get}
use Rattle.hc_head.specs.Targets.{same_target}
use Rattle.hc_rules.specs.Validators.{has_validator}
use Rattle.hc_update.specs.declared.stored.Stored.{Stored}
use Rattle.hc_transcript.specs.Items.{Item}
use Rattle.hc_history.specs.Claims.{Claim, asks_head}
use Rattle.hc_history.specs.declared.kept.Kept.{Kept}
use Rattle.hc_history.specs.States.{state_at}
use Rattle.hc_history.specs.Allowing.{filters, is_met_or_normalized}
use Rattle.hc_update.specs.Remnants.{is_lost, vary_lines}
use Rattle.hc_history.specs.Seen.{remaining, Live, live_at, live_up_to, live_of}
use Rattle.hc_history.specs.Furthest.{passed, passed_among, furthest_up_to, furthest, furthest_live}
use Rattle.hc_history.specs.Reused.{is_looked_at}
use Rattle.hc_history.specs.Usable.{validated_since}
use Rattle.hc_history.specs.declared.among.Among.{Among}
use Rattle.hc_history.specs.declared.among.Among.TheVariants.{Any, InWindow, Recent}
use Rattle.hc_head.proofs.SameTargetLemmas.{same_target_one}
use Rattle.hc_history.proofs.ForgetLemmas.{remaining_lost, remaining_kept}

-- lines that were kept by their name have its values
kept_values : (name : List ℕ) (fields : List Field) → values_of name (filter (λ f. bytes_eq f.name name) fields) ≡ values_of name fields
kept_values name [] = refl
kept_values name (x ∷ xs) = go (bytes_eq x.name name) refl (kept_values name xs)
  where
    go : (same : Bool) → bytes_eq x.name name ≡ same → values_of name (filter (λ f. bytes_eq f.name name) xs) ≡ values_of name xs
        → values_of name (cond same (x ∷ filter (λ f. bytes_eq f.name name) xs) (filter (λ f. bytes_eq f.name name) xs))
        ≡ cond same (x.value ∷ values_of name xs) (values_of name xs)
    go true e rest = rw e (ap (λ (vs : List (List ℕ)). x.value ∷ vs) rest)
    go false e rest = rest

selects_alike : (met : List ℕ → Bool) (fields : List Field) → list_all met (members_of (codes "vary") (vary_lines fields)) ≡ list_all met (members_of (codes "vary") fields)
selects_alike met fields = ap (λ (vs : List (List ℕ)). list_all met (flat_map list_members vs)) (kept_values (codes "vary") fields)

-- where the third fails, what comes after it doesn't matter
third_fails : (a b c d e : Bool) (xs ys : List Bool) → b ≡ d → c ≡ false → e ≡ false → passed (a ∷ b ∷ c ∷ xs) ≡ passed (a ∷ d ∷ e ∷ ys)
third_fails false b c d e xs ys same no_c no_e = refl
third_fails true true true d e xs ys same no_c no_e = cc
third_fails true true false true true xs ys same no_c no_e = cc
third_fails true true false true false xs ys same no_c no_e = refl
third_fails true true false false e xs ys same no_c no_e = cc
third_fails true false c true e xs ys same no_c no_e = cc
third_fails true false c false e xs ys same no_c no_e = refl

is_invalid : (b v : Bool) → (b && not v) ≡ true → b ≡ true
is_invalid true v lost = refl
is_invalid false v lost = cc

passed_remaining_by : (claim : Claim) (target : Target) (state : Stored) (lost : Bool) → is_lost state ≡ lost
    → passed (filters claim (record { target = target; state = remaining state })) ≡ passed (filters claim (record { target = target; state = state }))
passed_remaining_by claim target state true lost =
    ap (λ (s : Stored). passed (filters claim (record { target = target; state = s }))) (remaining_lost state lost)
    ∙ third_fails _ _ _ _ _ _ _ (selects_alike (is_met_or_normalized claim state) state.fields) refl
    (ap not (is_invalid state.invalid (has_validator state.fields) lost))
passed_remaining_by claim target state false kept =
    ap (λ (s : Stored). passed (filters claim (record { target = target; state = s }))) (remaining_kept state kept)

pub passed_remaining : (claim : Claim) (target : Target) (state : Stored)
    → passed (filters claim (record { target = target; state = remaining state })) ≡ passed (filters claim (record { target = target; state = state }))
passed_remaining claim target state = passed_remaining_by claim target state (is_lost state) refl

and_false : (a : Bool) → (a && false) ≡ false
and_false true = refl
and_false false = refl

-- a response of another target passes no filter
pub passed_other : (claim : Claim) (kept : Kept) → same_target kept.target claim.target ≡ false → passed (filters claim kept) ≡ 0
passed_other claim kept other = rw (other, and_false (is_get claim.request.method || asks_head claim)) refl

none_among : (n : ℕ) (b : Bool) → n ≡ 0 → cond b n 0 ≡ 0
none_among n true none = none
none_among n false none = refl

-- what is forgotten of a response leaves it one of those among which is looked
same_among_by : (among : Among) (claim : Claim) (position : ℕ) (state : Stored) (lost : Bool) → is_lost state ≡ lost
    → is_looked_at among claim position (remaining state) ≡ is_looked_at among claim position state
same_among_by among claim position state false kept = ap (is_looked_at among claim position) (remaining_kept state kept)
same_among_by Any claim position state true lost = refl
same_among_by InWindow claim position state true lost = refl
same_among_by Recent claim position state true lost =
    ap (is_looked_at Recent claim position) (remaining_lost state lost)
    ∙ ap (λ (b : Bool). ltb claim.since position || (not b && validated_since claim.since state.validated_at))
    (sym (is_invalid state.invalid (has_validator state.fields) lost))

same_among : (among : Among) (claim : Claim) (position : ℕ) (state : Stored) → is_looked_at among claim position (remaining state) ≡ is_looked_at among claim position state
same_among among claim position state = same_among_by among claim position state (is_lost state) refl

at_most_zero : (n : ℕ) → max n 0 ≡ n
at_most_zero n = omega arith

one_live_by : (among : Among) (claim : Claim) (position : ℕ) (kept : Kept) (same : Bool) → same_target kept.target claim.target ≡ same
    → furthest_live among claim (cond same (record { position = position; state = remaining kept.state } ∷ []) []) ≡ passed_among among claim position (Some kept)
one_live_by among claim position kept true is =
    let whole = passed_remaining claim claim.target kept.state in
    let at_target = ap (λ (t : Target). passed (filters claim (record { target = t; state = kept.state }))) (same_target_one kept.target claim.target is) in
    at_most_zero (passed_among among claim position (Some (record { target = claim.target; state = remaining kept.state })))
    ∙ ap (λ (n : ℕ). cond (is_looked_at among claim position (remaining kept.state)) n 0) (whole ∙ sym at_target)
    ∙ ap (λ (b : Bool). cond b (passed (filters claim kept)) 0) (same_among among claim position kept.state)
one_live_by among claim position kept false is = sym (none_among (passed (filters claim kept)) (is_looked_at among claim position kept.state) (passed_other claim kept is))

one_live : (among : Among) (claim : Claim) (position : ℕ) (o : Option Kept) → furthest_live among claim (live_at claim.target position o) ≡ passed_among among claim position o
one_live among claim position None = refl
one_live among claim position (Some kept) = one_live_by among claim position kept (same_target kept.target claim.target) refl

live_append : (among : Among) (claim : Claim) (xs ys : List Live)
    → furthest_live among claim (xs ++ ys) ≡ max (furthest_live among claim xs) (furthest_live among claim ys)
live_append among claim [] ys = omega arith
live_append among claim (x ∷ xs) ys = omega (arith, live_append among claim xs ys)

up_to_live : (among : Among) (claim : Claim) (n : ℕ) (h : List Item) → furthest_live among claim (live_up_to claim.target n h) ≡ furthest_up_to among claim n h
up_to_live among claim zero h = refl
up_to_live among claim (suc n) h =
    live_append among claim (live_up_to claim.target n h) (live_at claim.target (suc n) (state_at (suc n) h))
    ∙ ap (λ (m : ℕ). max m (furthest_live among claim (live_at claim.target (suc n) (state_at (suc n) h)))) (up_to_live among claim n h)
    ∙ ap (λ (m : ℕ). max (furthest_up_to among claim n h) m) (one_live among claim (suc n) (state_at (suc n) h))

pub furthest_is_live : (among : Among) (claim : Claim) (h : List Item) → furthest_live among claim (live_of claim.target h) ≡ furthest among claim h
furthest_is_live among claim h = up_to_live among claim (length h) h

-- ---- by rising position

-- each is no later than a position, and each no earlier
abbrev pub AreBefore : ℕ → List Live → Type 0
AreBefore n [] = Unit {0}
AreBefore n (live ∷ lives) = (live.position ≤ n) × AreBefore n lives

abbrev AreBehind : ℕ → List Live → Type 0
AreBehind n [] = Unit {0}
AreBehind n (live ∷ lives) = (n ≤ live.position) × AreBehind n lives

-- each is no later than those behind it
abbrev AreInOrder : List Live → Type 0
AreInOrder [] = Unit {0}
AreInOrder (live ∷ lives) = AreBehind live.position lives × AreInOrder lives

before_append : (n : ℕ) (xs ys : List Live) → AreBefore n xs → AreBefore n ys → AreBefore n (xs ++ ys)
before_append n [] ys none are = are
before_append n (x ∷ xs) ys here are = (here.0, before_append n xs ys here.1 are)

pub before_later : (n m : ℕ) (lives : List Live) → n ≤ m → AreBefore n lives → AreBefore m lives
before_later n m [] few are = tt
before_later n m (live ∷ lives) few are = (omega (arith, few, are.0), before_later n m lives few are.1)

behind_append : (n m : ℕ) (xs ys : List Live) → n ≤ m → AreBehind n xs → AreBehind m ys → AreBehind n (xs ++ ys)
behind_append n m [] [] few none are = tt
behind_append n m [] (y ∷ ys) few none are = (omega (arith, few, are.0), behind_append n m [] ys few tt are.1)
behind_append n m (x ∷ xs) ys few here are = (here.0, behind_append n m xs ys few here.1 are)

order_append : (n : ℕ) (xs ys : List Live) → AreInOrder xs → AreBefore n xs → AreInOrder ys → AreBehind n ys → AreInOrder (xs ++ ys)
order_append n [] ys none before ordered behind = ordered
order_append n (x ∷ xs) ys here before ordered behind =
    (behind_append x.position n xs ys before.0 here.0 behind, order_append n xs ys here.1 before.1 ordered behind)

-- what one position brings
before_at : (target : Target) (n : ℕ) (o : Option Kept) → AreBefore n (live_at target n o)
before_at target n None = tt
before_at target n (Some kept) = go (same_target kept.target target)
  where
    go : (same : Bool) → AreBefore n (cond same (record { position = n; state = remaining kept.state } ∷ []) [])
    go true = (omega arith, tt)
    go false = tt

behind_at : (target : Target) (n m : ℕ) (o : Option Kept) → n ≤ m → AreBehind n (live_at target m o)
behind_at target n m None few = tt
behind_at target n m (Some kept) few = go (same_target kept.target target)
  where
    go : (same : Bool) → AreBehind n (cond same (record { position = m; state = remaining kept.state } ∷ []) [])
    go true = (few, tt)
    go false = tt

order_at : (target : Target) (n : ℕ) (o : Option Kept) → AreInOrder (live_at target n o)
order_at target n None = tt
order_at target n (Some kept) = go (same_target kept.target target)
  where
    go : (same : Bool) → AreInOrder (cond same (record { position = n; state = remaining kept.state } ∷ []) [])
    go true = (tt, tt)
    go false = tt

before_up_to : (target : Target) (n : ℕ) (h : List Item) → AreBefore n (live_up_to target n h)
before_up_to target zero h = tt
before_up_to target (suc n) h =
    before_append (suc n) (live_up_to target n h) (live_at target (suc n) (state_at (suc n) h))
    (before_later n (suc n) (live_up_to target n h) (omega arith) (before_up_to target n h)) (before_at target (suc n) (state_at (suc n) h))

order_up_to : (target : Target) (n : ℕ) (h : List Item) → AreInOrder (live_up_to target n h)
order_up_to target zero h = tt
order_up_to target (suc n) h =
    order_append n (live_up_to target n h) (live_at target (suc n) (state_at (suc n) h)) (order_up_to target n h) (before_up_to target n h)
    (order_at target (suc n) (state_at (suc n) h)) (behind_at target n (suc n) (state_at (suc n) h) (omega arith))

behind_middle : (n : ℕ) (earlier : List Live) (live : Live) (later : List Live) → AreBehind n (earlier ++ live ∷ later) → n ≤ live.position
behind_middle n [] live later are = are.0
behind_middle n (x ∷ earlier) live later are = behind_middle n earlier live later are.1

before_middle : (earlier : List Live) (live : Live) (later : List Live) → AreInOrder (earlier ++ live ∷ later) → AreBefore live.position earlier
before_middle [] live later ordered = tt
before_middle (x ∷ earlier) live later ordered = (behind_middle x.position earlier live later ordered.0, before_middle earlier live later ordered.1)

-- those that stand before one are no later than it
pub earlier_are_before : (target : Target) (h : List Item) (earlier : List Live) (live : Live) (later : List Live) → live_of target h ≡ earlier ++ live ∷ later
    → AreBefore live.position earlier
earlier_are_before target h earlier live later are =
    before_middle earlier live later (subst AreInOrder are (order_up_to target (length h) h))
