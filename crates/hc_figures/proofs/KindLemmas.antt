-- Kinds that are counted, and held against a baseline.
use Rattle.std.proofs.Common.{◌≡◌, ◌≤◌, ◌<◌, ◌+◌, ◌-◌, ◌++◌, ◌^◌, ◌&&◌, ◌⊎◌, ℕ, Bool, true, false, List, [], ◌∷◌, Option, None, Some, option_map, length, min, nat_le, bytes_eq, unwrap_or, cond, Ordering, Less, Equal, Greater, is_eq, nat_cmp, true≢false, ap, sym, ◌∙◌, inl, inr, refl, subst, arith}
use Rattle.std.proofs.lemmas.Bool.Decides.{nat_tests}
use Rattle.std.proofs.lemmas.Map.Text.{is_eq-slice_cmp}
use Rattle.std.specs.Cmp.Lexicographic.{slice_cmp}
use Rattle.std.specs.Ordering.{match_ordering}
use Rattle.std.proofs.lemmas.Slice.Eq.{bytes_eq-Decides}
use Rattle.serde_json.specs.Data.{Data, Members, no_members, member, number, unsigned}
use Rattle.serde_json.specs.Find.{get_member}
use Rattle.serde_json.proofs.Views.{get_member-put, get_member-put_other}
use Rattle.hc_figures.specs.Kinds.{AreKnown, Kind, times}
use Rattle.hc_figures.specs.Reports.{count_under, counts_in, covers, gone_in, gone_of, number_of, with_one_more}
use Rattle.hc_figures.specs.Tallies.{AreCounts}

times-append : (kind : Kind) (kinds more : List Kind) → times kind (kinds ++ more) ≡ times kind kinds + times kind more
times-append kind [] more = omega arith
times-append kind (first ∷ kinds) more = let e = times-append kind kinds more in omega (arith, e)

-- one that comes behind others is counted with them
times-other : (kind : Kind) (kinds : List Kind) (one : Kind) → bytes_eq kind one ≡ false → times kind (kinds ++ one ∷ []) ≡ times kind kinds
times-other kind kinds one other = let e = times-append kind kinds (one ∷ []) in rw (e, other) (omega arith)

bytes_same : (kind : Kind) → bytes_eq kind kind ≡ true
bytes_same kind = (bytes_eq-Decides kind kind).1 refl

times-here : (kinds : List Kind) (one : Kind) → times one (kinds ++ one ∷ []) ≡ times one kinds + 1
times-here kinds one = let e = times-append one kinds (one ∷ []) in rw (e, bytes_same one) (omega arith)

pub times-few : (kind : Kind) (kinds : List Kind) → times kind kinds ≤ length kinds
times-few kind [] = omega arith
times-few kind (one ∷ kinds) = either_way (bytes_eq kind one) (times-few kind kinds)
  where
    either_way : (same : Bool) → times kind kinds ≤ length kinds → (cond same 1 0) + times kind kinds ≤ length (one ∷ kinds)
    either_way true few = omega (arith, few)
    either_way false few = omega (arith, few)

-- ---- one more

counted : (kind other : Kind) (counts : Members) (kinds : List Kind) (same : Bool) → bytes_eq other kind ≡ same → AreCounts counts kinds
    → count_under other (with_one_more kind counts) ≡ min (times other (kinds ++ kind ∷ [])) (2 ^ 64 - 1)
counted kind other counts kinds true same are =
    let is : other ≡ kind = (bytes_eq-Decides other kind).0 same in
    let one = number (unsigned (min (count_under kind counts + 1) (2 ^ 64 - 1))) in
    let there = get_member-put kind one counts in
    let was = are kind in
    let now = times-here kinds kind in
    subst (λ (k : Kind). count_under k (with_one_more kind counts) ≡ min (times k (kinds ++ kind ∷ [])) (2 ^ 64 - 1)) (sym is)
    (ap (λ (d : Option Data). unwrap_or (number_of d) 0) there ∙ omega (arith, was, now))
counted kind other counts kinds false same are =
    let one = number (unsigned (min (count_under kind counts + 1) (2 ^ 64 - 1))) in
    let there = get_member-put_other other kind one counts (λ (is : other ≡ kind). true≢false (sym ((bytes_eq-Decides other kind).1 is) ∙ same)) in
    ap (λ (d : Option Data). unwrap_or (number_of d) 0) there ∙ are other ∙ ap (λ (n : ℕ). min n (2 ^ 64 - 1)) (sym (times-other other kinds kind same))

pub one_more : (kind : Kind) (old new : Members) (kinds : List Kind) → AreCounts old kinds → new ≡ with_one_more kind old → AreCounts new (kinds ++ kind ∷ [])
one_more kind old new kinds are is = λ other.
    subst (λ (m : Members). count_under other m ≡ min (times other (kinds ++ kind ∷ [])) (2 ^ 64 - 1)) (sym is) (counted kind other old kinds (bytes_eq other kind) refl are)

-- ---- held against a baseline

is_few : (m n : ℕ) → m ≤ n → nat_le m n ≡ true
is_few m n few = grind (arith, nat_tests)

less_of : (m n : ℕ) → nat_le m n ≡ true → m ≤ n
less_of m n is = grind (arith, nat_tests)

both_true : (a b : Bool) → (a && b) ≡ true → (a ≡ true) × (b ≡ true)
both_true true true both = (refl, refl)
both_true true false both = cc
both_true false b both = cc

skip_at : (o : Ordering) (a b : Option Data) → is_eq o ≡ false → match_ordering o a b a ≡ a
skip_at Less a b e = refl
skip_at Equal a b e = absurd (true≢false e)
skip_at Greater a b e = refl

skips : (kind one : Kind) (count : Data) (counts : Members) → bytes_eq kind one ≡ false → get_member kind (member one count counts) ≡ get_member kind counts
skips kind one count counts other = skip_at (slice_cmp nat_cmp kind one) _ _ (is_eq-slice_cmp kind one ∙ other)

-- where each kind of the members is covered, any kind is that one of them names
covered_at : (base : Kind → ℕ) (all counts : Members) (kind : Kind) → covers base all counts ≡ true → (get_member kind counts ≡ None) ⊎ (count_under kind all ≤ base kind)
covered_at base all no_members kind covered = inl refl
covered_at base all (member one count counts) kind covered =
    let both = both_true (nat_le (count_under one all) (base one)) (covers base all counts) covered in
    named (bytes_eq kind one) refl (covered_at base all counts kind both.1)
  where
    named : (same : Bool) → bytes_eq kind one ≡ same → (get_member kind counts ≡ None) ⊎ (count_under kind all ≤ base kind)
        → (get_member kind (member one count counts) ≡ None) ⊎ (count_under kind all ≤ base kind)
    named true same rest = inr (subst (λ (k : Kind). count_under k all ≤ base k) (sym ((bytes_eq-Decides kind one).0 same)) (less_of _ _ (both_true (nat_le (count_under one all) (base one)) (covers base all counts) covered).0))
    named false same (inr few) = inr few
    named false same (inl none) = inl (skips kind one count counts same ∙ none)

pub all_covered : (base : Kind → ℕ) (counts : Members) (kinds : List Kind) → AreCounts counts kinds → length kinds < 2 ^ 64 → covers base counts counts ≡ true → AreKnown base kinds
all_covered base counts kinds are few covered = λ kind. at_most kind (covered_at base counts counts kind covered)
  where
    at_most : (kind : Kind) → (get_member kind counts ≡ None) ⊎ (count_under kind counts ≤ base kind) → times kind kinds ≤ base kind
    at_most kind (inl none) =
        let nothing : count_under kind counts ≡ 0 = ap (λ (d : Option Data). unwrap_or (number_of d) 0) none in
        let is = are kind in
        let short = times-few kind kinds in
        omega (arith, nothing, is, short, few)
    at_most kind (inr most) =
        let is = are kind in
        let short = times-few kind kinds in
        omega (arith, most, is, short, few)

-- and where all are known, each of them is covered
pub known_covered : (base : Kind → ℕ) (all counts : Members) (kinds : List Kind) → AreCounts all kinds → AreKnown base kinds → covers base all counts ≡ true
known_covered base all no_members kinds are known = refl
known_covered base all (member one count counts) kinds are known =
    let is = are one in
    let few = known one in
    let here : count_under one all ≤ base one = omega (arith, is, few) in
    let test : nat_le (count_under one all) (base one) ≡ true = is_few _ _ here in
    rw (test, known_covered base all counts kinds are known) refl

pub not_covered : (base : Kind → ℕ) (counts : Members) (kinds : List Kind) → AreCounts counts kinds → covers base counts counts ≡ false → ¬ AreKnown base kinds
not_covered base counts kinds are other known = absurd (true≢false (sym (known_covered base counts counts kinds are known) ∙ other))

-- ---- what is gone

-- by counts or by the kinds that were counted, as many are gone
same_gone : (counted all counts : Members) (kinds : List Kind) → AreCounts counted kinds → length kinds < 2 ^ 64
    → gone_of all (λ kind. count_under kind counted) counts ≡ gone_of all (λ kind. times kind kinds) counts
same_gone counted all no_members kinds are few = refl
same_gone counted all (member one count counts) kinds are few =
    let is = are one in
    let short = times-few one kinds in
    let same : count_under one counted ≡ times one kinds = omega (arith, is, short, few) in
    λ i. (count_under one all - same i) + same_gone counted all counts kinds are few i

gone_in_either : (had : Option Members) (counted : Members) (kinds : List Kind) → AreCounts counted kinds → length kinds < 2 ^ 64
    → unwrap_or (option_map (λ counts. gone_of counts (λ kind. count_under kind counted) counts) had) 0
    ≡ unwrap_or (option_map (λ counts. gone_of counts (λ kind. times kind kinds) counts) had) 0
gone_in_either None counted kinds are few = refl
gone_in_either (Some counts) counted kinds are few = same_gone counted counts counts kinds are few

pub gone_by_kinds : (report : Data) (counted : Members) (kinds : List Kind) → AreCounts counted kinds → length kinds < 2 ^ 64
    → gone_in report (λ kind. count_under kind counted) ≡ gone_in report (λ kind. times kind kinds)
gone_by_kinds report counted kinds are few = gone_in_either (counts_in report) counted kinds are few
