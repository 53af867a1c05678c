-- Entries that are put in one behind another.
use Rattle.std.proofs.Common.{◌≡◌, ◌<◌, ◌≤◌, ◌+◌, ◌++◌, ◌∙◌, ◌&&◌, ◌||◌, ℕ, zero, suc, Bool, true, false, not, List, [], ◌∷◌, Ordering, Less, Equal, Greater, add-one, ap, append_assoc, bytes_eq, get_or, length, map, sym, take, refl, true≢false, arith}
use Rattle.std.proofs.lemmas.Slice.Eq.{bytes_eq-Decides}
use Rattle.std.specs.Ordering.{match_ordering}
use Rattle.serde_json.specs.Data.{Data, Members, no_members, member, put, depth, items_depth, members_depth}
use Rattle.serde_json.specs.Find.{get_member}
use Rattle.serde_json.specs.View.{items_view, view}
use Rattle.serde_json.specs.declared.value.Value.{Value}
use Rattle.serde_json.proofs.Views.{get_member-put, get_member-put_other}
use Rattle.hc_figures.specs.Entries.{Entry, HaveAll, are_distinct, is_named, with_all}

-- ---- what members have

both_false : (a b : Bool) → (a || b) ≡ false → (a ≡ false) × (b ≡ false)
both_false true b none = absurd cc
both_false false true none = absurd cc
both_false false false none = (refl, refl)

both_true : (a b : Bool) → (not a && b) ≡ true → (a ≡ false) × (b ≡ true)
both_true false true both = (refl, refl)
both_true false false both = absurd cc
both_true true b both = absurd cc

differ : (name other : List ℕ) → bytes_eq name other ≡ false → name ≡ other → ⊥
differ name other is same = true≢false (sym ((bytes_eq-Decides name other).1 same) ∙ is)

stays : (name : List ℕ) (entries : List Entry) (ms : Members) → is_named name entries ≡ false → get_member name (with_all entries ms) ≡ get_member name ms
stays name [] ms none = refl
stays name (entry ∷ entries) ms none =
    let both = both_false (bytes_eq name entry.0) (is_named name entries) none in
    stays name entries (put entry.0 entry.1 ms) both.1 ∙ get_member-put_other name entry.0 entry.1 ms (differ name entry.0 both.0)

-- what was put in is there, where no two have the same name
pub all_there : (entries : List Entry) (ms : Members) → are_distinct entries ≡ true → HaveAll entries (with_all entries ms)
all_there [] ms apart = tt
all_there (entry ∷ entries) ms apart =
    let both = both_true (is_named entry.0 entries) (are_distinct entries) apart in
    (stays entry.0 entries (put entry.0 entry.1 ms) both.0 ∙ get_member-put entry.0 entry.1 ms, all_there entries (put entry.0 entry.1 ms) both.1)

-- ---- how deep they nest

depth_either : (o : Ordering) (a b c : Members) (n : ℕ) → members_depth a ≤ n → members_depth b ≤ n → members_depth c ≤ n → members_depth (match_ordering o a b c) ≤ n
depth_either Less a b c n p q r = p
depth_either Equal a b c n p q r = q
depth_either Greater a b c n p q r = r

pub put_depth : (name : List ℕ) (d : Data) (ms : Members) (n : ℕ) → depth d ≤ n → members_depth ms ≤ n → members_depth (put name d ms) ≤ n
put_depth name d no_members n p q = omega arith
put_depth name d (member l e ms) n p q =
    depth_either _ (member name d (member l e ms)) (member l d ms) (member l e (put name d ms)) n (omega arith) (omega arith) (omega (arith, put_depth name d ms n p (omega arith)))

pub value_depth : (name : List ℕ) (d value : Data) (old new : Members) (n : ℕ) → d ≡ value → depth value ≤ n → members_depth old ≤ n → new ≡ put name d old → members_depth new ≤ n
value_depth name d value old new n same few q is = rw (is, same) (put_depth name value old n few q)

-- nor deeper than each of them
abbrev pub NoDeeper : ℕ → List Entry → Type 0
NoDeeper n [] = Unit {0}
NoDeeper n (entry ∷ entries) = (depth entry.1 ≤ n) × NoDeeper n entries

pub all_depth : (entries : List Entry) (ms : Members) (n : ℕ) → NoDeeper n entries → members_depth ms ≤ n → members_depth (with_all entries ms) ≤ n
all_depth [] ms n each q = q
all_depth (entry ∷ entries) ms n each q = all_depth entries (put entry.0 entry.1 ms) n each.1 (put_depth entry.0 entry.1 ms n each.0 q)

pushed_values : (vs : List Value) (v : Value) (n : ℕ) → depth (view v) ≤ n → items_depth (items_view vs) ≤ n → items_depth (items_view (vs ++ v ∷ [])) ≤ n
pushed_values [] v n few q = omega arith
pushed_values (first ∷ vs) v n few q = omega (arith, pushed_values vs v n few (omega arith))

pub pushed_depth : (vs new : List Value) (v : Value) (n : ℕ) → depth (view v) ≤ n → items_depth (items_view vs) ≤ n → new ≡ vs ++ v ∷ [] → items_depth (items_view new) ≤ n
pushed_depth vs new v n few q is = rw is (pushed_values vs v n few q)

-- ---- values that are pushed

map_more : {X : Type 0} (f : X → Data) (xs : List X) (i : ℕ) (d : X) → i < length xs → map f (take i xs) ++ f (get_or xs i d) ∷ [] ≡ map f (take (suc i) xs)
map_more f [] i d few = absurd (omega arith)
map_more f (x ∷ xs) zero d few = refl
map_more f (x ∷ xs) (suc i) d few = ap (λ (ds : List Data). f x ∷ ds) (map_more f xs i d (omega arith))

-- one value more is pushed behind those of the first of them
pub value_pushed : {X : Type 0} (f : X → Data) (xs : List X) (i : ℕ) (d : X) (old before new : List Data) → i < length xs → before ≡ old ++ map f (take i xs)
    → new ≡ before ++ f (get_or xs i d) ∷ [] → new ≡ old ++ map f (take (i + 1) xs)
value_pushed f xs i d old before new few so_far is =
    is ∙ ap (λ (ds : List Data). ds ++ f (get_or xs i d) ∷ []) so_far ∙ append_assoc old _ _ ∙ rw add-one (ap (λ (ds : List Data). old ++ ds) (map_more f xs i d few))
