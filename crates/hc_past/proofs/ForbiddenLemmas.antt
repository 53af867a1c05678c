-- The latest targets of which a response may not be stored.
use Rattle.std.proofs.Common.{◌≡◌, ◌<◌, ◌+◌, ◌-◌, ℕ, zero, suc, Bool, true, false, cond, List, [], ◌∷◌, length, take, Option, Some, None, IsSome, refl, sym, ap, ◌∙◌, subst, arith, inl, inr}
use Rattle.std.specs.Prelude.{◌&&◌, ◌||◌, not, nat_lt, is_some, slice_get, Result, Ok, Err, OnOk}
use Rattle.std.specs.Map.{lookup, lookup_entry, remove_entry}
use Rattle.std.proofs.lemmas.Bool.{cases_lt}
use Rattle.std.proofs.lemmas.Bool.Decides.{nat_tests}
use Rattle.std.proofs.lemmas.List.{take-take, take_all}
use Rattle.hc_head.specs.declared.head.Target.{Target}
use Rattle.hc_head.specs.Targets.{same_target}
use Rattle.hc_head.proofs.SameTargetLemmas.{same_target_one}
use Rattle.hc_use.specs.declared.storing.Forbids.{Forbids}
use Rattle.hc_transcript.specs.Items.{Forward}
use Rattle.hc_past.specs.Remembered.{forbidden_to}
use Rattle.lru.specs.LruCache.{LruCache, displaced, put_entries}

abbrev pub Pairs : Type 0
Pairs = List (Target × Forbids)

-- ---- whether a key is among the first

-- both ways to look it up agree
data Looked (test : Target → Bool) (es : Pairs) : Type 0 where
  Absent : lookup_entry test es ≡ None → lookup test es ≡ None → Looked test es
  There : (e : Target × Forbids) → lookup_entry test es ≡ Some e → lookup test es ≡ Some e.1 → test e.0 ≡ true → Looked test es

looked : (test : Target → Bool) (es : Pairs) → Looked test es
looked test [] = Absent refl refl
looked test (e ∷ es) = go (test e.0) refl (looked test es)
  where
    go : (here : Bool) → test e.0 ≡ here → Looked test es → Looked test (e ∷ es)
    go true is rest = There e (rw is refl) (rw is refl) is
    go false is (Absent missing none) = Absent (rw is missing) (rw is none)
    go false is (There other entry value same) = There other (rw is entry) (rw is value) same

-- where it is among the first, one less is left of them without it
left_there : (test : Target → Bool) (m : ℕ) (es : Pairs) → IsSome (lookup test (take (suc m) es)) → take m (remove_entry test es) ≡ remove_entry test (take (suc m) es)
left_there test m [] some = cc
left_there test zero (e ∷ es) some = go (test e.0) refl some
  where
    go : (here : Bool) → test e.0 ≡ here → IsSome (cond here (Some e.1) None) → [] ≡ remove_entry test (e ∷ [])
    go true is there = rw is refl
    go false is there = cc
left_there test (suc m) (e ∷ es) some = go (test e.0) refl some (left_there test m es)
  where
    go : (here : Bool) → test e.0 ≡ here → IsSome (cond here (Some e.1) (lookup test (take (suc m) es)))
        → (IsSome (lookup test (take (suc m) es)) → take m (remove_entry test es) ≡ remove_entry test (take (suc m) es))
        → take (suc m) (remove_entry test (e ∷ es)) ≡ remove_entry test (e ∷ take (suc m) es)
    go true is there later = rw is refl
    go false is there later = rw is (ap (λ (l : Pairs). e ∷ l) (later there))

-- where it isn't, all but the last of them are left
left_absent : (test : Target → Bool) (m : ℕ) (es : Pairs) → lookup test (take (suc m) es) ≡ None → take m (remove_entry test es) ≡ take m es
left_absent test zero es none = refl
left_absent test (suc m) [] none = refl
left_absent test (suc m) (e ∷ es) none = go (test e.0) refl none (left_absent test m es)
  where
    go : (here : Bool) → test e.0 ≡ here → cond here (Some e.1) (lookup test (take (suc m) es)) ≡ None
        → (lookup test (take (suc m) es) ≡ None → take m (remove_entry test es) ≡ take m es)
        → take (suc m) (remove_entry test (e ∷ es)) ≡ e ∷ take m es
    go true is there later = cc
    go false is there later = rw is (ap (λ (l : Pairs). e ∷ l) (later there))

-- ---- how many there are

length_there : (test : Target → Bool) (es : Pairs) → IsSome (lookup test es) → length (remove_entry test es) + 1 ≡ length es
length_there test [] some = cc
length_there test (e ∷ es) some = go (test e.0) refl some (length_there test es)
  where
    go : (here : Bool) → test e.0 ≡ here → IsSome (cond here (Some e.1) (lookup test es)) → (IsSome (lookup test es) → length (remove_entry test es) + 1 ≡ length es)
        → length (remove_entry test (e ∷ es)) + 1 ≡ length (e ∷ es)
    go true is there later = rw is (omega arith)
    go false is there later = let rest = later there in rw is (omega (arith, rest))

length_absent : (test : Target → Bool) (es : Pairs) → lookup test es ≡ None → length (remove_entry test es) ≡ length es
length_absent test [] none = refl
length_absent test (e ∷ es) none = go (test e.0) refl none (length_absent test es)
  where
    go : (here : Bool) → test e.0 ≡ here → cond here (Some e.1) (lookup test es) ≡ None → (lookup test es ≡ None → length (remove_entry test es) ≡ length es)
        → length (remove_entry test (e ∷ es)) ≡ length (e ∷ es)
    go true is there later = cc
    go false is there later = rw is (ap (λ (k : ℕ). suc k) (later there))

-- what is among the first is among all
among_all : (test : Target → Bool) (n : ℕ) (es : Pairs) → IsSome (lookup test (take n es)) → IsSome (lookup test es)
among_all test zero es some = cc
among_all test (suc n) [] some = cc
among_all test (suc n) (e ∷ es) some = go (test e.0) refl some (among_all test n es)
  where
    go : (here : Bool) → test e.0 ≡ here → IsSome (cond here (Some e.1) (lookup test (take n es))) → (IsSome (lookup test (take n es)) → IsSome (lookup test es))
        → IsSome (lookup test (e ∷ es))
    go true is there later = rw is refl
    go false is there later = rw is (later there)

-- one stands at the last place of the first where there are so many
at_last : (m : ℕ) (es : Pairs) → is_some (slice_get (take (suc m) es) m) ≡ nat_lt m (length es)
at_last m [] = grind (arith, nat_tests)
at_last zero (e ∷ es) = grind (arith, nat_tests)
at_last (suc m) (e ∷ es) = at_last m es ∙ further m (length es)
  where
    further : (a b : ℕ) → nat_lt a b ≡ nat_lt (suc a) (suc b)
    further a b = grind (arith, nat_tests)

-- ---- what is put among them

-- it goes first, and those that were first are left behind it
pub put_first : (k : Target) (v : Forbids) (m : ℕ) (all : Pairs) (old : LruCache Target Forbids) → old.entries ≡ take (suc m) all → old.cap ≡ suc m
    → put_entries same_target old k v ≡ take (suc m) ((k, v) ∷ remove_entry (same_target k) all)
put_first k v m all old is room = go (looked (same_target k) old.entries)
  where
    go : Looked (same_target k) old.entries → put_entries same_target old k v ≡ take (suc m) ((k, v) ∷ remove_entry (same_target k) all)
    go (Absent missing none) =
        let less : old.cap - 1 ≡ m = omega (arith, room) in
        let absent : lookup (same_target k) (take (suc m) all) ≡ None = ap (lookup (same_target k)) (sym is) ∙ none in
        rw missing (ap (λ (l : Pairs). (k, v) ∷ l)
        (ap (λ (c : ℕ). take c old.entries) less ∙ ap (take m) is ∙ take-take m (suc m) all (omega arith) ∙ sym (left_absent (same_target k) m all absent)))
    go (There e entry value same) =
        let some : IsSome (lookup (same_target k) (take (suc m) all)) = subst (λ (es : Pairs). IsSome (lookup (same_target k) es)) is (ap is_some value) in
        rw entry (ap (λ (t : Target). (t, v) ∷ remove_entry (same_target k) old.entries) (sym (same_target_one k e.0 same))
        ∙ ap (λ (l : Pairs). (k, v) ∷ l) (ap (remove_entry (same_target k)) is ∙ sym (left_there (same_target k) m all some)))

or_false : (b : Bool) → (b || false) ≡ b
or_false true = refl
or_false false = refl

or_less : (m n : ℕ) → (nat_lt (suc m) n || nat_lt m n) ≡ nat_lt m n
or_less m n = grind (arith, nat_tests)

both_less : (m n : ℕ) → suc m < n → nat_lt m n ≡ nat_lt (suc m) n
both_less m n low = grind (arith, nat_tests)

one_further : (m n : ℕ) → nat_lt m n ≡ nat_lt (suc m) (suc n)
one_further m n = grind (arith, nat_tests)

no_more : {X : Type 0} (o : Option X) (x : X) → o ≡ None → o ≡ Some x → ⊥
no_more None x none some = cc
no_more (Some y) x none some = cc

-- of more than those so many are none the fewer where one of them moves, and one more where one comes
more_of : (k : Target) (v : Forbids) (m : ℕ) (all : Pairs) → lookup (same_target k) (take (suc m) all) ≡ None
    → nat_lt m (length all) ≡ nat_lt (suc m) (length ((k, v) ∷ remove_entry (same_target k) all))
more_of k v m all none = go (looked (same_target k) all)
  where
    go : Looked (same_target k) all → nat_lt m (length all) ≡ nat_lt (suc m) (suc (length (remove_entry (same_target k) all)))
    go (Absent missing absent) =
        one_further m (length all) ∙ ap (λ (n : ℕ). nat_lt (suc m) (suc n)) (sym (length_absent (same_target k) all absent))
    go (There e entry value same) =
        let left = length_there (same_target k) all (ap is_some value) in
        let as_many : length all ≡ suc (length (remove_entry (same_target k) all)) = omega (arith, left) in
        let many : suc m < length all = elim (cases_lt (suc m) (length all)) [
          | inl lt ↦ lt
          | inr ge ↦ absurd (no_more (lookup (same_target k) all) e.1 (ap (lookup (same_target k)) (sym (take_all (suc m) all ge)) ∙ none) value)
        ] in
        both_less m (length all) many ∙ ap (nat_lt (suc m)) as_many

-- whether there are more
pub more_known : (k : Target) (v : Forbids) (m : ℕ) (all : Pairs) (old : LruCache Target Forbids) (before known pushed after : Bool)
    → old.entries ≡ take (suc m) all → old.cap ≡ suc m → before ≡ nat_lt (suc m) (length all) → known ≡ is_some (lookup (same_target k) old.entries)
    → pushed ≡ is_some (displaced same_target old k v) → after ≡ (before || (not known && pushed))
    → after ≡ nat_lt (suc m) (length ((k, v) ∷ remove_entry (same_target k) all))
more_known k v m all old before known pushed after is room before_is known_is pushed_is after_is = go (looked (same_target k) old.entries)
  where
    go : Looked (same_target k) old.entries → after ≡ nat_lt (suc m) (suc (length (remove_entry (same_target k) all)))
    go (Absent missing none) =
        let less : old.cap - 1 ≡ m = omega (arith, room) in
        let absent : lookup (same_target k) (take (suc m) all) ≡ None = ap (lookup (same_target k)) (sym is) ∙ none in
        let unknown : known ≡ false = known_is ∙ ap is_some none in
        let last : is_some (displaced same_target old k v) ≡ is_some (slice_get old.entries (old.cap - 1)) = rw none refl in
        let full : pushed ≡ nat_lt m (length all) =
        pushed_is ∙ last ∙ ap (λ (c : ℕ). is_some (slice_get old.entries c)) less ∙ ap (λ (es : Pairs). is_some (slice_get es m)) is ∙ at_last m all in
        after_is ∙ ap (λ (b : Bool). before || (not b && pushed)) unknown ∙ ap (λ (b : Bool). b || pushed) before_is
        ∙ ap (λ (b : Bool). nat_lt (suc m) (length all) || b) full ∙ or_less m (length all) ∙ more_of k v m all absent
    go (There e entry value same) =
        let some : IsSome (lookup (same_target k) (take (suc m) all)) = subst (λ (es : Pairs). IsSome (lookup (same_target k) es)) is (ap is_some value) in
        let left = length_there (same_target k) all (among_all (same_target k) (suc m) all some) in
        let as_many : length all ≡ suc (length (remove_entry (same_target k) all)) = omega (arith, left) in
        let is_known : known ≡ true = known_is ∙ ap is_some value in
        after_is ∙ ap (λ (b : Bool). before || (not b && pushed)) is_known ∙ or_false before ∙ before_is ∙ ap (nat_lt (suc m)) as_many

-- a failure forbids nothing
pub none_forbidden : (o : Option Forward) (all : Pairs) → forbidden_to None o all ≡ all
none_forbidden None all = refl
none_forbidden (Some forward) all = refl

-- what holds of all results holds of that
pub where_ok : {A E : Type 0} (r : Result A E) (P : Type 0) → P → OnOk r P
where_ok (Ok x) P holds = holds
where_ok (Err e) P holds = tt
