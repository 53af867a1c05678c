-- Names that are put in order and joined.
use Rattle.std.proofs.Common.{◌≡◌, ◌==◌, ◌<◌, ◌+◌, ◌++◌, ◌∙◌, ℕ, zero, suc, true, false, List, [], ◌∷◌, add-one, ap, get_or, length, take, refl, arith}
use Rattle.std.proofs.lemmas.Bool.Decides.{nat_tests}
use Rattle.serde_json.specs.Data.{Members, null, put}
use Rattle.hc_figures.specs.Entries.{with_all}
use Rattle.hc_shown.specs.Octets.{octets_text}
use Rattle.hc_report.specs.Made.{name_entries, with_name}

one_more : (names : List (List ℕ)) (i : ℕ) (d : List ℕ) (old : Members) → i < length names
    → put (octets_text (get_or names i d)) null (with_all (take i (name_entries names)) old) ≡ with_all (take (suc i) (name_entries names)) old
one_more [] i d old few = absurd (omega arith)
one_more (name ∷ names) zero d old few = refl
one_more (name ∷ names) (suc i) d old few = one_more names i d (put (octets_text name) null old) (omega arith)

-- one name more is put behind the first of them
pub name_put : (names : List (List ℕ)) (i : ℕ) (d : List ℕ) (old before new : Members) → i < length names → before ≡ with_all (take i (name_entries names)) old
    → new ≡ put (octets_text (get_or names i d)) null before → new ≡ with_all (take (i + 1) (name_entries names)) old
name_put names i d old before new few so_far is = is ∙ ap (put (octets_text (get_or names i d)) null) so_far ∙ rw add-one (one_more names i d old few)

-- ---- names behind names

pub first_name : (text name new : List ℕ) → (length text == 0) ≡ true → new ≡ text ++ name → new ≡ with_name text name
first_name [] name new none is = is
first_name (x ∷ rest) name new none is = absurd (grind (arith, nat_tests))

pub later_name : (text name new : List ℕ) → (length text == 0) ≡ false → new ≡ text ++ 44 ∷ [] ++ name → new ≡ with_name text name
later_name [] name new some is = absurd cc
later_name (x ∷ rest) name new some is = is
