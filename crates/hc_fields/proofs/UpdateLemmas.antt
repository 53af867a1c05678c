-- The values of a name among lines that were put behind others, removed or updated.
use Rattle.std.proofs.Common.{◌≡◌, ℕ, Bool, true, false, cond, not, ◌||◌, List, [], ◌∷◌, ◌++◌, refl, ap, ◌∙◌}
use Rattle.std.specs.Prelude.{filter}
use Rattle.std.specs.Str.{bytes_eq}
use Rattle.std.proofs.lemmas.Slice.Eq.{bytes_eq-Decides}
use Rattle.hc_fields.specs.declared.fields.Field.{Field}
use Rattle.hc_fields.specs.Values.{values_of, has_name, without, updated}

pub values_append : (name : List ℕ) (xs ys : List Field) → values_of name (xs ++ ys) ≡ values_of name xs ++ values_of name ys
values_append name [] ys = refl
values_append name (x ∷ xs) ys = go (bytes_eq x.name name) (values_append name xs ys)
  where
    go : (same : Bool) → values_of name (xs ++ ys) ≡ values_of name xs ++ values_of name ys
        → cond same (x.value ∷ values_of name (xs ++ ys)) (values_of name (xs ++ ys))
        ≡ cond same (x.value ∷ values_of name xs) (values_of name xs) ++ values_of name ys
    go true e = ap (λ (vs : List (List ℕ)). x.value ∷ vs) e
    go false e = e

-- no line of a name is left where its lines were removed
pub values_without : (name : List ℕ) (xs : List Field) → values_of name (without name xs) ≡ []
values_without name [] = refl
values_without name (x ∷ xs) = go (bytes_eq x.name name) refl (values_without name xs)
  where
    go : (same : Bool) → bytes_eq x.name name ≡ same → values_of name (without name xs) ≡ []
        → values_of name (cond (not same) (x ∷ without name xs) (without name xs)) ≡ []
    go true e none = none
    go false e none = rw e none

-- where no line has the name, there is no value of it
pub values_absent : (name : List ℕ) (xs : List Field) → has_name name xs ≡ false → values_of name xs ≡ []
values_absent name [] absent = refl
values_absent name (x ∷ xs) absent = go (bytes_eq x.name name) (values_absent name xs) absent
  where
    go : (same : Bool) → (has_name name xs ≡ false → values_of name xs ≡ []) → (same || has_name name xs) ≡ false
        → cond same (x.value ∷ values_of name xs) (values_of name xs) ≡ []
    go true none e = absurd (cc)
    go false none e = none e

-- what has one of the newer names is gone from the older lines
kept_older : (name : List ℕ) (older newer : List Field) → has_name name newer ≡ true → values_of name (filter (λ f. not (has_name f.name newer)) older) ≡ []
kept_older name [] newer there = refl
kept_older name (x ∷ xs) newer there = go (bytes_eq x.name name) (has_name x.name newer) refl refl (kept_older name xs newer there)
  where
    go : (same known : Bool) → bytes_eq x.name name ≡ same → has_name x.name newer ≡ known
        → values_of name (filter (λ f. not (has_name f.name newer)) xs) ≡ []
        → values_of name (cond (not known) (x ∷ filter (λ f. not (has_name f.name newer)) xs) (filter (λ f. not (has_name f.name newer)) xs)) ≡ []
    go same true s k none = none
    go false false s k none = rw s none
    go true false s k none =
        absurd (let e = ap (λ (n : List ℕ). has_name n newer) ((bytes_eq-Decides x.name name).0 s) in cc)

-- after an update the values of a newer name are those of the newer lines
pub values_updated : (name : List ℕ) (older newer : List Field) → has_name name newer ≡ true → values_of name (updated older newer) ≡ values_of name newer
values_updated name older newer there =
    values_append name (filter (λ f. not (has_name f.name newer)) older) newer
    ∙ ap (λ (vs : List (List ℕ)). vs ++ values_of name newer) (kept_older name older newer there)
