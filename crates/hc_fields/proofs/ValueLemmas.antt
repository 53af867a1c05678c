-- The values of a name among lines of which a test by name keeps some.
use Rattle.std.proofs.Common.{◌≡◌, ℕ, Bool, true, false, cond, ◌||◌, List, [], ◌∷◌, ◌++◌, refl, sym, ap, ◌∙◌, append-nil}
use Rattle.std.specs.Prelude.{filter, Some, None}
use Rattle.std.specs.Str.{bytes_eq}
use Rattle.std.proofs.lemmas.Bool.{cond-false}
use Rattle.std.proofs.lemmas.List.Folds.{list_any-append}
use Rattle.std.proofs.lemmas.Slice.Eq.{bytes_eq-Decides}
use Rattle.hc_fields.specs.declared.fields.Field.{Field}
use Rattle.hc_fields.specs.Values.{values_of, has_name, only, only_value}
use Rattle.hc_fields.proofs.UpdateLemmas.{values_append, values_absent}

-- a name that the test keeps has the values that it had
pub values_kept : (test : List ℕ → Bool) (name : List ℕ) (fields : List Field) → test name ≡ true
    → values_of name (filter (λ f. test f.name) fields) ≡ values_of name fields
values_kept test name [] keeps = refl
values_kept test name (f ∷ fields) keeps = go (bytes_eq f.name name) (test f.name) refl refl (values_kept test name fields keeps)
  where
    go : (same kept : Bool) → bytes_eq f.name name ≡ same → test f.name ≡ kept
        → values_of name (filter (λ g. test g.name) fields) ≡ values_of name fields
        → values_of name (cond kept (f ∷ filter (λ g. test g.name) fields) (filter (λ g. test g.name) fields))
        ≡ cond same (f.value ∷ values_of name fields) (values_of name fields)
    go true true s k e = rw s (ap (λ (vs : List (List ℕ)). f.value ∷ vs) e)
    go false true s k e = rw s e
    go true false s k e = absurd (let other = ap test ((bytes_eq-Decides f.name name).0 s) in cc)
    go false false s k e = e

-- a name that the test drops has none
pub values_dropped : (test : List ℕ → Bool) (name : List ℕ) (fields : List Field) → test name ≡ false
    → values_of name (filter (λ f. test f.name) fields) ≡ []
values_dropped test name [] drops = refl
values_dropped test name (f ∷ fields) drops = go (bytes_eq f.name name) (test f.name) refl refl (values_dropped test name fields drops)
  where
    go : (same kept : Bool) → bytes_eq f.name name ≡ same → test f.name ≡ kept
        → values_of name (filter (λ g. test g.name) fields) ≡ []
        → values_of name (cond kept (f ∷ filter (λ g. test g.name) fields) (filter (λ g. test g.name) fields)) ≡ []
    go true true s k e = absurd (let other = ap test ((bytes_eq-Decides f.name name).0 s) in cc)
    go false true s k e = rw s e
    go same false s k e = e

-- nor a line
pub name_dropped : (test : List ℕ → Bool) (name : List ℕ) (fields : List Field) → test name ≡ false
    → has_name name (filter (λ f. test f.name) fields) ≡ false
name_dropped test name [] drops = refl
name_dropped test name (f ∷ fields) drops = go (bytes_eq f.name name) (test f.name) refl refl (name_dropped test name fields drops)
  where
    go : (same kept : Bool) → bytes_eq f.name name ≡ same → test f.name ≡ kept
        → has_name name (filter (λ g. test g.name) fields) ≡ false
        → has_name name (cond kept (f ∷ filter (λ g. test g.name) fields) (filter (λ g. test g.name) fields)) ≡ false
    go true true s k e = absurd (let other = ap test ((bytes_eq-Decides f.name name).0 s) in cc)
    go false true s k e = rw s e
    go same false s k e = e

-- two texts differ, whichever stands first
pub differs : (one other : List ℕ) → bytes_eq one other ≡ false → bytes_eq other one ≡ false
differs one other e = go (bytes_eq other one) refl
  where
    go : (same : Bool) → bytes_eq other one ≡ same → same ≡ false
    go true s = absurd (let both = (bytes_eq-Decides one other).1 (sym ((bytes_eq-Decides other one).0 s)) in cc)
    go false s = refl

-- of two tests of which neither passes, neither does
pub either_fails : (a b : Bool) → (a || b) ≡ false → (a ≡ false) × (b ≡ false)
either_fails true b e = absurd (cc)
either_fails false b e = (refl, e)

-- a line of another name adds no value
pub other_behind : (name : List ℕ) (fields : List Field) (f : Field) → bytes_eq f.name name ≡ false → values_of name (fields ++ f ∷ []) ≡ values_of name fields
other_behind name fields f other =
    values_append name fields (f ∷ [])
    ∙ ap (λ (vs : List (List ℕ)). values_of name fields ++ vs) (cond-false (bytes_eq f.name name) _ _ other)
    ∙ append-nil (values_of name fields)

-- no line has a name that has no value
pub no_value : (name : List ℕ) (fields : List Field) → values_of name fields ≡ [] → has_name name fields ≡ false
no_value name [] e = refl
no_value name (f ∷ fields) e = go (bytes_eq f.name name) (no_value name fields) e
  where
    go : (same : Bool) → (values_of name fields ≡ [] → has_name name fields ≡ false)
        → cond same (f.value ∷ values_of name fields) (values_of name fields) ≡ [] → (same || has_name name fields) ≡ false
    go true none e = absurd (cc)
    go false none e = none e

-- a line has a name that has a value
pub some_value : (name : List ℕ) (fields : List Field) (value : List ℕ) (more : List (List ℕ)) → values_of name fields ≡ value ∷ more
    → has_name name fields ≡ true
some_value name [] value more e = absurd (cc)
some_value name (f ∷ fields) value more e = go (bytes_eq f.name name) (some_value name fields value more) e
  where
    go : (same : Bool) → (values_of name fields ≡ value ∷ more → has_name name fields ≡ true)
        → cond same (f.value ∷ values_of name fields) (values_of name fields) ≡ value ∷ more → (same || has_name name fields) ≡ true
    go true some e = refl
    go false some e = some e

-- a line among some or behind them has a name where one among them or one behind them has it
pub has_name_append : (name : List ℕ) (xs ys : List Field) → has_name name (xs ++ ys) ≡ (has_name name xs || has_name name ys)
has_name_append name xs ys = list_any-append (λ f. bytes_eq f.name name) xs ys

-- a value is the only one where no line behind it has the name
pub one_value : (name : List ℕ) (all behind : List Field) (value : List ℕ) → values_of name all ≡ value ∷ values_of name behind
    → has_name name behind ≡ false → only_value name all ≡ Some value
one_value name all behind value first none =
    ap only first ∙ ap (λ (vs : List (List ℕ)). only (value ∷ vs)) (values_absent name behind none)

-- none is the only one where another line behind it has the name
pub several_values : (name : List ℕ) (all behind : List Field) (value : List ℕ) → values_of name all ≡ value ∷ values_of name behind
    → has_name name behind ≡ true → only_value name all ≡ None
several_values name all behind value first there = ap only first ∙ go (values_of name behind) refl
  where
    go : (others : List (List ℕ)) → values_of name behind ≡ others → only (value ∷ others) ≡ None
    go [] e = absurd (let other = no_value name behind e in cc)
    go (other ∷ others) e = refl
