-- The names that are compared are those of the reply, and then the others.
use Rattle.std.proofs.Common.{◌≡◌, ℕ, ◌==◌, ◌&&◌, ◌||◌, ◌++◌, Bool, true, false, List, [], ◌∷◌, if◌then◌else◌, refl, ap, subst, sym, ◌∙◌}
use Rattle.std.specs.List.{list_all}
use Rattle.std.specs.Str.{bytes_eq}
use Rattle.std.proofs.lemmas.List.Folds.{list_all-append, list_all-map}
use Rattle.std.proofs.lemmas.Slice.Eq.{bytes_eq-Decides}
use Rattle.hc_fields.specs.declared.fields.Field.{Field}
use Rattle.hc_fields.specs.Values.{has_name, line}
use Rattle.hc_update.specs.declared.stored.Stored.{Stored}
use Rattle.hc_history.specs.Claims.{Claim}
use Rattle.hc_head.specs.Statuses.{not_modified}
use Rattle.hc_rules.specs.Conditions.{repeated_names}
use Rattle.hc_history.specs.Filters.{names_of}
use Rattle.hc_history.specs.Allowing.{has_allowed_fields, has_its_values}

-- the same of the names of lines
abbrev pub has_lines : Claim → Stored → List Field → Bool
has_lines claim state lines = list_all (λ (f : Field). has_its_values claim state f.name) lines

-- the names besides those of the reply
others : Claim → Stored → List (List ℕ)
others claim state = if claim.reply.head.status == not_modified then repeated_names else names_of state.fields

lines_first : (p : List ℕ → Bool) (lines : List Field) (names : List (List ℕ))
    → list_all p (names_of lines ++ names) ≡ (list_all (λ (f : Field). p f.name) lines && list_all p names)
lines_first p lines names =
    list_all-append p (names_of lines) names ∙ ap (λ (b : Bool). b && list_all p names) (list_all-map p (λ (f : Field). f.name) lines)

in_two : (claim : Claim) (state : Stored)
    → has_allowed_fields claim state ≡ (has_lines claim state claim.reply.head.fields && list_all (has_its_values claim state) (others claim state))
unfolding others
in_two claim state = lines_first (has_its_values claim state) claim.reply.head.fields (others claim state)

pub fields_lacked : (claim : Claim) (state : Stored) → has_lines claim state claim.reply.head.fields ≡ false → false ≡ has_allowed_fields claim state
fields_lacked claim state e = sym (in_two claim state ∙ ap (λ (b : Bool). b && list_all (has_its_values claim state) (others claim state)) e)

there : (claim : Claim) (state : Stored) → has_lines claim state claim.reply.head.fields ≡ true
    → has_allowed_fields claim state ≡ list_all (has_its_values claim state) (others claim state)
there claim state e = in_two claim state ∙ ap (λ (b : Bool). b && list_all (has_its_values claim state) (others claim state)) e

pub fields_of_304 : (claim : Claim) (state : Stored) → has_lines claim state claim.reply.head.fields ≡ true → (claim.reply.head.status == not_modified) ≡ true
    → list_all (has_its_values claim state) repeated_names ≡ has_allowed_fields claim state
unfolding others
fields_of_304 claim state e is =
    sym (there claim state e ∙ ap (λ (b : Bool). list_all (has_its_values claim state) (if b then repeated_names else names_of state.fields)) is)

pub fields_of_other : (claim : Claim) (state : Stored) → has_lines claim state claim.reply.head.fields ≡ true → (claim.reply.head.status == not_modified) ≡ false
    → has_lines claim state state.fields ≡ has_allowed_fields claim state
unfolding others
fields_of_other claim state e is =
    sym (there claim state e
    ∙ ap (λ (b : Bool). list_all (has_its_values claim state) (if b then repeated_names else names_of state.fields)) is
    ∙ list_all-map (has_its_values claim state) (λ (f : Field). f.name) state.fields)

-- what isn't compared may be looked at in another order
pub exempt_in_any_order : (a b c : Bool) → (b || c || a) ≡ (a || b || c)
exempt_in_any_order true true true = refl
exempt_in_any_order true true false = refl
exempt_in_any_order true false true = refl
exempt_in_any_order true false false = refl
exempt_in_any_order false true true = refl
exempt_in_any_order false true false = refl
exempt_in_any_order false false true = refl
exempt_in_any_order false false false = refl

-- where the reply has the values of each of those lines, it has those of a name that one of them has
pub values_of_own : (claim : Claim) (state : Stored) (name : List ℕ) (lines : List Field) → has_lines claim state lines ≡ true
    → has_name name lines ≡ true → has_its_values claim state name ≡ true
values_of_own claim state name [] all there = absurd (cc)
values_of_own claim state name (x ∷ xs) all there =
    go (bytes_eq x.name name) (has_its_values claim state x.name) refl refl (values_of_own claim state name xs) all there
  where
    go : (same has : Bool) → bytes_eq x.name name ≡ same → has_its_values claim state x.name ≡ has
        → (has_lines claim state xs ≡ true → has_name name xs ≡ true → has_its_values claim state name ≡ true)
        → (has && has_lines claim state xs) ≡ true → (same || has_name name xs) ≡ true → has_its_values claim state name ≡ true
    go true true s h behind a t = subst (λ (n : List ℕ). has_its_values claim state n ≡ true) ((bytes_eq-Decides x.name name).0 s) h
    go true false s h behind a t = absurd (cc)
    go false true s h behind a t = behind a t
    go false false s h behind a t = absurd (cc)

-- where the reply has the values of a line's name, the lines behind it decide
pub line_passed : (claim : Claim) (state : Stored) (name value : List ℕ) (lines rest : List Field) → lines ≡ line name value ∷ rest
    → has_its_values claim state name ≡ true → has_lines claim state rest ≡ has_lines claim state lines
line_passed claim state name value lines rest is has =
    sym (ap (λ (fs : List Field). has_lines claim state fs) is ∙ ap (λ (b : Bool). b && has_lines claim state rest) has)
