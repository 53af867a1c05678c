-- A client that lists a response's tag.
use Rattle.std.proofs.Common.{◌≡◌, ℕ, Bool, true, false, ◌||◌, List, Some, Contains, refl, ap, subst, ◌∙◌, arith}
use Rattle.std.specs.Prelude.{codes}
use Rattle.std.specs.List.{flat_map}
use Rattle.std.proofs.lemmas.List.Folds.{list_any_at}
use Rattle.std.proofs.lemmas.Slice.Eq.{bytes_eq-Decides}
use Rattle.hc_fields.specs.declared.fields.Field.{Field}
use Rattle.hc_fields.specs.Values.{has_name, only_value}
use Rattle.hc_fields.specs.Lists.{list_members, members_of}
use Rattle.hc_fields.proofs.UpdateLemmas.{values_absent}
use Rattle.hc_rules.specs.Validators.{without_weak_mark, tag_of}
use Rattle.hc_rules.specs.Conditions.{is_wildcard, match_weakly, lists_tag, has_stored, client_condition}

-- a name of which a member stands among the lines is there
listed_name : (name : List ℕ) (fields : List Field) (member : List ℕ) → Contains (members_of name fields) member → has_name name fields ≡ true
listed_name name fields member listed = go (has_name name fields) refl
  where
    go : (has : Bool) → has_name name fields ≡ has → has_name name fields ≡ true
    go true e = e
    go false e =
        let none = ap (λ (values : List (List ℕ)). flat_map list_members values) (values_absent name fields e) in
        let empty = subst (λ (members : List (List ℕ)). Contains members member) none listed in
        absurd (omega (arith, empty.1))

tag_listed : (presented : List Field) (tag : List ℕ) → Contains (members_of (codes "if-none-match") presented) tag → lists_tag presented (Some tag) ≡ true
tag_listed presented tag listed =
    list_any_at (λ member. match_weakly member tag) (members_of (codes "if-none-match") presented) listed.0 tag listed.1
    (ap (λ (member : List ℕ). match_weakly member tag) listed.2 ∙ (bytes_eq-Decides (without_weak_mark tag) (without_weak_mark tag)).1 refl)

either : (wildcard listed : Bool) → listed ≡ true → (wildcard || listed) ≡ true
either true listed e = refl
either false listed e = e

pub listed_holds : (presented fields : List Field) (tag : List ℕ) → Contains (members_of (codes "if-none-match") presented) tag → tag_of fields ≡ Some tag → client_condition presented 200 fields ≡ true
listed_holds presented fields tag listed is =
    let stored : has_stored presented fields ≡ true =
    either (is_wildcard (only_value (codes "if-none-match") presented)) (lists_tag presented (tag_of fields))
    (ap (lists_tag presented) is ∙ tag_listed presented tag listed) in
    rw (listed_name (codes "if-none-match") presented tag listed) stored
