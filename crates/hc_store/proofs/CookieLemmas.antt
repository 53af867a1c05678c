-- In a store that keeps no responses that set a cookie none is chosen, and none stays that a 304 would give one.
use Rattle.std.proofs.Common.{◌≡◌, ℕ, Bool, true, false, cond, not, ◌&&◌, ◌||◌, List, [], ◌∷◌, Some, refl, sym, ap, ◌∙◌}
use Rattle.std.specs.Prelude.{codes, filter}
use Rattle.std.specs.List.{list_any}
use Rattle.std.specs.Str.{bytes_eq}
use Rattle.std.proofs.lemmas.Bool.{or_from, or_parts, or_right}
use Rattle.std.proofs.lemmas.List.Folds.{list_any-append}
use Rattle.hc_fields.specs.declared.fields.Field.{Field}
use Rattle.hc_fields.specs.Values.{has_name, updated}
use Rattle.hc_head.specs.declared.head.Target.{Target}
use Rattle.hc_update.specs.declared.stored.Stored.{Stored}
use Rattle.hc_update.specs.Sizes.{fits}
use Rattle.hc_update.specs.States.{stored_fields}
use Rattle.hc_store.specs.Entries.{Holdings, IsWithin, may_hold, sets_cookie, variants_of}
use Rattle.hc_store.specs.Choosing.{chosen, chosen_validated}
use Rattle.hc_store.specs.Changes.{Validation, is_validated, may_become, may_stay, renewed}
use Rattle.hc_store.proofs.HeldLemmas.{chosen_held, validated_held}

-- ---- what is chosen

no_cookie : (keeps : Bool) (stored : Stored) → keeps ≡ false → may_hold keeps stored ≡ true → sets_cookie stored ≡ false
no_cookie keeps stored none may = go (sets_cookie stored) (sym (ap (λ (b : Bool). b || not (sets_cookie stored)) none) ∙ may)
  where
    go : (b : Bool) → not b ≡ true → b ≡ false
    go true is = absurd (cc)
    go false is = refl

pub chosen_sets_none : (store : Holdings) (target : Target) (presented : List Field) (choice : Stored) → IsWithin store → store.keeps_cookies ≡ false
    → chosen presented (variants_of target store.entries) ≡ Some choice → sets_cookie choice ≡ false
chosen_sets_none store target presented choice within none is =
    no_cookie store.keeps_cookies choice none
    (chosen_held (λ key stored. may_hold store.keeps_cookies stored ≡ true) target presented store.entries choice within.kept (sym is)).0

pub validated_sets_none : (store : Holdings) (target : Target) (presented : List Field) (position : ℕ) (choice : Stored) → IsWithin store → store.keeps_cookies ≡ false
    → chosen_validated presented position (variants_of target store.entries) ≡ Some choice → sets_cookie choice ≡ false
validated_sets_none store target presented position choice within none is =
    no_cookie store.keeps_cookies choice none
    (validated_held (λ key stored. may_hold store.keeps_cookies stored ≡ true) target presented position store.entries choice within.kept (sym is)).0

-- ---- what a 304 leaves

none_filtered : (p q : Field → Bool) (fields : List Field) → list_any p fields ≡ false → list_any p (filter q fields) ≡ false
none_filtered p q [] none = refl
none_filtered p q (f ∷ fields) none =
    let parts = or_parts (p f) (list_any p fields) none in go (q f) parts.0 (none_filtered p q fields parts.1)
  where
    go : (b : Bool) → p f ≡ false → list_any p (filter q fields) ≡ false → list_any p (cond b (f ∷ filter q fields) (filter q fields)) ≡ false
    go true one rest = or_from _ _ one rest
    go false one rest = rest

abbrev is_cookie : Field → Bool
is_cookie f = bytes_eq f.name (codes "set-cookie")

-- the older lines that stay beside the newer ones
abbrev stays_beside : List Field → Field → Bool
stays_beside newer f = not (has_name f.name newer)

cookie_given : (older newer : List Field) → has_name (codes "set-cookie") newer ≡ true → has_name (codes "set-cookie") (updated older newer) ≡ true
cookie_given older newer some =
    list_any-append is_cookie (filter (stays_beside newer) older) newer ∙ or_right _ _ some

none_given : (older newer : List Field) → has_name (codes "set-cookie") older ≡ false → has_name (codes "set-cookie") newer ≡ false
    → has_name (codes "set-cookie") (updated older newer) ≡ false
none_given older newer one other =
    list_any-append is_cookie (filter (stays_beside newer) older) newer ∙ or_from _ _ (none_filtered is_cookie (stays_beside newer) older one) other

and_false : (b : Bool) → (b && false) ≡ false
and_false true = refl
and_false false = refl

pub cookie_goes : (v : Validation) (variant : Stored) → has_name (codes "set-cookie") (stored_fields v.not_modified.fields v.response_time) ≡ true
    → is_validated v variant ≡ true → may_stay false v variant ≡ false
cookie_goes v variant some is =
    ap (λ (b : Bool). not b || may_become false (renewed v variant)) is
    ∙ ap (λ (b : Bool). fits (renewed v variant) && not b) (cookie_given variant.fields (stored_fields v.not_modified.fields v.response_time) some)
    ∙ and_false (fits (renewed v variant))

pub others_stay : (v : Validation) (variant : Stored) → has_name (codes "set-cookie") (stored_fields v.not_modified.fields v.response_time) ≡ false
    → sets_cookie variant ≡ false → may_stay false v variant ≡ may_stay true v variant
others_stay v variant none plain =
    ap (λ (b : Bool). not (is_validated v variant) || (fits (renewed v variant) && not b))
    (none_given variant.fields (stored_fields v.not_modified.fields v.response_time) plain none)
