-- What Vary selects.
use Rattle.std.proofs.Common.{◌≡◌, ℕ, Bool, true, false, cond, not, ◌&&◌, ◌||◌, List, [], ◌∷◌, map, Option, Some, None, All, Contains, refl, sym, ap, ◌∙◌}
use Rattle.std.specs.Prelude.{codes, slice_index_or}
use Rattle.std.specs.Bool.{beq}
use Rattle.std.specs.List.{list_all, flat_map}
use Rattle.std.specs.Option.{option_eq}
use Rattle.std.specs.Cmp.Lexicographic.{pointwise}
use Rattle.std.specs.Str.{bytes_eq, str_to_ascii_lowercase}
use Rattle.std.proofs.lemmas.List.Folds.{list_all_at}
use Rattle.std.proofs.lemmas.List.Sums.{list_all-from_AllPass}
use Rattle.std.proofs.lemmas.Slice.Eq.{bytes_eq-Decides}
use Rattle.hc_fields.specs.declared.fields.Field.{Field}
use Rattle.hc_fields.specs.Values.{values_of, has_name, joined_values}
use Rattle.hc_fields.specs.Lists.{trimmed, list_members, members_of}
use Rattle.hc_fields.specs.Tokens.{is_token}
use Rattle.hc_fields.proofs.UpdateLemmas.{values_absent}
use Rattle.hc_rules.specs.Selecting.{is_list_of_preferences, agree, is_met, selects}
use Rattle.hc_rules.specs.Laws.{NamesSameLines}

-- without a Vary line every request is selected
pub selected_without_vary : (fields forwarded presented : List Field) → has_name (codes "vary") fields ≡ false → true ≡ selects fields forwarded presented
selected_without_vary fields forwarded presented absent =
    sym (ap (λ (values : List (List ℕ)). list_all (is_met forwarded presented) (flat_map list_members values)) (values_absent (codes "vary") fields absent))

-- ---- a member that isn't met

pub unmet_selects_nobody : (fields forwarded presented : List Field) (member : List ℕ) → Contains (members_of (codes "vary") fields) member → is_met forwarded presented member ≡ false
    → selects fields forwarded presented ≡ false
unmet_selects_nobody fields forwarded presented member listed unmet =
    list_all_at (is_met forwarded presented) (members_of (codes "vary") fields) listed.0 member listed.1
    (ap (is_met forwarded presented) listed.2 ∙ unmet)

-- ---- fields that one request alone has

-- whether there are values
is_there : List (List ℕ) → Bool
is_there [] = false
is_there (value ∷ values) = true

has_values : (name : List ℕ) (fields : List Field) → has_name name fields ≡ is_there (values_of name fields)
unfolding is_there
has_values name [] = refl
has_values name (f ∷ fs) = go (bytes_eq f.name name) (has_values name fs)
  where
    go : (same : Bool) → has_name name fs ≡ is_there (values_of name fs) → (same || has_name name fs) ≡ is_there (cond same (f.value ∷ values_of name fs) (values_of name fs))
    go true e = refl
    go false e = e

-- the values of a name in both requests, of which the second has none
apart : (preferred forwards presents : Bool) (values others : List (List ℕ)) → forwards ≡ true → presents ≡ false → is_there values ≡ true → others ≡ []
    → cond preferred (beq forwards presents && pointwise bytes_eq (flat_map list_members values) (flat_map list_members others))
    (option_eq bytes_eq (joined_values (map trimmed values)) (joined_values (map trimmed others)))
    ≡ false
unfolding is_there
apart preferred forwards presents [] others f p there none = absurd (cc)
apart true forwards presents (value ∷ values) others f p there none = rw (f, p) refl
apart false forwards presents (value ∷ values) others f p there none = rw none refl

disagree : (name : List ℕ) (forwarded presented : List Field) → has_name name forwarded ≡ true → has_name name presented ≡ false → agree name forwarded presented ≡ false
disagree name forwarded presented has lacks =
    apart (is_list_of_preferences name) (has_name name forwarded) (has_name name presented) (values_of name forwarded) (values_of name presented) has lacks
    (sym (has_values name forwarded) ∙ has) (values_absent name presented lacks)

pub lacking_is_unmet : (forwarded presented : List Field) (member : List ℕ) → has_name (str_to_ascii_lowercase member) forwarded ≡ true → has_name (str_to_ascii_lowercase member) presented ≡ false
    → is_met forwarded presented member ≡ false
lacking_is_unmet forwarded presented member has lacks = rw (disagree (str_to_ascii_lowercase member) forwarded presented has lacks) (falls (is_token member) (not (bytes_eq member (codes "*"))))
  where
    falls : (a b : Bool) → ((a && b) && false) ≡ false
    falls true true = refl
    falls true false = refl
    falls false b = refl

-- ---- the same lines

same_octets : (xs : List ℕ) → bytes_eq xs xs ≡ true
same_octets xs = (bytes_eq-Decides xs xs).1 refl

same_members : (xs : List (List ℕ)) → pointwise bytes_eq xs xs ≡ true
same_members [] = refl
same_members (x ∷ xs) = rw (same_octets x) (same_members xs)

same_value : (value : Option (List ℕ)) → option_eq bytes_eq value value ≡ true
same_value None = refl
same_value (Some value) = same_octets value

together : (preferred forwards presents : Bool) (values others : List (List ℕ)) → forwards ≡ presents → values ≡ others
    → cond preferred (beq forwards presents && pointwise bytes_eq (flat_map list_members values) (flat_map list_members others))
    (option_eq bytes_eq (joined_values (map trimmed values)) (joined_values (map trimmed others)))
    ≡ true
together true true presents values others f v = rw (← f, ← v) (same_members (flat_map list_members values))
together true false presents values others f v = rw (← f, ← v) (same_members (flat_map list_members values))
together false forwards presents values others f v = rw (← v) (same_value (joined_values (map trimmed values)))

agree_on_same : (name : List ℕ) (forwarded presented : List Field) → values_of name forwarded ≡ values_of name presented → agree name forwarded presented ≡ true
agree_on_same name forwarded presented same =
    together (is_list_of_preferences name) (has_name name forwarded) (has_name name presented) (values_of name forwarded) (values_of name presented)
    (has_values name forwarded ∙ ap is_there same ∙ sym (has_values name presented)) same

other_octets : (xs ys : List ℕ) → ¬ (xs ≡ ys) → bytes_eq xs ys ≡ false
other_octets xs ys other = go (bytes_eq xs ys) (bytes_eq-Decides xs ys).0
  where
    go : (same : Bool) → (same ≡ true → xs ≡ ys) → same ≡ false
    go true is = absurd (other (is refl))
    go false is = refl

met : (forwarded presented : List Field) (member : List ℕ) → NamesSameLines forwarded presented member → is_met forwarded presented member ≡ true
met forwarded presented member names =
    rw (names.token, other_octets member (codes "*") names.no_asterisk, agree_on_same (str_to_ascii_lowercase member) forwarded presented names.same) refl

all_met : (forwarded presented : List Field) (members : List (List ℕ)) → All (NamesSameLines forwarded presented) members → list_all (is_met forwarded presented) members ≡ true
all_met forwarded presented members names = list_all-from_AllPass (is_met forwarded presented) members (λ k d within. met forwarded presented (slice_index_or members k d) (names k d within))

pub same_lines_select : (fields forwarded presented : List Field) → All (NamesSameLines forwarded presented) (members_of (codes "vary") fields) → selects fields forwarded presented ≡ true
same_lines_select fields forwarded presented names = all_met forwarded presented (members_of (codes "vary") fields) names
