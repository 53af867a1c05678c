-- The first member of a list, and those behind it.
use Rattle.std.proofs.Common.{◌≡◌, ℕ, ◌+◌, Bool, true, false, cond, not, List, [], ◌∷◌, take, drop, refl, sym, ap, ◌∙◌, add-one}
use Rattle.std.specs.Prelude.{map, filter, if◌then◌else◌}
use Rattle.std.specs.List.{onto_first}
use Rattle.std.proofs.lemmas.List.{drop-drop}
use Rattle.hc_fields.specs.declared.lists.Quoting.{Quoting}
use Rattle.hc_fields.specs.declared.lists.Quoting.TheVariants.{Outside}
use Rattle.hc_fields.specs.Lists.{trimmed, quoting_behind, ends_piece, pieces, is_empty, list_members, piece_len}

-- behind the first octet of what is left
pub behind_first : (place n first : ℕ) (value left rest : List ℕ) → place ≡ n → left ≡ drop place value → left ≡ first ∷ rest → rest ≡ drop (n + 1) value
behind_first place n first value left rest at is e =
    sym (ap (λ (l : List ℕ). drop 1 l) e) ∙ ap (λ (l : List ℕ). drop 1 l) is ∙ drop-drop 1 place value ∙ ap (λ (k : ℕ). drop (k + 1) value) at

abbrev pub kept : List (List ℕ) → List (List ℕ)
kept parts = filter (λ member. not (is_empty member)) (map trimmed parts)

-- the pieces behind the first one
pub parts_behind : Quoting → List ℕ → List (List ℕ)
parts_behind quoting [] = []
parts_behind quoting (c ∷ cs) = if ends_piece quoting c then pieces Outside cs else parts_behind (quoting_behind quoting c) cs

pub first_piece : (quoting : Quoting) (value : List ℕ) → pieces quoting value ≡ take (piece_len quoting value) value ∷ parts_behind quoting value
unfolding parts_behind
first_piece quoting [] = refl
first_piece quoting (c ∷ cs) = go (ends_piece quoting c) (first_piece (quoting_behind quoting c) cs)
  where
    go : (ends : Bool) → pieces (quoting_behind quoting c) cs ≡ take (piece_len (quoting_behind quoting c) cs) cs ∷ parts_behind (quoting_behind quoting c) cs
        → cond ends ([] ∷ pieces Outside cs) (onto_first c (pieces (quoting_behind quoting c) cs))
        ≡ take (cond ends 0 (piece_len (quoting_behind quoting c) cs + 1)) (c ∷ cs) ∷ cond ends (pieces Outside cs) (parts_behind (quoting_behind quoting c) cs)
    go true e = refl
    go false e = rw (e, add-one) refl

behind_piece : (quoting : Quoting) (value : List ℕ) → kept (parts_behind quoting value) ≡ list_members (drop (piece_len quoting value + 1) value)
unfolding parts_behind
behind_piece quoting [] = refl
behind_piece quoting (c ∷ cs) = go (ends_piece quoting c) (behind_piece (quoting_behind quoting c) cs)
  where
    go : (ends : Bool) → kept (parts_behind (quoting_behind quoting c) cs) ≡ list_members (drop (piece_len (quoting_behind quoting c) cs + 1) cs)
        → kept (cond ends (pieces Outside cs) (parts_behind (quoting_behind quoting c) cs))
        ≡ list_members (drop (cond ends 0 (piece_len (quoting_behind quoting c) cs + 1) + 1) (c ∷ cs))
    go true e = refl
    go false e = e ∙ simp add-one

kept_first : (piece : List ℕ) (parts : List (List ℕ)) → kept (piece ∷ parts) ≡ (if is_empty (trimmed piece) then kept parts else trimmed piece ∷ kept parts)
kept_first piece parts = go (is_empty (trimmed piece))
  where
    go : (empty : Bool) → cond (not empty) (trimmed piece ∷ kept parts) (kept parts) ≡ cond empty (kept parts) (trimmed piece ∷ kept parts)
    go true = refl
    go false = refl

-- the first piece is a member if something is left of it, and then come the members behind it
members_from_first : (value member rest : List ℕ) → member ≡ trimmed (take (piece_len Outside value) value) → rest ≡ drop (piece_len Outside value + 1) value
    → list_members value ≡ (if is_empty member then list_members rest else member ∷ list_members rest)
members_from_first value member rest is behind =
    ap kept (first_piece Outside value) ∙ kept_first (take (piece_len Outside value) value) (parts_behind Outside value)
    ∙ rw (behind_piece Outside value, ← is, ← behind) refl

pub next_member : (value piece member rest : List ℕ) → piece ≡ take (piece_len Outside value) value → rest ≡ drop (piece_len Outside value + 1) value → member ≡ trimmed piece
    → is_empty member ≡ false → list_members value ≡ member ∷ list_members rest
next_member value piece member rest first behind is some = members_from_first value member rest (is ∙ ap trimmed first) behind ∙ rw some refl

pub no_member : (value piece member rest : List ℕ) → piece ≡ take (piece_len Outside value) value → rest ≡ drop (piece_len Outside value + 1) value → member ≡ trimmed piece
    → is_empty member ≡ true → list_members value ≡ list_members rest
no_member value piece member rest first behind is none = members_from_first value member rest (is ∙ ap trimmed first) behind ∙ rw none refl
