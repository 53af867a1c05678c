-- Octets that begin with pieces, one behind another.
use Rattle.std.proofs.Common.{◌≡◌, ℕ, ◌+◌, ◌<◌, true, false, List, [], ◌∷◌, ◌++◌, length, take, drop, get_or, map, sym, ap, ◌∙◌, arith, append_assoc, append-nil}
use Rattle.std.specs.Str.{bytes_eq}
use Rattle.std.specs.List.{concat, flat_map}
use Rattle.std.proofs.lemmas.Grind.{flat_map-append}
use Rattle.std.proofs.lemmas.List.Concat.{concat_is}
use Rattle.std.proofs.lemmas.List.Folds.{flat_map-map}
use Rattle.std.proofs.lemmas.List.{append_cancel_left, drop_more, take_all, take_more, take-append-drop, take-append-le}
use Rattle.std.proofs.lemmas.Slice.Eq.{bytes_eq-Decides}
use Rattle.hc_framing.specs.declared.body_view.Piece.{Piece}

-- octets that begin with a slice are it and what is behind
pub split_off : (s rest behind : List ℕ) → bytes_eq (take (length s) rest) s ≡ true → behind ≡ drop (length s) rest → rest ≡ s ++ behind
split_off s rest behind same behind-is =
    sym (take-append-drop (length s) rest)
    ∙ ap (λ (o : List ℕ). o ++ drop (length s) rest) ((bytes_eq-Decides (take (length s) rest) s).0 same)
    ∙ ap (λ (o : List ℕ). s ++ o) (sym behind-is)

front : (s k : List ℕ) → take (length s) (s ++ k) ≡ s
front s k = take-append-le (length s) s k (omega arith) ∙ take_all (length s) s (omega arith)

-- octets that don't begin with a slice are never it and something behind
pub no_front : (s rest k : List ℕ) → bytes_eq (take (length s) rest) s ≡ false → rest ≡ s ++ k → false ≡ true
no_front s rest k unlike is =
    sym unlike ∙ (bytes_eq-Decides (take (length s) rest) s).1 (ap (λ (o : List ℕ). take (length s) o) is ∙ front s k)

module _ (f : Piece → List ℕ) where
  -- the slices of the pieces, joined
  pub joined : (pieces : List Piece) → concat (map f pieces) ≡ flat_map f pieces
  joined pieces = concat_is (map f pieces) ∙ flat_map-map (λ (o : List ℕ). o) f pieces

  one_more : (pieces : List Piece) (i : ℕ) (d : Piece) → i < length pieces → flat_map f (take (i + 1) pieces) ≡ flat_map f (take i pieces) ++ f (get_or pieces i d)
  one_more pieces i d lt =
      ap (λ (ps : List Piece). flat_map f ps) (take_more pieces i d lt)
      ∙ flat_map-append f (take i pieces) (get_or pieces i d ∷ [])
      ∙ ap (λ (o : List ℕ). flat_map f (take i pieces) ++ o) (append-nil (f (get_or pieces i d)))

  pub goes_on : (pieces : List Piece) (i : ℕ) (d : Piece) (other rest behind p : List ℕ) → i < length pieces
      → other ≡ flat_map f (take i pieces) ++ rest → p ≡ f (get_or pieces i d) → rest ≡ p ++ behind
      → other ≡ flat_map f (take (i + 1) pieces) ++ behind
  goes_on pieces i d other rest behind p lt so p-is rest-is =
      so ∙ ap (λ (o : List ℕ). flat_map f (take i pieces) ++ o) (rest-is ∙ ap (λ (o : List ℕ). o ++ behind) p-is)
      ∙ sym (append_assoc (flat_map f (take i pieces)) (f (get_or pieces i d)) behind)
      ∙ ap (λ (o : List ℕ). o ++ behind) (sym (one_more pieces i d lt))

  pub stops : (pieces : List Piece) (i : ℕ) (d : Piece) (other rest p : List ℕ) → i < length pieces
      → other ≡ flat_map f (take i pieces) ++ rest → p ≡ f (get_or pieces i d) → bytes_eq (take (length p) rest) p ≡ false
      → flat_map f pieces ≡ other → false ≡ true
  stops pieces i d other rest p lt so p-is unlike all =
      let parts : flat_map f pieces ≡ flat_map f (take i pieces) ++ flat_map f (drop i pieces) =
      ap (λ (ps : List Piece). flat_map f ps) (sym (take-append-drop i pieces)) ∙ flat_map-append f (take i pieces) (drop i pieces) in
      let left : rest ≡ flat_map f (drop i pieces) =
      append_cancel_left (flat_map f (take i pieces)) rest (flat_map f (drop i pieces)) (sym so ∙ sym all ∙ parts) in
      let is : rest ≡ p ++ flat_map f (drop (i + 1) pieces) =
      left ∙ ap (λ (ps : List Piece). flat_map f ps) (drop_more pieces i d lt)
      ∙ ap (λ (o : List ℕ). o ++ flat_map f (drop (i + 1) pieces)) (sym p-is) in
      no_front p rest (flat_map f (drop (i + 1) pieces)) unlike is
