-- Pieces that are in order.
use Rattle.std.proofs.Common.{◌≡◌, ℕ, ◌+◌, ◌-◌, ◌<◌, ◌≤◌, List, [], ◌∷◌, ◌++◌, length, take, drop, get_or, refl, sym, subst, arith, length-append, length-drop}
use Rattle.std.specs.List.{flat_map}
use Rattle.std.proofs.lemmas.List.{length-take}
use Rattle.std.proofs.lemmas.List.Folds.{length-flat_map-take}
use Rattle.hc_framing.specs.declared.body_view.Piece.{Piece}
use Rattle.hc_framing.specs.Pieces.{AreInOrder, end_of, piece_at}

-- a piece behind the others is in order
pub order_push : (at : ℕ) (ps : List Piece) (p : Piece) → AreInOrder at ps → end_of at ps ≤ p.start → AreInOrder at (ps ++ p ∷ [])
order_push at [] p _ behind = (behind, tt)
order_push at (q ∷ ps) p ordered behind = (ordered.0, order_push (q.start + q.len) ps p ordered.1 behind)

pub end_push : (at : ℕ) (ps : List Piece) (p : Piece) → end_of at (ps ++ p ∷ []) ≡ p.start + p.len
end_push at [] p = refl
end_push at (q ∷ ps) p = end_push (q.start + q.len) ps p

-- none are in order
pub none_in_order : (ps : List Piece) → ps ≡ [] → AreInOrder 0 ps
none_in_order ps none = subst (λ (qs : List Piece). AreInOrder 0 qs) (sym none) tt

module _ (octets : List ℕ) where
  -- pieces that are in order have no more octets than there are
  few_behind : (at : ℕ) (ps : List Piece) → AreInOrder at ps → length (flat_map (piece_at octets) ps) ≤ length octets - at
  few_behind at [] _ = omega arith
  few_behind at (p ∷ ps) ordered =
      omega (
        arith,
        ordered.0,
        few_behind (p.start + p.len) ps ordered.1,
        length-append (piece_at octets p) (flat_map (piece_at octets) ps),
        length-take p.len (drop p.start octets),
        length-drop p.start octets,
      )

  pub few : (ps : List Piece) → AreInOrder 0 ps → length (flat_map (piece_at octets) ps) ≤ length octets
  few ps ordered = omega (arith, few_behind 0 ps ordered)

  -- nor have the first of them and the next
  pub few_first : (i : ℕ) (ps : List Piece) (d : Piece) → AreInOrder 0 ps → i < length ps
      → length (flat_map (piece_at octets) (take i ps)) + length (piece_at octets (get_or ps i d)) ≤ length octets
  few_first i ps d ordered lt = omega (arith, few ps ordered, length-flat_map-take (piece_at octets) ps i d lt)
