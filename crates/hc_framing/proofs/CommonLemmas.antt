-- How many octets two begin with.
use Rattle.std.proofs.Common.{◌≡◌, ℕ, ◌+◌, ◌-◌, ◌<◌, ◌≤◌, List, [], ◌∷◌, ◌++◌, length, take, drop, get_or, refl, sym, ap, ◌∙◌, inl, inr, false, arith, append-nil, length-append}
use Rattle.std.specs.Str.{bytes_eq}
use Rattle.std.proofs.lemmas.Bool.{cases_eq, eq-eqb, ne_eqb}
use Rattle.std.specs.List.{flat_map}
use Rattle.std.proofs.lemmas.Bool.{false≢true}
use Rattle.std.proofs.lemmas.Grind.{flat_map-append}
use Rattle.std.proofs.lemmas.List.{drop_more, take_all, take-append-drop}
use Rattle.hc_framing.specs.declared.body_view.Piece.{Piece}
use Rattle.hc_framing.specs.Pieces.{in_common}
use Rattle.hc_framing.proofs.PieceLemmas.{no_front}

-- they are no more than the others have
pub common_within : (one other : List ℕ) → in_common one other ≤ length other
common_within [] other = omega arith
common_within (x ∷ one) [] = omega arith
common_within (x ∷ one) (y ∷ other) =
    let on = common_within one other in
    elim (cases_eq x y) [
      | inl same ↦ rw (eq-eqb x y same) (omega (arith, on))
      | inr differ ↦ rw (ne_eqb x y differ) (omega arith)
    ]

-- behind a front that both have the count goes on
pub common_behind : (front one other : List ℕ) → in_common (front ++ one) (front ++ other) ≡ length front + in_common one other
common_behind [] one other = omega arith
common_behind (x ∷ front) one other = rw (eq-eqb x x refl) (omega (arith, common_behind front one other))

-- it ends within a front that the others don't have
pub common_ends : (front one other : List ℕ) → ((behind : List ℕ) → other ≡ front ++ behind → ⊥) → in_common (front ++ one) other ≡ in_common front other
common_ends [] one other none = absurd (none other refl)
common_ends (x ∷ front) one [] none = refl
common_ends (x ∷ front) one (y ∷ other) none =
    let on = common_ends front one other in
    elim (cases_eq x y) [
      | inl same ↦ rw (eq-eqb x y same) (ap (λ (n : ℕ). 1 + n) (on (λ behind more. none behind (λ i. sym same i ∷ more i))))
      | inr differ ↦ rw (ne_eqb x y differ) refl
    ]

-- others that begin with all of them have all of them in common
pub common_whole : (one other rest : List ℕ) → other ≡ one ++ rest → in_common one other ≡ length one
common_whole one other rest is =
    ap (λ (o : List ℕ). in_common o other) (sym (append-nil one)) ∙ ap (λ (o : List ℕ). in_common (one ++ []) o) is
    ∙ (omega (arith, common_behind one [] rest))

-- the front that both have, and what both have behind it
pub common_there : (front part more one other rest : List ℕ) → one ≡ front ++ (part ++ more) → other ≡ front ++ rest
    → bytes_eq (take (length part) rest) part ≡ false → in_common one other ≡ length front + in_common part rest
common_there front part more one other rest one-is other-is unlike =
    ap (λ (o : List ℕ). in_common o other) one-is ∙ ap (λ (o : List ℕ). in_common (front ++ (part ++ more)) o) other-is
    ∙ common_behind front (part ++ more) rest
    ∙ ap (λ (n : ℕ). length front + n) (common_ends part more rest (λ behind is. false≢true (no_front part rest behind unlike is)))

module _ (f : Piece → List ℕ) (pieces : List Piece) (i : ℕ) (other rest : List ℕ) (so : other ≡ flat_map f (take i pieces) ++ rest) where
  come : length other ≡ length (flat_map f (take i pieces)) + length rest
  come = ap (λ (o : List ℕ). length o) so ∙ length-append (flat_map f (take i pieces)) rest

  -- the octets begin with all of the pieces
  pub all_in_common : length pieces ≤ i → length other - length rest ≡ in_common (flat_map f pieces) other
  all_in_common all =
      let whole : take i pieces ≡ pieces = take_all i pieces all in
      let is : other ≡ flat_map f pieces ++ rest = so ∙ ap (λ (ps : List Piece). flat_map f ps ++ rest) whole in
      omega (arith, common_whole (flat_map f pieces) other rest is, ap (λ (o : List ℕ). length o) is, length-append (flat_map f pieces) rest)

  -- or with those before this one, and a front of it
  pub some_in_common : (d : Piece) (p : List ℕ) → i < length pieces → p ≡ f (get_or pieces i d) → bytes_eq (take (length p) rest) p ≡ false
      → (length other - length rest) + in_common p rest ≡ in_common (flat_map f pieces) other
  some_in_common d p lt p-is unlike =
      let more = flat_map f (drop (i + 1) pieces) in
      let parts : flat_map f pieces ≡ flat_map f (take i pieces) ++ (p ++ more) =
      ap (λ (ps : List Piece). flat_map f ps) (sym (take-append-drop i pieces)) ∙ flat_map-append f (take i pieces) (drop i pieces)
      ∙ ap (λ (ps : List Piece). flat_map f (take i pieces) ++ flat_map f ps) (drop_more pieces i d lt)
      ∙ ap (λ (o : List ℕ). flat_map f (take i pieces) ++ (o ++ more)) (sym p-is) in
      omega (arith, come, common_there (flat_map f (take i pieces)) p more (flat_map f pieces) other rest parts so unlike)
