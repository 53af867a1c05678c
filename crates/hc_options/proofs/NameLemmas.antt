-- Lists that are cut at their commas.
use Rattle.std.proofs.Common.{◌≡◌, ◌∙◌, ◌+◌, ℕ, Bool, true, false, List, [], ◌∷◌, ap, refl, cond, drop, length, take}
use Rattle.std.proofs.lemmas.List.{nil_from_length}
use Rattle.std.specs.List.{onto_first}
use native.Mathlib.Numerals.{unary_clauses}
use Rattle.hc_options.specs.Values.{between_commas, is_comma, len_before_comma}

-- the texts behind the comma with which the rest begins
abbrev behind_comma : List ℕ → List (List ℕ)
behind_comma [] = []
behind_comma (c ∷ cs) = between_commas cs

-- the first text, and those behind its comma
pub first_text : (list : List ℕ) → between_commas list ≡ take (len_before_comma list) list ∷ behind_comma (drop (len_before_comma list) list)
first_text [] = refl
first_text (c ∷ cs) = go (is_comma c) (first_text cs)
  where
    go : (b : Bool) → between_commas cs ≡ take (len_before_comma cs) cs ∷ behind_comma (drop (len_before_comma cs) cs)
        → cond b ([] ∷ between_commas cs) (onto_first c (between_commas cs))
        ≡ take (cond b 0 (len_before_comma cs + 1)) (c ∷ cs) ∷ behind_comma (drop (cond b 0 (len_before_comma cs + 1)) (c ∷ cs))
    go true e = refl
    go false e = simp unary_clauses (ap (onto_first c) e)

-- where the rest behind the first text is empty, or begins with its comma
pub last_text : (list : List ℕ) → length (drop (len_before_comma list) list) ≡ 0 → between_commas list ≡ take (len_before_comma list) list ∷ []
last_text list e = first_text list ∙ ap (λ rest. take (len_before_comma list) list ∷ behind_comma rest) (nil_from_length (drop (len_before_comma list) list) e)

pub next_text : (list : List ℕ) (c : ℕ) (cs : List ℕ) → drop (len_before_comma list) list ≡ c ∷ cs
    → between_commas list ≡ take (len_before_comma list) list ∷ between_commas cs
next_text list c cs e = first_text list ∙ ap (λ rest. take (len_before_comma list) list ∷ behind_comma rest) e
