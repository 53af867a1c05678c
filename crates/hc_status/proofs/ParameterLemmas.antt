-- A parameter among others: its place, and what takes it.
use Rattle.std.proofs.Common.{◌≡◌, ℕ, ◌<◌, ◌≤◌, Bool, List, [], ◌∷◌, ◌++◌, length, set, suc, inl, inr, refl, sym, ap, subst, ◌∙◌, arith, Some, None, ltb}
use Rattle.std.specs.Prelude.{position}
use Rattle.std.specs.List.{position_or_len}
use Rattle.std.specs.Str.{bytes_eq}
use Rattle.std.proofs.lemmas.Bool.{cond-true, cond-false, ltb-true}
use Rattle.std.proofs.lemmas.Bool.Decides.{nat_tests}
use Rattle.std.proofs.lemmas.Grind.{common_steps}
use Rattle.hc_status.specs.declared.items.Parameter.{Parameter}
use Rattle.hc_status.specs.Grammar.{with_parameter}
use Rattle.hc_status.proofs.RunLemmas.{true_or_false}

-- whether a parameter has that key
abbrev pub has_key : List ℕ → Parameter → Bool
has_key key p = bytes_eq p.key key

-- where the key stands, the parameter takes the place
place_taken : (params : List Parameter) (p : Parameter) → position_or_len (has_key p.key) params < length params
    → with_parameter params p ≡ set params (position_or_len (has_key p.key) params) p
unfolding with_parameter
place_taken [] p within = absurd (omega arith)
place_taken (q ∷ params) p within =
    elim (true_or_false (has_key p.key q)) [
      | inl same ↦ let at : position_or_len (has_key p.key) (q ∷ params) ≡ 0 = grind (arith, common_steps) in
          cond-true (has_key p.key q) _ _ same ∙ ap (λ (n : ℕ). set (q ∷ params) n p) (sym at)
      | inr other ↦ let at : position_or_len (has_key p.key) (q ∷ params) ≡ suc (position_or_len (has_key p.key) params) = grind (arith, common_steps) in
          let later = place_taken params p (omega (arith, at)) in
          cond-false (has_key p.key q) _ _ other ∙ (ap (λ (l : List Parameter). q ∷ l) later ∙ ap (λ (n : ℕ). set (q ∷ params) n p) (sym at))
    ]

-- where it doesn't, the parameter stands last
place_new : (params : List Parameter) (p : Parameter) → length params ≤ position_or_len (has_key p.key) params
    → with_parameter params p ≡ params ++ p ∷ []
unfolding with_parameter
place_new [] p past = refl
place_new (q ∷ params) p past =
    elim (true_or_false (has_key p.key q)) [
      | inl same ↦ let at : position_or_len (has_key p.key) (q ∷ params) ≡ 0 = grind (arith, common_steps) in
          absurd (omega (arith, at))
      | inr other ↦ let at : position_or_len (has_key p.key) (q ∷ params) ≡ suc (position_or_len (has_key p.key) params) = grind (arith, common_steps) in
          let later = place_new params p (omega (arith, at)) in
          cond-false (has_key p.key q) _ _ other ∙ ap (λ (l : List Parameter). q ∷ l) later
    ]

with_parameter_at : (params : List Parameter) (p : Parameter) (i : ℕ) → position (has_key p.key) params ≡ Some i → with_parameter params p ≡ set params i p
with_parameter_at params p i found =
    elim (true_or_false (ltb (position_or_len (has_key p.key) params) (length params))) [
      | inl same ↦ let place : position_or_len (has_key p.key) params ≡ i = grind (arith, common_steps) in
          place_taken params p (ltb-true _ _ same) ∙ ap (λ (n : ℕ). set params n p) place
      | inr other ↦ absurd (grind (arith, common_steps))
    ]

with_parameter_new : (params : List Parameter) (p : Parameter) → position (has_key p.key) params ≡ None → with_parameter params p ≡ params ++ p ∷ []
with_parameter_new params p none =
    elim (true_or_false (ltb (position_or_len (has_key p.key) params) (length params))) [
      | inl same ↦ absurd (grind (arith, common_steps))
      | inr other ↦ place_new params p (grind (arith, nat_tests))
    ]

-- the same of a key that is the parameter's
pub taken_at : (params : List Parameter) (p : Parameter) (key : List ℕ) (i : ℕ) → p.key ≡ key → position (has_key key) params ≡ Some i
    → with_parameter params p ≡ set params i p
taken_at params p key i same found = with_parameter_at params p i (subst (λ (k : List ℕ). position (has_key k) params ≡ Some i) (sym same) found)

pub put_last : (params : List Parameter) (p : Parameter) (key : List ℕ) → p.key ≡ key → position (has_key key) params ≡ None
    → with_parameter params p ≡ params ++ p ∷ []
put_last params p key same none = with_parameter_new params p (subst (λ (k : List ℕ). position (has_key k) params ≡ None) (sym same) none)
