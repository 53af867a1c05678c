-- Which opening octets begin with, and to which they may go on.
use Rattle.std.proofs.Common.{◌≡◌, ◌≢◌, ℕ, ◌<◌, ◌≤◌, ◌⊎◌, true, false, List, [], ◌++◌, length, take, drop, get_or, refl, sym, ap, ◌∙◌, arith, inl, inr}
use Rattle.std.specs.Prelude.{nat_eq}
use Rattle.std.specs.List.{starts_with}
use Rattle.std.proofs.Math.Seq.{take-append_seam}
use Rattle.std.proofs.lemmas.Bool.{cases_lt}
use Rattle.std.proofs.lemmas.List.{take-append-drop, take-append-le, append-nil}
use Rattle.std.proofs.lemmas.Slice.Eq.{bytes_eq-Decides}
use Rattle.hc_transcript.specs.declared.format.Format.{Format}
use Rattle.hc_transcript.specs.declared.format.Format.TheVariants.{First, Second}
use Rattle.hc_transcript.specs.Records.{opening}
use Rattle.hc_transcript.specs.Malformed.{HasNoOpening, IsUnfinishedOpening}

not_both : true ≡ false → ⊥
not_both e = cc

-- what begins with a text is that text and a rest
pub starts : (octets front : List ℕ) → starts_with nat_eq octets front ≡ true → (rest : List ℕ) × (octets ≡ front ++ rest)
starts octets front is =
    let same : front ≡ take (length front) octets = (bytes_eq-Decides front (take (length front) octets)).0 is in
    (drop (length front) octets, sym (take-append-drop (length front) octets) ∙ ap (λ (t : List ℕ). t ++ drop (length front) octets) (sym same))

starts_not : (octets front rest : List ℕ) → starts_with nat_eq octets front ≡ false → octets ≢ front ++ rest
starts_not octets front rest not is =
    let same : front ≡ take (length front) octets = sym (take-append_seam front rest) ∙ ap (take (length front)) (sym is) in
    not_both (sym ((bytes_eq-Decides front (take (length front) octets)).1 same) ∙ not)

pub no_format : (octets : List ℕ) → starts_with nat_eq octets (opening First) ≡ false → starts_with nat_eq octets (opening Second) ≡ false
    → (format : Format) (rest : List ℕ) → octets ≢ opening format ++ rest
no_format octets first second First rest = starts_not octets (opening First) rest first
no_format octets first second Second rest = starts_not octets (opening Second) rest second

-- octets that an opening begins with, but that begin with none
pub unfinished : (octets : List ℕ) (format : Format) → ((other : Format) (rest : List ℕ) → octets ≢ opening other ++ rest) → starts_with nat_eq (opening format) octets ≡ true
    → IsUnfinishedOpening octets
unfinished octets format none is =
    let parts = starts (opening format) octets is in
    let whole : parts.0 ≡ [] → octets ≡ opening format ++ [] =
    λ empty. sym (append-nil octets) ∙ ap (λ (t : List ℕ). octets ++ t) (sym empty) ∙ sym parts.1 ∙ sym (append-nil (opening format)) in
    (format, parts.0, parts.1, λ empty. none format [] (whole empty))

-- octets that begin with no opening, nor an opening with them, never begin with one
never : (octets more front rest : List ℕ) → ((tail : List ℕ) → octets ≢ front ++ tail) → starts_with nat_eq front octets ≡ false → octets ++ more ≢ front ++ rest
never octets more front rest none not e = go (cases_lt (length octets) (length front))
  where
    go : (length octets < length front) ⊎ (length front ≤ length octets) → ⊥
    go (inr long) =
        let same : front ≡ take (length front) octets =
        sym (take-append_seam front rest) ∙ ap (take (length front)) (sym e) ∙ take-append-le (length front) octets more long in
        none (drop (length front) octets) (sym (take-append-drop (length front) octets) ∙ ap (λ (t : List ℕ). t ++ drop (length front) octets) (sym same))
    go (inl short) =
        let same : octets ≡ take (length octets) front =
        sym (take-append_seam octets more) ∙ ap (take (length octets)) e ∙ take-append-le (length octets) front rest (omega (arith, short)) in
        not_both (sym ((bytes_eq-Decides octets (take (length octets) front)).1 same) ∙ not)

pub hopeless : (octets : List ℕ) → ((other : Format) (rest : List ℕ) → octets ≢ opening other ++ rest) → starts_with nat_eq (opening First) octets ≡ false
    → starts_with nat_eq (opening Second) octets ≡ false → HasNoOpening octets
hopeless octets none first second First more rest = never octets more (opening First) rest (none First) first
hopeless octets none first second Second more rest = never octets more (opening Second) rest (none Second) second

-- one opening begins the octets
pub one_format : (octets : List ℕ) (format other : Format) (rest tail : List ℕ) → octets ≡ opening format ++ rest → octets ≡ opening other ++ tail → format ≡ other
one_format octets First First rest tail a b = refl
one_format octets Second Second rest tail a b = refl
one_format octets First Second rest tail a b = absurd (omega (arith, ap (λ (t : List ℕ). get_or t 3 0) (sym a ∙ b)))
one_format octets Second First rest tail a b = absurd (omega (arith, ap (λ (t : List ℕ). get_or t 3 0) (sym b ∙ a)))
