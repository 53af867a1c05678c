-- Numbers with a letter behind them.
use Rattle.std.proofs.Common.{◌≡◌, ◌∙◌, ◌-◌, ◌++◌, ℕ, [], ◌∷◌, Option, None, Some, ap, arith, length, option_and_then, refl, take}
use Rattle.std.proofs.Math.Seq.{take-append_seam}
use Rattle.std.specs.List.{IsLastAndRest, last_or}
use Rattle.std.specs.Option.{option_map_or}
use Rattle.clap.specs.Words.{Text}
use Rattle.hc_options.specs.Values.{octets_in, octets_of, unit_of}

last_letter : (front : Text) (letter : ℕ) (o : Option ℕ) → last_or o (front ++ letter ∷ []) ≡ Some letter
last_letter [] letter o = refl
last_letter (x ∷ rest) letter o = last_letter rest letter (Some x)

-- what is read of a text with a last letter
pub octets_with : (text front : Text) (letter : ℕ) → IsLastAndRest text letter front
    → octets_of text ≡ option_map_or (λ unit. octets_in unit front) (unit_of letter) (octets_in 1 text)
octets_with text front letter parts =
    let last : last_or None text ≡ Some letter = ap (λ (t : Text). last_or None t) parts.0 ∙ last_letter front letter None in
    let cut : take (length text - 1) text ≡ front =
    ap (λ (n : ℕ). take n text) (omega (arith, parts.1)) ∙ ap (λ (t : Text). take (length front) t) parts.0
    ∙ take-append_seam front (letter ∷ []) in
    λ i. option_map_or (λ unit. octets_in unit (cut i)) (option_and_then unit_of (last i)) (octets_in 1 text)
