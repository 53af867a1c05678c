-- Which octets never have a chunk line, and that none is awaited there.
use Rattle.std.proofs.Common.{◌≡◌, ◌≢◌, ℕ, ◌<◌, Bool, true, false, List, [], ◌∷◌, ◌++◌, Option, Some, None, length, drop, get_or, refl, sym, ap, ◌∙◌, arith, append_assoc}
use Rattle.std.specs.Char.{is_ascii_hexdigit}
use Rattle.std.specs.List.{AllPass}
use Rattle.std.proofs.lemmas.Bool.Decides.{nat_tests}
use Rattle.std.proofs.lemmas.List.Elements.{All-head, All-tail}
use Rattle.hc_fields.specs.Lists.{is_blank}
use Rattle.hc_framing.specs.ChunkLines.{CanBecomeChunkLine, ChunkLine, NeverHasChunkLine, chunk_line_text, extension_text, line_end}

-- ---- what no line begins with

-- lists that are the same begin with the same octet, and go on alike
first_same : (octet other : ℕ) (octets others : List ℕ) → octet ∷ octets ≡ other ∷ others → octet ≡ other
first_same octet other octets others is = ap (λ (o : List ℕ). get_or o 0 0) is

rest_same : (octet other : ℕ) (octets others : List ℕ) → octet ∷ octets ≡ other ∷ others → octets ≡ others
rest_same octet other octets others is = ap (drop 1) is

-- what follows the digits of a line
abbrev behind_digits : List ℕ → Option (List ℕ) → List ℕ → List ℕ
behind_digits padding extension rest = (padding ++ (extension_text extension ++ line_end)) ++ rest

-- it begins with no digit, and with no bare line feed
begins_otherwise : (padding : List ℕ) (extension : Option (List ℕ)) (rest : List ℕ) (octet : ℕ) (octets : List ℕ) → AllPass is_blank padding
    → octet ∷ octets ≡ behind_digits padding extension rest → (is_ascii_hexdigit octet ≡ false) × (octet ≢ 10)
begins_otherwise (p ∷ padding) extension rest octet octets pass is =
    let here : octet ≡ p = first_same octet p octets (behind_digits padding extension rest) is in
    let blank : is_blank octet ≡ true = ap is_blank here ∙ All-head (λ x. is_blank x ≡ true) p padding pass in
    (grind (arith, nat_tests), λ e. let feed : is_blank 10 ≡ true = ap is_blank (sym e) ∙ blank in cc)
begins_otherwise [] (Some text) rest octet octets pass is = let here : octet ≡ 59 = first_same octet 59 octets ((text ++ line_end) ++ rest) is in (ap is_ascii_hexdigit here, λ e. omega (arith, here, e))
begins_otherwise [] None rest octet octets pass is = let here : octet ≡ 13 = first_same octet 13 octets (10 ∷ rest) is in (ap is_ascii_hexdigit here, λ e. omega (arith, here, e))

-- digits with a bare line feed behind them are no beginning of digits with what follows those
apart : (before digits padding : List ℕ) (extension : Option (List ℕ)) (after rest : List ℕ)
    → AllPass is_ascii_hexdigit before → AllPass is_ascii_hexdigit digits → AllPass is_blank padding
    → before ++ 10 ∷ after ≡ digits ++ behind_digits padding extension rest → ⊥
apart [] [] padding extension after rest pass digit blank is = (begins_otherwise padding extension rest 10 after blank is).1 refl
apart [] (d ∷ digits) padding extension after rest pass digit blank is =
    let here : is_ascii_hexdigit 10 ≡ true = ap is_ascii_hexdigit (first_same 10 d after (digits ++ behind_digits padding extension rest) is) ∙ All-head (λ x. is_ascii_hexdigit x ≡ true) d digits digit in cc
apart (b ∷ before) [] padding extension after rest pass digit blank is =
    let other = (begins_otherwise padding extension rest b (before ++ 10 ∷ after) blank is).0 in
    let here = All-head (λ x. is_ascii_hexdigit x ≡ true) b before pass in cc
apart (b ∷ before) (d ∷ digits) padding extension after rest pass digit blank is =
    apart before digits padding extension after rest
    (All-tail (λ x. is_ascii_hexdigit x ≡ true) b before pass) (All-tail (λ x. is_ascii_hexdigit x ≡ true) d digits digit) blank
    (rest_same b d (before ++ 10 ∷ after) (digits ++ behind_digits padding extension rest) is)

pub no_plus : (octets : List ℕ) → NeverHasChunkLine (43 ∷ octets)
no_plus octets = λ more size len line.
    begun line.line.digits (octets ++ more) ((line.line.padding ++ (extension_text line.line.extension ++ line_end)) ++ line.rest)
    line.is.some_digit line.is.digits
    (line.octets_are ∙ append_assoc line.line.digits (line.line.padding ++ (extension_text line.line.extension ++ line_end)) line.rest)
  where
    begun : (digits octets behind : List ℕ) → 0 < length digits → AllPass is_ascii_hexdigit digits → 43 ∷ octets ≡ digits ++ behind → ⊥
    begun [] octets behind some digit is = absurd (omega (arith, some))
    begun (d ∷ digits) octets behind some digit is =
        let here : is_ascii_hexdigit 43 ≡ true = ap is_ascii_hexdigit (first_same 43 d octets (digits ++ behind) is) ∙ All-head (λ x. is_ascii_hexdigit x ≡ true) d digits digit in cc

pub no_bare_line_feed : (digits octets : List ℕ) → AllPass is_ascii_hexdigit digits → NeverHasChunkLine (digits ++ 10 ∷ octets)
no_bare_line_feed digits octets pass = λ more size len line.
    apart digits line.line.digits line.line.padding line.line.extension (octets ++ more) line.rest pass line.is.digits line.is.padding
    (sym (append_assoc digits (10 ∷ octets) more) ∙ line.octets_are
    ∙ append_assoc line.line.digits (line.line.padding ++ (extension_text line.line.extension ++ line_end)) line.rest)

-- ---- what is awaited

pub never_awaited : (octets : List ℕ) → NeverHasChunkLine octets → ¬ (CanBecomeChunkLine octets)
never_awaited octets never = λ can. never can.0 can.1 (length (octets ++ can.0)) can.2
