-- Decimals up to a greatest number, and what stands before a mark.
use Rattle.std.proofs.Common.{◌≡◌, ℕ, ◌^◌, ◌<◌, ◌≤◌, Bool, true, false, ◌||◌, List, [], ◌∷◌, ◌++◌, refl, sym, ap, subst, ◌∙◌, arith}
use Rattle.std.specs.Fmt.{decimal}
use Rattle.std.specs.List.{list_any}
use Rattle.hc_transcript.specs.Lines.{Writes, is_feed}
use Rattle.hc_transcript.proofs.LineLaws.{Writes_decimal, decimal_written, Writes_unique}
use Rattle.hc_transcript.proofs.MarkLemmas.{is_space, first_mark_unique}
use Rattle.hc_transcript.proofs.NumeralLemmas.{written_lacks_space, written_lacks_feed}
use Rattle.hc_scripts.specs.ScriptParts.{SplitsAt, IsNumeral, IsNumeralThen}

-- ---- marks

-- a mark is among what stands before it, itself and what stands behind it
pub mark_there : (p : ℕ → Bool) (front : List ℕ) (c : ℕ) (rest : List ℕ) → p c ≡ true → list_any p (front ++ c ∷ rest) ≡ true
mark_there p [] c rest is = rw is refl
mark_there p (x ∷ front) c rest is = rw (mark_there p front c rest is) (or_true (p x))
  where
    or_true : (b : Bool) → (b || true) ≡ true
    or_true true = refl
    or_true false = refl

false_is_no_true : true ≡ false → ⊥
false_is_no_true e = cc

-- what lacks a mark isn't split at it
pub unsplit : (p : ℕ → Bool) (text front : List ℕ) (c : ℕ) (rest : List ℕ) → p c ≡ true → list_any p text ≡ false → text ≡ front ++ c ∷ rest → ⊥
unsplit p text front c rest is lacks e = false_is_no_true (sym (mark_there p front c rest is) ∙ sym (ap (list_any p) e) ∙ lacks)

-- ---- decimals

pub decimal_lacks_space : (n : ℕ) → n < 10 ^ 18 → list_any is_space (decimal n) ≡ false
decimal_lacks_space n lt = written_lacks_space (decimal n) n (Writes_decimal n lt)

pub decimal_lacks_feed : (n : ℕ) → n < 10 ^ 18 → list_any is_feed (decimal n) ≡ false
decimal_lacks_feed n lt = written_lacks_feed (decimal n) n (Writes_decimal n lt)

pub decimal_injective : (m n : ℕ) → m < 10 ^ 18 → n < 10 ^ 18 → decimal m ≡ decimal n → m ≡ n
decimal_injective m n mlt nlt e = Writes_unique (decimal n) m n (subst (λ (t : List ℕ). Writes t m) e (Writes_decimal m mlt)) (Writes_decimal n nlt)

-- ---- numerals

writes_numeral : (text : List ℕ) (greatest n : ℕ) → greatest < 10 ^ 18 → IsNumeral text greatest n → Writes text n
writes_numeral text greatest n low is = subst (λ (t : List ℕ). Writes t n) (sym is.text_is) (Writes_decimal n (omega (arith, is.fits, low)))

-- what writes no number is no numeral
pub unwritten : (text : List ℕ) (greatest : ℕ) → greatest < 10 ^ 18 → ((n : ℕ) → ¬ (Writes text n)) → (n : ℕ) → ¬ (IsNumeral text greatest n)
unwritten text greatest low none n is = none n (writes_numeral text greatest n low is)

-- what writes a number over the greatest is none
pub too_great : (text : List ℕ) (greatest m : ℕ) → greatest < 10 ^ 18 → Writes text m → greatest < m → (n : ℕ) → ¬ (IsNumeral text greatest n)
too_great text greatest m low writes over n is =
    let same : m ≡ n = Writes_unique text m n writes (writes_numeral text greatest n low is) in
    omega (arith, same, over, is.fits)

-- what writes a number up to the greatest is one
pub numeral_read : (text : List ℕ) (greatest m : ℕ) → greatest < 10 ^ 18 → Writes text m → m ≤ greatest → IsNumeral text greatest m
numeral_read text greatest m low writes fits = record { text_is = decimal_written text m writes (omega (arith, fits, low)); fits = fits }

-- ---- a numeral and the space behind it

-- the parts before and behind the first space
pub numeral_parts : (text : List ℕ) (greatest n : ℕ) (rest front behind : List ℕ) → greatest < 10 ^ 18 → IsNumeralThen text greatest n rest → SplitsAt 32 text front behind
    → (front ≡ decimal n) × (behind ≡ rest)
numeral_parts text greatest n rest front behind low is splits =
    first_mark_unique is_space front (decimal n) behind rest 32 32 refl refl splits.none_before (decimal_lacks_space n (omega (arith, is.fits, low))) (sym splits.octets_are ∙ is.text_is)

pub no_numeral_before : (text : List ℕ) (greatest : ℕ) (front behind : List ℕ) → greatest < 10 ^ 18 → SplitsAt 32 text front behind → ((n : ℕ) → ¬ (IsNumeral front greatest n))
    → (n : ℕ) (rest : List ℕ) → ¬ (IsNumeralThen text greatest n rest)
no_numeral_before text greatest front behind low splits none n rest is =
    none n (record { text_is = (numeral_parts text greatest n rest front behind low is splits).0; fits = is.fits })

-- a numeral and a space are read in one way
pub one_numeral_then : (text : List ℕ) (greatest m n : ℕ) (rest tail : List ℕ) → greatest < 10 ^ 18 → IsNumeralThen text greatest m rest → IsNumeralThen text greatest n tail
    → (m ≡ n) × (rest ≡ tail)
one_numeral_then text greatest m n rest tail low is too =
    let same =
    first_mark_unique is_space (decimal m) (decimal n) rest tail 32 32 refl refl (decimal_lacks_space m (omega (arith, is.fits, low))) (decimal_lacks_space n (omega (arith, too.fits, low)))
    (sym is.text_is ∙ too.text_is) in
    (decimal_injective m n (omega (arith, is.fits, low)) (omega (arith, too.fits, low)) same.0, same.1)
