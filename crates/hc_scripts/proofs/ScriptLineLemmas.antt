-- The lines of events and settings, and what is none.
use Rattle.std.proofs.Common.{◌≡◌, ◌≢◌, ℕ, ◌+◌, ◌^◌, ◌<◌, ◌≤◌, Bool, true, false, cond, List, ◌∷◌, ◌++◌, length, get_or, refl, sym, ap, subst, ◌∙◌, arith, lit<, length-append}
use Rattle.std.specs.Prelude.{◌==◌, codes, nat_eq, not}
use Rattle.std.specs.Cmp.Lexicographic.{pointwise}
use Rattle.std.specs.Fmt.{decimal}
use Rattle.std.specs.List.{list_any}
use Rattle.std.proofs.lemmas.Fmt.{length-decimal-le}
use Rattle.std.proofs.lemmas.List.Folds.{list_any-append}
use Rattle.hc_transcript.specs.Limits.{longest_message, longest_line}
use Rattle.hc_transcript.specs.Lines.{is_feed}
use Rattle.hc_transcript.proofs.MarkLemmas.{is_space, first_mark_unique}
use Rattle.hc_scripts.specs.declared.event_line.EventLine.{EventLine}
use Rattle.hc_scripts.specs.declared.kind.EventKind.{EventKind}
use Rattle.hc_scripts.specs.declared.kind.EventKind.TheVariants as kind
use Rattle.hc_scripts.specs.ScriptLimits.{greatest_count, greatest_keys}
use Rattle.hc_scripts.specs.Scripts.{word, has_octets, tail_text, line_text, most_octets, LineFits, IsEventLine, settings_text, IsSettingsLine}
use Rattle.hc_scripts.specs.ScriptFaults.{BeginsLine, HasLine}
use Rattle.hc_scripts.specs.ScriptParts.{SplitsAt, IsNumeral, IsNumeralThen, IsTail, BeginsSettings}
use Rattle.hc_scripts.proofs.ScriptNumeralLemmas.{decimal_lacks_feed, decimal_injective, one_numeral_then}

-- a number of a script has at most twelve digits
count_low : (n : ℕ) → n ≤ greatest_count → n < 10 ^ 18
count_low n fits = omega (arith, fits)

size_low : (kind : EventKind) (n : ℕ) → n ≤ most_octets kind → n ≤ longest_message
size_low kind.ClientOpened n fits = omega (arith, fits)
size_low kind.ClientBytes n fits = fits
size_low kind.ClientEnd n fits = omega (arith, fits)
size_low kind.OriginBytes n fits = fits
size_low kind.OriginEnd n fits = omega (arith, fits)
size_low kind.OriginFailed n fits = omega (arith, fits)

-- ---- words

word_lacks_space : (kind : EventKind) → list_any is_space (word kind) ≡ false
word_lacks_space kind.ClientOpened = refl
word_lacks_space kind.ClientBytes = refl
word_lacks_space kind.ClientEnd = refl
word_lacks_space kind.OriginBytes = refl
word_lacks_space kind.OriginEnd = refl
word_lacks_space kind.OriginFailed = refl

word_lacks_feed : (kind : EventKind) → list_any is_feed (word kind) ≡ false
word_lacks_feed kind.ClientOpened = refl
word_lacks_feed kind.ClientBytes = refl
word_lacks_feed kind.ClientEnd = refl
word_lacks_feed kind.OriginBytes = refl
word_lacks_feed kind.OriginEnd = refl
word_lacks_feed kind.OriginFailed = refl

word_short : (kind : EventKind) → length (word kind) ≤ 9
word_short kind.ClientOpened = omega arith
word_short kind.ClientBytes = omega arith
word_short kind.ClientEnd = omega arith
word_short kind.OriginBytes = omega arith
word_short kind.OriginEnd = omega arith
word_short kind.OriginFailed = omega arith

-- a number that tells the words apart
code : List ℕ → ℕ
code text = length text + get_or text 0 0

pub word_injective : (a b : EventKind) → word a ≡ word b → a ≡ b
unfolding code
word_injective kind.ClientOpened kind.ClientOpened e = refl
word_injective kind.ClientBytes kind.ClientBytes e = refl
word_injective kind.ClientEnd kind.ClientEnd e = refl
word_injective kind.OriginBytes kind.OriginBytes e = refl
word_injective kind.OriginEnd kind.OriginEnd e = refl
word_injective kind.OriginFailed kind.OriginFailed e = refl
word_injective a b e = absurd (omega (arith, ap code e))

-- ---- what stands behind a line's number

tail_with : (kind : EventKind) (moment size : ℕ) → has_octets kind ≡ true → tail_text kind moment size ≡ decimal moment ++ 32 ∷ decimal size
tail_with kind moment size is = ap (λ (b : Bool). cond b (decimal moment ++ 32 ∷ decimal size) (decimal moment)) is

tail_without : (kind : EventKind) (moment size : ℕ) → has_octets kind ≡ false → tail_text kind moment size ≡ decimal moment
tail_without kind moment size is = ap (λ (b : Bool). cond b (decimal moment ++ 32 ∷ decimal size) (decimal moment)) is

most_without : (kind : EventKind) → has_octets kind ≡ false → most_octets kind ≡ 0
most_without kind is = ap (λ (b : Bool). cond b longest_message 0) is

then_of_tail : (kind : EventKind) (text : List ℕ) (moment size : ℕ) → has_octets kind ≡ true → IsTail kind text moment size → IsNumeralThen text greatest_count moment (decimal size)
then_of_tail kind text moment size is tail = record { text_is = tail.text_is ∙ tail_with kind moment size is; fits = tail.moment_fits }

pub no_size_no_tail : (kind : EventKind) (text : List ℕ) (n : ℕ) (rest : List ℕ) → has_octets kind ≡ true → IsNumeralThen text greatest_count n rest
    → ((m : ℕ) → ¬ (IsNumeral rest longest_message m)) → (moment size : ℕ) → ¬ (IsTail kind text moment size)
no_size_no_tail kind text n rest is found none moment size tail =
    let same = one_numeral_then text greatest_count n moment rest (decimal size) (omega arith) found (then_of_tail kind text moment size is tail) in
    none size (record { text_is = same.1; fits = size_low kind size tail.size_fits })

-- a tail is read in one way
one_tail : (kind : EventKind) (text : List ℕ) (m n r s : ℕ) → IsTail kind text m r → IsTail kind text n s → (m ≡ n) × (r ≡ s)
one_tail kind text m n r s a b = go (has_octets kind) refl
  where
    low : (n : ℕ) → n ≤ longest_message → n < 10 ^ 18
    low n fits = omega (arith, fits)

    go : (has : Bool) → has_octets kind ≡ has → (m ≡ n) × (r ≡ s)
    go true is =
        let same = one_numeral_then text greatest_count m n (decimal r) (decimal s) (omega arith) (then_of_tail kind text m r is a) (then_of_tail kind text n s is b) in
        (same.0, decimal_injective r s (low r (size_low kind r a.size_fits)) (low s (size_low kind s b.size_fits)) same.1)
    go false is =
        let same = sym (tail_without kind m r is) ∙ sym a.text_is ∙ b.text_is ∙ tail_without kind n s is in (
          decimal_injective m n (count_low m a.moment_fits) (count_low n b.moment_fits) same,
          omega (arith, a.size_fits, b.size_fits, most_without kind is),
        )

-- ---- the line of an event

-- its word stands before the first space
line_splits : (text : List ℕ) (l : EventLine) → IsEventLine text l → SplitsAt 32 text (word l.kind) (decimal l.number ++ 32 ∷ tail_text l.kind l.moment l.size)
line_splits text l is = record { octets_are = is.text_is; none_before = word_lacks_space l.kind }

-- two splits at the first mark are the same
pub one_split : (mark : ℕ) (text front behind other rest : List ℕ) → (mark == mark) ≡ true → SplitsAt mark text front behind → SplitsAt mark text other rest → (front ≡ other) × (behind ≡ rest)
one_split mark text front behind other rest own a b =
    first_mark_unique (λ c. c == mark) front other behind rest mark mark own own a.none_before b.none_before (sym a.octets_are ∙ b.octets_are)

pub no_word_no_line : (text front behind : List ℕ) → SplitsAt 32 text front behind → ((kind : EventKind) → front ≢ word kind) → (l : EventLine) → ¬ (IsEventLine text l)
no_word_no_line text front behind splits none l is = none l.kind (one_split 32 text front behind _ _ refl splits (line_splits text l is)).0

-- behind the word stand the number, a space and the tail
line_number : (text front behind : List ℕ) (l : EventLine) → SplitsAt 32 text front behind → IsEventLine text l
    → IsNumeralThen behind greatest_count l.number (tail_text l.kind l.moment l.size)
line_number text front behind l splits is =
    record { text_is = (one_split 32 text front behind _ _ refl splits (line_splits text l is)).1; fits = is.fits.number }

pub no_tail_no_line : (text front behind : List ℕ) (kind : EventKind) (n : ℕ) (rest : List ℕ) → SplitsAt 32 text front behind → front ≡ word kind
    → IsNumeralThen behind greatest_count n rest → ((moment size : ℕ) → ¬ (IsTail kind rest moment size)) → (l : EventLine) → ¬ (IsEventLine text l)
no_tail_no_line text front behind kind n rest splits word-is found none l is =
    let same-kind : kind ≡ l.kind = word_injective kind l.kind (sym word-is ∙ (one_split 32 text front behind _ _ refl splits (line_splits text l is)).0) in
    let same-rest = (one_numeral_then behind greatest_count n l.number rest _ (omega arith) found (line_number text front behind l splits is)).1 in
    let tail : IsTail l.kind rest l.moment l.size = record { text_is = same-rest; moment_fits = is.fits.moment; size_fits = is.fits.size } in
    none l.moment l.size (subst (λ (k : EventKind). IsTail k rest l.moment l.size) (sym same-kind) tail)

-- a text is one line at most
pub one_line : (text : List ℕ) (l k : EventLine) → IsEventLine text l → IsEventLine text k → l ≡ k
one_line text l k is too =
    let same = one_split 32 text _ _ _ _ refl (line_splits text l is) (line_splits text k too) in
    let kind-is : l.kind ≡ k.kind = word_injective l.kind k.kind same.0 in
    let behind = decimal l.number ++ 32 ∷ tail_text l.kind l.moment l.size in
    let first : IsNumeralThen behind greatest_count l.number (tail_text l.kind l.moment l.size) = record { text_is = refl; fits = is.fits.number } in
    let second : IsNumeralThen behind greatest_count k.number (tail_text k.kind k.moment k.size) = record { text_is = same.1; fits = too.fits.number } in
    let number = one_numeral_then behind greatest_count l.number k.number _ _ (omega arith) first second in
    let tail : IsTail l.kind (tail_text l.kind l.moment l.size) l.moment l.size = record { text_is = refl; moment_fits = is.fits.moment; size_fits = is.fits.size } in
    let other : IsTail k.kind (tail_text k.kind k.moment k.size) k.moment k.size = record { text_is = refl; moment_fits = too.fits.moment; size_fits = too.fits.size } in
    let other' : IsTail l.kind (tail_text l.kind l.moment l.size) k.moment k.size =
    subst (λ (t : List ℕ). IsTail l.kind t k.moment k.size) (sym number.1) (subst (λ (kind : EventKind). IsTail kind (tail_text k.kind k.moment k.size) k.moment k.size) (sym kind-is) other) in
    let rest = one_tail l.kind (tail_text l.kind l.moment l.size) l.moment k.moment l.size k.size tail other' in
    λ i. record { kind = kind-is i; number = number.0 i; moment = rest.0 i; size = rest.1 i }

-- ---- the line of the settings

settings_splits : (text : List ℕ) (keys bytes : ℕ) → IsSettingsLine text keys bytes → SplitsAt 32 text (codes "settings") (decimal keys ++ 32 ∷ decimal bytes)
settings_splits text keys bytes is = record { octets_are = is.text_is; none_before = refl }

settings_numbers : (text front behind : List ℕ) (keys bytes : ℕ) → SplitsAt 32 text front behind → IsSettingsLine text keys bytes → IsNumeralThen behind greatest_keys keys (decimal bytes)
settings_numbers text front behind keys bytes splits is =
    record { text_is = (one_split 32 text front behind _ _ refl splits (settings_splits text keys bytes is)).1; fits = is.keys_fit }

pub no_word_no_settings : (text front behind : List ℕ) → SplitsAt 32 text front behind → front ≢ codes "settings" → (keys bytes : ℕ) → ¬ (IsSettingsLine text keys bytes)
no_word_no_settings text front behind splits none keys bytes is = none (one_split 32 text front behind _ _ refl splits (settings_splits text keys bytes is)).0

false_is_no_true : true ≡ false → ⊥
false_is_no_true e = cc

-- a word that fails the test is another
pub other_word : (front : List ℕ) → not (pointwise nat_eq front (codes "settings")) ≡ true → front ≢ codes "settings"
other_word front test same = false_is_no_true (sym test ∙ ap (λ (t : List ℕ). not (pointwise nat_eq t (codes "settings"))) same)

pub no_bytes_no_settings : (text front behind : List ℕ) (n : ℕ) (rest : List ℕ) → SplitsAt 32 text front behind → IsNumeralThen behind greatest_keys n rest
    → ((m : ℕ) → ¬ (IsNumeral rest greatest_count m)) → (keys bytes : ℕ) → ¬ (IsSettingsLine text keys bytes)
no_bytes_no_settings text front behind n rest splits found none keys bytes is =
    let same = one_numeral_then behind greatest_keys n keys rest (decimal bytes) (omega arith) found (settings_numbers text front behind keys bytes splits is) in
    none bytes (record { text_is = same.1; fits = is.bytes_fit })

-- a text is one line of settings at most
pub one_settings : (text : List ℕ) (keys bytes k b : ℕ) → IsSettingsLine text keys bytes → IsSettingsLine text k b → (keys ≡ k) × (bytes ≡ b)
one_settings text keys bytes k b is too =
    let behind = decimal keys ++ 32 ∷ decimal bytes in
    let splits = settings_splits text keys bytes is in
    let same =
    one_numeral_then behind greatest_keys keys k (decimal bytes) (decimal b) (omega arith) (record { text_is = refl; fits = is.keys_fit })
    (settings_numbers text (codes "settings") behind k b splits too) in
    (same.0, decimal_injective bytes b (count_low bytes is.bytes_fit) (count_low b too.bytes_fit) same.1)

-- ---- lines have no line feed, and are short

joined_lack : (p : ℕ → Bool) (front rest : List ℕ) → list_any p front ≡ false → p 32 ≡ false → list_any p rest ≡ false → list_any p (front ++ 32 ∷ rest) ≡ false
joined_lack p front rest a space b = list_any-append p front (32 ∷ rest) ∙ rw (a, space, b) refl

tail_lacks_feed : (kind : EventKind) (moment size : ℕ) → moment < 10 ^ 18 → size < 10 ^ 18 → list_any is_feed (tail_text kind moment size) ≡ false
tail_lacks_feed kind moment size m s = go (has_octets kind) refl
  where
    go : (has : Bool) → has_octets kind ≡ has → list_any is_feed (tail_text kind moment size) ≡ false
    go true is =
        ap (list_any is_feed) (tail_with kind moment size is) ∙ joined_lack is_feed (decimal moment) (decimal size) (decimal_lacks_feed moment m) refl (decimal_lacks_feed size s)
    go false is = ap (list_any is_feed) (tail_without kind moment size is) ∙ decimal_lacks_feed moment m

pub line_lacks_feed : (l : EventLine) → LineFits l → list_any is_feed (line_text l) ≡ false
line_lacks_feed l fits =
    let size : l.size ≤ longest_message = size_low l.kind l.size fits.size in
    let tail = tail_lacks_feed l.kind l.moment l.size (count_low l.moment fits.moment) (omega (arith, size)) in
    joined_lack is_feed (word l.kind) _ (word_lacks_feed l.kind) refl
    (joined_lack is_feed (decimal l.number) _ (decimal_lacks_feed l.number (count_low l.number fits.number)) refl tail)

pub settings_lack_feed : (keys bytes : ℕ) → keys ≤ greatest_keys → bytes ≤ greatest_count → list_any is_feed (settings_text keys bytes) ≡ false
settings_lack_feed keys bytes k b =
    joined_lack is_feed (codes "settings") (decimal keys ++ 32 ∷ decimal bytes) refl refl
    (joined_lack is_feed (decimal keys) (decimal bytes) (decimal_lacks_feed keys (omega (arith, k))) refl (decimal_lacks_feed bytes (omega (arith, b))))

twelve_digits : (n : ℕ) → n ≤ greatest_count → length (decimal n) ≤ 12
twelve_digits n fits = length-decimal-le 12 n (lit< tt) (omega (arith, fits)) (omega (arith, fits))

tail_short : (kind : EventKind) (moment size : ℕ) → moment ≤ greatest_count → size ≤ longest_message → length (tail_text kind moment size) ≤ 25
tail_short kind moment size m s = go (has_octets kind) refl
  where
    first : length (decimal moment) ≤ 12
    first = twelve_digits moment m

    second : length (decimal size) ≤ 12
    second = twelve_digits size (omega (arith, s))

    go : (has : Bool) → has_octets kind ≡ has → length (tail_text kind moment size) ≤ 25
    go true is = omega (arith, first, second, ap length (tail_with kind moment size is), length-append (decimal moment) (32 ∷ decimal size))
    go false is = omega (arith, first, ap length (tail_without kind moment size is))

pub line_short : (l : EventLine) → LineFits l → length (line_text l) < longest_line
line_short l fits =
    let tail = tail_short l.kind l.moment l.size fits.moment (size_low l.kind l.size fits.size) in
    omega (
      arith,
      tail,
      word_short l.kind,
      twelve_digits l.number fits.number,
      length-append (word l.kind) (32 ∷ (decimal l.number ++ 32 ∷ tail_text l.kind l.moment l.size)),
      length-append (decimal l.number) (32 ∷ tail_text l.kind l.moment l.size),
    )

pub settings_short : (keys bytes : ℕ) → keys ≤ greatest_keys → bytes ≤ greatest_count → length (settings_text keys bytes) < longest_line
settings_short keys bytes k b =
    omega (
      arith,
      twelve_digits keys (omega (arith, k)),
      twelve_digits bytes b,
      length-append (codes "settings") (32 ∷ (decimal keys ++ 32 ∷ decimal bytes)),
      length-append (decimal keys) (32 ∷ decimal bytes),
    )

-- the line of an event begins the octets
pub begun : (octets : List ℕ) (l : EventLine) (behind : List ℕ) → HasLine octets l behind → BeginsLine octets (line_text l) behind
begun octets l behind has = record { octets_are = has.octets_are; no_feed = line_lacks_feed l has.fits; short = line_short l has.fits }

-- and so does the line of the settings
pub settings_begun : (octets : List ℕ) (keys bytes : ℕ) (rest : List ℕ) → BeginsSettings octets keys bytes rest → BeginsLine octets (settings_text keys bytes) rest
settings_begun octets keys bytes rest b =
    record { octets_are = b.octets_are; no_feed = settings_lack_feed keys bytes b.keys_fit b.bytes_fit; short = settings_short keys bytes b.keys_fit b.bytes_fit }
