-- Laws of decimals, of the lines that begin records, and of the line that begins some octets.
use Rattle.std.proofs.Common.{◌≡◌, ℕ, zero, suc, ◌^◌, ◌<◌, ◌≤◌, Bool, true, false, List, ◌∷◌, ◌++◌, length, get_or, Option, Some, None, refl, sym, ap, subst, ◌∙◌, arith, lit<, length-append, append_assoc, append-nil, rules}
use Rattle.std.specs.Prelude.{min, codes, if◌then◌else◌}
use Rattle.std.specs.Fmt.{decimal}
use Rattle.std.specs.List.{list_all, list_any}
use Rattle.std.specs.Char.{is_ascii_digit}
use Rattle.std.specs.Str.Parse.{digits_value}
use Rattle.std.proofs.lemmas.Bool.Decides.{nat_tests}
use Rattle.std.proofs.lemmas.Fmt.{decimal_digit, first_decimal, decimal_nonempty, length-decimal-le, digits_decimal, digits_value-decimal, decimal-digits_value}
use Rattle.std.proofs.lemmas.List.Folds.{list_any-append}
use Rattle.std.proofs.lemmas.Str.Parse.{IsNumeralModel, numerals_by_value}
use Rattle.hc_fields.specs.Numbers.{is_number}
use Rattle.hc_transcript.specs.declared.format.Format.{Format}
use Rattle.hc_transcript.specs.declared.format.Format.TheVariants as form
use Rattle.hc_transcript.specs.declared.line.Kind.{Kind}
use Rattle.hc_transcript.specs.declared.line.Kind.TheVariants.{ClientRequest, OriginRequest, OriginResponse, OriginFailure, ClientReply}
use Rattle.hc_transcript.specs.declared.line.Line.{Line}
use Rattle.hc_transcript.specs.declared.line.ToldCause.{ToldCause}
use Rattle.hc_transcript.specs.declared.line.ToldCause.TheVariants.{Untold, NoExchange, Exchange}
use Rattle.hc_transcript.specs.declared.record.Passed.{Passed}
use Rattle.hc_transcript.specs.declared.record.Passed.TheVariants as passed
use Rattle.hc_transcript.specs.declared.record.Record.{Record}
use Rattle.hc_transcript.specs.Limits.{greatest_number, greatest_moment, longest_message, longest_line}
use Rattle.hc_transcript.specs.Records.{letter, line_has_cause, cause_text, line_text, passed_kind, passed_cause, told, told_cause, CanTell, line_of}
use Rattle.hc_transcript.specs.Lines.{Writes, WritesCause, IsEnd, IsLineText, is_feed, BeginsLine}
use Rattle.hc_transcript.specs.Numerals.{SplitsAtSpace}
use Rattle.hc_transcript.proofs.MarkLemmas.{first_mark_unique}
use Rattle.hc_transcript.proofs.NumeralLemmas.{decimal_read, written_lacks_feed, SplitsAtSpace_unique}
use Rattle.hc_transcript.proofs.LineLemmas.{letter_injective, size_before, line_number, line_moment}

own : IsNumeralModel (λ ds. list_all is_ascii_digit ds ≡ true) (digits_value 10)
own = numerals_by_value _ (search rules)

wide : (n : ℕ) → n < 10 ^ 18 → n < 2 ^ 64
wide n lt = omega arith

-- ---- decimals

-- only the decimal of 0 begins with a zero
one_zero : (n : ℕ) → n < 10 ^ 18 → get_or (decimal n) 0 0 ≡ 48 → length (decimal n) ≡ 1
one_zero zero lt first = ap length (decimal_digit 0 (lit< tt))
one_zero (suc m) lt first =
    let above = first_decimal (suc m) (omega arith) (wide (suc m) lt) in
    absurd (omega arith)

-- a number's own decimal writes it
pub Writes_decimal : (n : ℕ) → n < 10 ^ 18 → Writes (decimal n) n
Writes_decimal n lt =
    let digits : list_all is_ascii_digit (decimal n) ≡ true = digits_decimal own n (wide n lt) in
    let some : 0 < length (decimal n) = decimal_nonempty n (wide n lt) in
    let value : digits_value 10 (decimal n) ≡ n = digits_value-decimal own n (wide n lt) in
    let least : min (10 ^ 18) (digits_value 10 (decimal n)) ≡ n = omega arith in
    let test : is_number (decimal n) ≡ true = grind (arith, nat_tests) in
    record { number = rw (test, least) refl; no_leading_zero = one_zero n lt }

-- what writes a number below 10 ^ 18 is the decimal of that number
pub decimal_written : (text : List ℕ) (n : ℕ) → Writes text n → n < 10 ^ 18 → text ≡ decimal n
decimal_written text n w lt =
    let read = decimal_read text n w.number in
    let value : digits_value 10 text ≡ n = omega (arith, read.value) in
    sym (decimal-digits_value own text read.digits read.some w.no_leading_zero (omega arith)) ∙ ap decimal value

-- a text writes one number at most
pub Writes_unique : (text : List ℕ) (m n : ℕ) → Writes text m → Writes text n → m ≡ n
Writes_unique text m n v w = cc

-- ---- what is told of a cause

-- the number of a cause that is told is in range
abbrev pub CauseFits : ToldCause → Type 0
CauseFits (Exchange n) = n ≤ greatest_number
CauseFits other = Unit {0}

dash_is_no_number : (n : ℕ) → Writes (codes "-") n → ⊥
dash_is_no_number n w = absurd (not_digits (decimal_read (codes "-") n w.number).digits)
  where
    not_digits : list_all is_ascii_digit (codes "-") ≡ true → ⊥
    not_digits e = cc

-- a text tells one cause at most
one_cause : (text : List ℕ) (a b : ToldCause) → WritesCause text a → WritesCause text b → a ≡ b
one_cause text Untold b is too = absurd is
one_cause text NoExchange Untold is too = absurd too
one_cause text NoExchange NoExchange is too = refl
one_cause text NoExchange (Exchange n) is too = absurd (dash_is_no_number n (subst (λ (t : List ℕ). Writes t n) is too))
one_cause text (Exchange m) Untold is too = absurd too
one_cause text (Exchange m) NoExchange is too = absurd (dash_is_no_number m (subst (λ (t : List ℕ). Writes t m) too is))
one_cause text (Exchange m) (Exchange n) is too = ap Exchange (Writes_unique text m n is too)

-- a line ends in one way
one_end : (has_cause : Bool) (text : List ℕ) (m n : ℕ) (a b : ToldCause) → IsEnd has_cause text m a → IsEnd has_cause text n b → (m ≡ n) × (a ≡ b)
one_end true text m n a b is too =
    let same = SplitsAtSpace_unique text m n is.behind too.behind (size_before text m a is) (size_before text n b too) in
    (same.0, one_cause too.behind a b (subst (λ (t : List ℕ). WritesCause t a) same.1 is.writes_cause) too.writes_cause)
one_end false text m n a b is too = (Writes_unique text m n is.0 too.0, is.1 ∙ sym too.1)

behind_size : (size : ℕ) (numeral behind : List ℕ) (cause : ToldCause) → Writes numeral size → size < 10 ^ 18 → WritesCause behind cause → CauseFits cause
    → numeral ++ 32 ∷ behind ≡ decimal size ++ cause_text cause
behind_size size numeral behind Untold w lt tells fit = absurd tells
behind_size size numeral behind NoExchange w lt tells fit = λ i. decimal_written numeral size w lt i ++ 32 ∷ tells i
behind_size size numeral behind (Exchange n) w lt tells fit = λ i. decimal_written numeral size w lt i ++ 32 ∷ decimal_written behind n tells (omega (arith, fit)) i

-- the end of a line is as it is written
end_written : (has_cause : Bool) (text : List ℕ) (size : ℕ) (cause : ToldCause) → IsEnd has_cause text size cause → size < 10 ^ 18 → CauseFits cause → text ≡ decimal size ++ cause_text cause
end_written true text size cause is lt fit = is.text_is ∙ behind_size size is.numeral is.behind cause is.writes lt is.writes_cause fit
end_written false text size cause is lt fit =
    decimal_written text size is.0 lt ∙ sym (append-nil (decimal size)) ∙ ap (λ (c : ToldCause). decimal size ++ cause_text c) (sym is.1)

-- what is written of a length and a cause ends a line
end_read : (has_cause : Bool) (size : ℕ) (cause : Option ℕ) → size < 10 ^ 18 → CauseFits (if has_cause then told cause else Untold)
    → IsEnd has_cause (decimal size ++ cause_text (if has_cause then told cause else Untold)) size (if has_cause then told cause else Untold)
end_read false size cause lt fit = (subst (λ (t : List ℕ). Writes t size) (sym (append-nil (decimal size))) (Writes_decimal size lt), refl)
end_read true size None lt fit = record { numeral = decimal size; behind = codes "-"; text_is = refl; writes = Writes_decimal size lt; writes_cause = refl }
end_read true size (Some n) lt fit =
    record { numeral = decimal size; behind = decimal n; text_is = refl; writes = Writes_decimal size lt; writes_cause = Writes_decimal n (omega (arith, fit)) }

told_injective : (c d : Option ℕ) → told c ≡ told d → c ≡ d
told_injective None None e = refl
told_injective (Some m) (Some n) e = cc
told_injective None (Some n) e = absurd cc
told_injective (Some m) None e = absurd cc

one_passed_cause : (p q : Passed) → told_cause form.Second p ≡ told_cause form.Second q → passed_kind p ≡ passed_kind q → passed_cause p ≡ passed_cause q
one_passed_cause (passed.OriginRequest m c) (passed.OriginRequest n d) same kind = told_injective c d same
one_passed_cause (passed.ClientRequest m) (passed.ClientRequest n) same kind = refl
one_passed_cause (passed.OriginResponse m) (passed.OriginResponse n) same kind = refl
one_passed_cause passed.OriginFailure passed.OriginFailure same kind = refl
one_passed_cause (passed.ClientReply m) (passed.ClientReply n) same kind = refl
one_passed_cause p q same kind = absurd (omega (arith, ap letter kind))

-- of records that may stand in the format a line tells one cause
pub one_told_cause : (format : Format) (r o : Record) → CanTell format r → CanTell format o → told_cause format r.of ≡ told_cause format o.of → passed_kind r.of ≡ passed_kind o.of
    → passed_cause r.of ≡ passed_cause o.of
one_told_cause form.First r o can may same kind = can ∙ sym may
one_told_cause form.Second r o can may same kind = one_passed_cause r.of o.of same kind

-- ---- lines

-- a text is one line at most
pub IsLineText_unique : (format : Format) (text : List ℕ) (l k : Line) → IsLineText format text l → IsLineText format text k → l ≡ k
IsLineText_unique format text l k is too =
    let kind = letter_injective l.kind k.kind (ap (λ (t : List ℕ). get_or t 0 0) (sym is.text_is ∙ too.text_is)) in
    let first = SplitsAtSpace_unique _ l.number k.number _ _ (line_number format text l is) (line_number format text k too) in
    let moment-too = subst (λ (t : List ℕ). SplitsAtSpace t k.moment too.end) (sym first.1) (line_moment format text k too) in
    let second = SplitsAtSpace_unique _ l.moment k.moment _ _ (line_moment format text l is) moment-too in
    let ends-is : IsEnd (line_has_cause format k.kind) too.end l.size l.cause =
    subst (λ (t : List ℕ). IsEnd (line_has_cause format k.kind) t l.size l.cause) second.1 (subst (λ (j : Kind). IsEnd (line_has_cause format j) is.end l.size l.cause) kind is.ends) in
    let last = one_end (line_has_cause format k.kind) too.end l.size k.size l.cause k.cause ends-is too.ends in
    λ i. record { kind = kind i; number = first.0 i; moment = second.0 i; size = last.0 i; cause = last.1 i }

-- the text of a line whose numbers are in range is the one that is written for it
pub line_text_written : (format : Format) (text : List ℕ) (l : Line) → IsLineText format text l → l.number ≤ greatest_number → l.moment ≤ greatest_moment → l.size ≤ longest_message → CauseFits l.cause
    → text ≡ line_text l
line_text_written format text l is number moment size cause =
    let number-is = decimal_written is.number l.number is.writes_number (omega (arith, number)) in
    let moment-is = decimal_written is.moment l.moment is.writes_moment (omega (arith, moment)) in
    let end-is = end_written (line_has_cause format l.kind) is.end l.size l.cause is.ends (omega (arith, size)) cause in
    is.text_is ∙ (λ i. letter l.kind ∷ 32 ∷ (number-is i ++ 32 ∷ (moment-is i ++ 32 ∷ end-is i)))

-- what is written for the line of a record, whose numbers are in range, is the text of that line
pub line_written : (format : Format) (r : Record) → (line_of format r).number ≤ greatest_number → (line_of format r).moment ≤ greatest_moment → (line_of format r).size ≤ longest_message
    → CauseFits (line_of format r).cause → IsLineText format (line_text (line_of format r)) (line_of format r)
line_written format r number moment size cause =
    let l = line_of format r in
    record {
      number = decimal l.number;
      moment = decimal l.moment;
      end = decimal l.size ++ cause_text l.cause;
      text_is = refl;
      writes_number = Writes_decimal l.number (omega (arith, number));
      writes_moment = Writes_decimal l.moment (omega (arith, moment));
      ends = end_read (line_has_cause format l.kind) l.size (passed_cause r.of) (omega (arith, size)) cause;
    }

letter_no_feed : (kind : Kind) → is_feed (letter kind) ≡ false
letter_no_feed ClientRequest = refl
letter_no_feed OriginRequest = refl
letter_no_feed OriginResponse = refl
letter_no_feed OriginFailure = refl
letter_no_feed ClientReply = refl

cause_no_feed : (text : List ℕ) (cause : ToldCause) → WritesCause text cause → list_any is_feed text ≡ false
cause_no_feed text Untold tells = absurd tells
cause_no_feed text NoExchange tells = ap (list_any is_feed) tells
cause_no_feed text (Exchange n) tells = written_lacks_feed text n tells

-- texts without a line feed, with a space between them
spaced_no_feed : (front behind : List ℕ) → list_any is_feed front ≡ false → list_any is_feed behind ≡ false → list_any is_feed (front ++ 32 ∷ behind) ≡ false
spaced_no_feed front behind none lacks = list_any-append is_feed front (32 ∷ behind) ∙ rw (none, lacks) refl

end_no_feed : (has_cause : Bool) (text : List ℕ) (size : ℕ) (cause : ToldCause) → IsEnd has_cause text size cause → list_any is_feed text ≡ false
end_no_feed true text size cause is =
    ap (list_any is_feed) is.text_is ∙ spaced_no_feed is.numeral is.behind (written_lacks_feed is.numeral size is.writes) (cause_no_feed is.behind cause is.writes_cause)
end_no_feed false text size cause is = written_lacks_feed text size is.0

-- the text of a line has no line feed
pub line_plain : (format : Format) (text : List ℕ) (l : Line) → IsLineText format text l → list_any is_feed text ≡ false
line_plain format text l is =
    let last = end_no_feed (line_has_cause format l.kind) is.end l.size l.cause is.ends in
    let behind = spaced_no_feed is.moment is.end (written_lacks_feed is.moment l.moment is.writes_moment) last in
    let whole = spaced_no_feed is.number (is.moment ++ 32 ∷ is.end) (written_lacks_feed is.number l.number is.writes_number) behind in
    ap (list_any is_feed) is.text_is ∙ rw (letter_no_feed l.kind, whole) refl

cause_text_short : (cause : ToldCause) → CauseFits cause → length (cause_text cause) ≤ 13
cause_text_short Untold fit = omega arith
cause_text_short NoExchange fit = omega arith
cause_text_short (Exchange n) fit = let long = length-decimal-le 12 n (lit< tt) (omega arith) (omega (arith, fit)) in omega (arith, long)

-- a line of numbers of twelve digits, a moment to the end of the year 9999 and the size of a message leaves room for its line feed
pub line_text_short : (l : Line) → l.number ≤ greatest_number → l.moment ≤ greatest_moment → l.size ≤ longest_message → CauseFits l.cause → length (line_text l) < longest_line
line_text_short l number moment size cause =
    let first = length-decimal-le 12 l.number (lit< tt) (omega arith) (omega arith) in
    let second = length-decimal-le 12 l.moment (lit< tt) (omega arith) (omega arith) in
    let third = length-decimal-le 8 l.size (lit< tt) (omega arith) (omega arith) in
    let fourth = cause_text_short l.cause cause in
    let end = decimal l.size ++ cause_text l.cause in
    omega (arith, length-append (decimal l.number) (32 ∷ (decimal l.moment ++ 32 ∷ end)), length-append (decimal l.moment) (32 ∷ end), length-append (decimal l.size) (cause_text l.cause))

-- ---- the line that begins some octets

more_behind : (octets more text after : List ℕ) → octets ≡ text ++ 10 ∷ after → octets ++ more ≡ text ++ 10 ∷ (after ++ more)
more_behind octets more text after e = ap (λ (o : List ℕ). o ++ more) e ∙ append_assoc text (10 ∷ after) more

-- the first line feed ends the line, whatever follows
pub BeginsLine_unique : (octets more text other : List ℕ) → BeginsLine octets text → BeginsLine (octets ++ more) other → text ≡ other
BeginsLine_unique octets more text other b c =
    (first_mark_unique is_feed text other _ _ 10 10 refl refl b.no_feed c.no_feed (sym (more_behind octets more text b.after b.octets_are) ∙ c.octets_are)).0

-- a line that begins the octets begins them with more behind
pub BeginsLine-append : (octets more text : List ℕ) → BeginsLine octets text → BeginsLine (octets ++ more) text
BeginsLine-append octets more text b =
    record { after = b.after ++ more; octets_are = more_behind octets more text b.after b.octets_are; no_feed = b.no_feed; short = b.short }
