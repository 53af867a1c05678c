-- What the cache writes into its own lines is visible and short.
use Rattle.std.proofs.Common.{◌≡◌, ℕ, zero, suc, ◌+◌, ◌-◌, ◌/◌, ◌%◌, ◌<◌, ◌≤◌, ◌^◌, Bool, true, false, cond, ◌||◌, List, [], ◌∷◌, ◌++◌, length, reverse, ℤ, pos, negsuc, unsigned_abs, Option, Some, None, refl, ap, ◌∙◌, arith, rules, lit<, lit≤, length-append}
use Rattle.std.specs.Prelude.{◌==◌, codes, decimal, slice_index_or}
use Rattle.std.specs.Fmt.{signed_decimal}
use Rattle.std.specs.Char.{is_ascii_digit}
use Rattle.std.specs.List.{list_all}
use Rattle.std.specs.Str.Parse.{digits_value}
use Rattle.std.proofs.lemmas.Bool.{and_from}
use Rattle.std.proofs.lemmas.Bool.Decides.{nat_tests}
use Rattle.std.proofs.lemmas.Fmt.{length-decimal-le, digits_decimal}
use Rattle.std.proofs.lemmas.List.{reverse-append}
use Rattle.std.proofs.lemmas.List.Elements.{All-weaker}
use Rattle.std.proofs.lemmas.List.Folds.{list_all-append}
use Rattle.std.proofs.lemmas.List.Sums.{AllPass-from_list_all, list_all-from_AllPass}
use Rattle.std.proofs.lemmas.Str.Parse.{IsNumeralModel, numerals_by_value}
use Rattle.httparse.specs.Grammar.{is_uri_byte, is_value_byte}
use Rattle.httpdate.specs.declared.parts.Parts.{Parts}
use Rattle.httpdate.specs.Calendar.{days_in_month, is_leap_year, weekday}
use Rattle.httpdate.specs.Text.{day_name, month_name, two_digits, four_digits, time_of_day, imf_fixdate}
use Rattle.hc_head.specs.Plain.{is_plain_value, starts_visible}
use Rattle.hc_fresh.specs.Dates.{imf_fixdate_at, parts_at}
use Rattle.hc_fresh.proofs.DateLemmas.{has_date}
use Rattle.hc_status.specs.declared.cache_status.Handling.{Handling}
use Rattle.hc_status.specs.declared.cache_status.Handling.TheVariants as handling
use Rattle.hc_status.specs.Classes.{is_token_start, is_token_octet}
use Rattle.hc_status.specs.Grammar.{IsToken}
use Rattle.hc_status.specs.Texts.{ttl_text, fwd_status_text, stored_text, collapsed_text, handling_text, member_text, HasShortTtl, HasShortStatus}
use Rattle.hc_replies.specs.Laws.{IsWritableStatus}

-- ---- visible texts

-- visible octets, of which there are at most so many
pub record IsVisible (most : ℕ) (text : List ℕ) : Type 0 where
  pub visible : list_all is_uri_byte text ≡ true
  pub short : length text ≤ most

join : (m n : ℕ) (one other : List ℕ) → IsVisible m one → IsVisible n other → IsVisible (m + n) (one ++ other)
join m n one other is also = record {
  visible = list_all-append is_uri_byte one other ∙ and_from _ _ is.visible also.visible;
  short = omega (arith, length-append one other, is.short, also.short);
}

own : IsNumeralModel (λ ds. list_all is_ascii_digit ds ≡ true) (digits_value 10)
own = numerals_by_value _ (search rules)

digit_visible : (b : ℕ) → is_ascii_digit b ≡ true → is_uri_byte b ≡ true
digit_visible b digit = grind (arith, nat_tests)

room : 10 ^ 15 ≤ 2 ^ 64
room = lit≤ tt

number_visible : (n : ℕ) → n < 10 ^ 15 → IsVisible 15 (decimal n)
number_visible n small =
    let fits : n < 2 ^ 64 = omega (arith, room) in
    record {
      visible =
          list_all-from_AllPass is_uri_byte (decimal n)
          (All-weaker (λ b. is_ascii_digit b ≡ true) (λ b. is_uri_byte b ≡ true) digit_visible (decimal n)
          (AllPass-from_list_all is_ascii_digit (decimal n) (digits_decimal own n fits)));
      short = length-decimal-le 15 n (lit< tt) small fits;
    }

signed_visible : (n : ℤ) → unsigned_abs n < 10 ^ 15 → IsVisible 16 (signed_decimal n)
signed_visible (pos n) small =
    let number = number_visible n small in
    record { visible = number.visible; short = omega (arith, number.short) }
signed_visible (negsuc n) small =
    let number = number_visible (suc n) small in
    record { visible = number.visible; short = omega (arith, number.short) }

token_octet_visible : (b : ℕ) → is_token_octet b ≡ true → is_uri_byte b ≡ true
token_octet_visible b token = grind (arith, nat_tests)

token_start_visible : (b : ℕ) → is_token_start b ≡ true → is_uri_byte b ≡ true
token_start_visible b token = grind (arith, nat_tests)

token_visible : (text : List ℕ) → IsToken text → list_all is_uri_byte text ≡ true
token_visible [] token = absurd token
token_visible (b ∷ text) token =
    and_from _ _ (token_start_visible b token.0)
    (list_all-from_AllPass is_uri_byte text (All-weaker (λ c. is_token_octet c ≡ true) (λ c. is_uri_byte c ≡ true) token_octet_visible text token.1))

-- ---- the cache's member

ttl_visible : (ttl : Option ℤ) → HasShortTtl ttl → IsVisible 21 (ttl_text ttl)
ttl_visible None short = record { visible = refl; short = omega arith }
ttl_visible (Some ttl) short = join 5 16 (codes ";ttl=") (signed_decimal ttl) (record { visible = refl; short = omega arith }) (signed_visible ttl short)

status_visible : (status : Option ℕ) → HasShortStatus status → IsVisible 27 (fwd_status_text status)
status_visible None short = record { visible = refl; short = omega arith }
status_visible (Some status) short =
    join 12 15 (codes ";fwd-status=") (decimal status) (record { visible = refl; short = omega arith }) (number_visible status short)

stored_visible : (stored : Bool) → IsVisible 7 (stored_text stored)
stored_visible true = record { visible = refl; short = omega arith }
stored_visible false = record { visible = refl; short = omega arith }

collapsed_visible : (collapsed : Bool) → IsVisible 10 (collapsed_text collapsed)
collapsed_visible true = record { visible = refl; short = omega arith }
collapsed_visible false = record { visible = refl; short = omega arith }

handling_visible : (name : List ℕ) (handling : Handling) → IsWritableStatus name handling → IsVisible 113 (handling_text handling)
handling_visible name (handling.Hit ttl) is =
    let text = join 4 21 (codes ";hit") (ttl_text ttl) (record { visible = refl; short = omega arith }) (ttl_visible ttl is.plain.handling) in
    record { visible = text.visible; short = omega (arith, text.short) }
handling_visible name (handling.Fwd word status stored collapsed) is =
    let token : IsVisible 64 word = record { visible = token_visible word is.plain.handling.0; short = is.short_word } in
    let told =
    join 69 27 (codes ";fwd=" ++ word) (fwd_status_text status)
    (join 5 64 (codes ";fwd=") word (record { visible = refl; short = omega arith }) token) (status_visible status is.plain.handling.1) in
    let put = join 96 7 (codes ";fwd=" ++ word ++ fwd_status_text status) (stored_text stored) told (stored_visible stored) in
    join 103 10 (codes ";fwd=" ++ word ++ fwd_status_text status ++ stored_text stored) (collapsed_text collapsed) put (collapsed_visible collapsed)

pub member_visible : (name : List ℕ) (handling : Handling) → IsWritableStatus name handling → IsVisible 145 (member_text (record { name = name; handling = handling }))
member_visible name handling is =
    join 32 113 name (handling_text handling) (record { visible = token_visible name is.plain.name; short = is.short_name }) (handling_visible name handling is)

-- ---- dates

-- octets of a value, of which there are at most so many
record IsText (most : ℕ) (text : List ℕ) : Type 0 where
  octets : list_all is_value_byte text ≡ true
  short : length text ≤ most

-- the same, and a visible octet stands first
record IsFront (most : ℕ) (text : List ℕ) : Type 0 where
  octets : list_all is_value_byte text ≡ true
  short : length text ≤ most
  visible : starts_visible text ≡ true
  some : 0 < length text

behind_first : (one other : List ℕ) → 0 < length one → starts_visible one ≡ true → starts_visible (one ++ other) ≡ true
behind_first [] other some visible = absurd (omega arith)
behind_first (b ∷ one) other some visible = visible

onto : (m n : ℕ) (one other : List ℕ) → IsFront m one → IsText n other → IsFront (m + n) (one ++ other)
onto m n one other is also = record {
  octets = list_all-append is_value_byte one other ∙ and_from _ _ is.octets also.octets;
  short = omega (arith, length-append one other, is.short, also.short);
  visible = behind_first one other is.some is.visible;
  some = omega (arith, length-append one other, is.some);
}

after : (m n : ℕ) (one other : List ℕ) → IsText m one → IsText n other → IsText (m + n) (one ++ other)
after m n one other is also = record {
  octets = list_all-append is_value_byte one other ∙ and_from _ _ is.octets also.octets;
  short = omega (arith, length-append one other, is.short, also.short);
}

digit_text : (d : ℕ) → d ≤ 9 → is_value_byte (48 + d) ≡ true
digit_text d small = grind (arith, nat_tests)

two_text : (n : ℕ) → n < 100 → IsText 2 (two_digits n)
two_text n small = record {
  octets = and_from _ _ (digit_text (n / 10) (omega arith)) (and_from _ _ (digit_text (n % 10) (omega arith)) refl);
  short = omega arith;
}

four_text : (n : ℕ) → n < 10000 → IsText 4 (four_digits n)
four_text n small = after 2 2 (two_digits (n / 100)) (two_digits (n % 100)) (two_text (n / 100) (omega arith)) (two_text (n % 100) (omega arith))

-- the name of a month, or nothing
month_text : (mon : ℕ) → IsText 3 (month_name mon)
month_text mon = named (mon - 1)
  where
    named : (k : ℕ) → IsText 3 (slice_index_or
        (codes "Jan" ∷ codes "Feb" ∷ codes "Mar" ∷ codes "Apr" ∷ codes "May" ∷ codes "Jun"
        ∷ codes "Jul" ∷ codes "Aug" ∷ codes "Sep" ∷ codes "Oct" ∷ codes "Nov" ∷ codes "Dec" ∷ []) k [])
    named zero = record { octets = refl; short = omega arith }
    named (suc zero) = record { octets = refl; short = omega arith }
    named (suc (suc zero)) = record { octets = refl; short = omega arith }
    named (suc (suc (suc zero))) = record { octets = refl; short = omega arith }
    named (suc (suc (suc (suc zero)))) = record { octets = refl; short = omega arith }
    named (suc (suc (suc (suc (suc zero))))) = record { octets = refl; short = omega arith }
    named (suc (suc (suc (suc (suc (suc zero)))))) = record { octets = refl; short = omega arith }
    named (suc (suc (suc (suc (suc (suc (suc zero))))))) = record { octets = refl; short = omega arith }
    named (suc (suc (suc (suc (suc (suc (suc (suc zero)))))))) = record { octets = refl; short = omega arith }
    named (suc (suc (suc (suc (suc (suc (suc (suc (suc zero))))))))) = record { octets = refl; short = omega arith }
    named (suc (suc (suc (suc (suc (suc (suc (suc (suc (suc zero)))))))))) = record { octets = refl; short = omega arith }
    named (suc (suc (suc (suc (suc (suc (suc (suc (suc (suc (suc zero))))))))))) = record { octets = refl; short = omega arith }
    named (suc (suc (suc (suc (suc (suc (suc (suc (suc (suc (suc (suc k)))))))))))) = record { octets = refl; short = omega arith }

-- the name of a day of the week, Monday 1 and Sunday 7
day_front : (day : ℕ) → IsFront 3 (day_name (weekday day))
day_front day = named (weekday day - 1) (omega arith)
  where
    named : (k : ℕ) → k < 7 → IsFront 3 (slice_index_or
        (codes "Mon" ∷ codes "Tue" ∷ codes "Wed" ∷ codes "Thu" ∷ codes "Fri" ∷ codes "Sat" ∷ codes "Sun" ∷ []) k [])
    named zero small = record { octets = refl; short = omega arith; visible = refl; some = omega arith }
    named (suc zero) small = record { octets = refl; short = omega arith; visible = refl; some = omega arith }
    named (suc (suc zero)) small = record { octets = refl; short = omega arith; visible = refl; some = omega arith }
    named (suc (suc (suc zero))) small = record { octets = refl; short = omega arith; visible = refl; some = omega arith }
    named (suc (suc (suc (suc zero)))) small = record { octets = refl; short = omega arith; visible = refl; some = omega arith }
    named (suc (suc (suc (suc (suc zero))))) small = record { octets = refl; short = omega arith; visible = refl; some = omega arith }
    named (suc (suc (suc (suc (suc (suc zero)))))) small = record { octets = refl; short = omega arith; visible = refl; some = omega arith }
    named (suc (suc (suc (suc (suc (suc (suc k))))))) small = absurd (omega (arith, small))

month_short : (y m : ℕ) → days_in_month y m ≤ 31
month_short y m = go (m == 2) (is_leap_year y) ((m == 4) || (m == 6) || (m == 9) || (m == 11))
  where
    go : (february leap thirty : Bool) → cond february (cond leap 29 28) (cond thirty 30 31) ≤ 31
    go true true thirty = omega arith
    go true false thirty = omega arith
    go false leap true = omega arith
    go false leap false = omega arith

-- the numbers of the parts of a date have as many digits as they are written with
record HasDigits (p : Parts) : Type 0 where
  day : p.day < 100
  year : p.year < 10000
  hour : p.hour < 100
  min : p.min < 100
  sec : p.sec < 100

date_digits : (day second : ℕ) → day < 2932897 → second < 86400 → HasDigits (parts_at day second)
date_digits day second d s =
    let valid = has_date day second d s in
    let p = parts_at day second in
    record {
      day = omega (arith, valid.0.2, month_short p.year p.mon);
      year = omega (arith, valid.0.0);
      hour = omega (arith, valid.1.0);
      min = omega (arith, valid.1.1);
      sec = omega (arith, valid.1.2);
    }

literal : (text : List ℕ) (most : ℕ) → list_all is_value_byte text ≡ true → length text ≤ most → IsText most text
literal text most octets short = record { octets = octets; short = short }

time_text : (p : Parts) → HasDigits p → IsText 8 (time_of_day p)
time_text p digits =
    let colon = literal (codes ":") 1 refl (omega arith) in
    after 6 2 (two_digits p.hour ++ codes ":" ++ two_digits p.min ++ codes ":") (two_digits p.sec)
    (after 5 1 (two_digits p.hour ++ codes ":" ++ two_digits p.min) (codes ":")
    (after 3 2 (two_digits p.hour ++ codes ":") (two_digits p.min)
    (after 2 1 (two_digits p.hour) (codes ":") (two_text p.hour digits.hour) colon) (two_text p.min digits.min)) colon)
    (two_text p.sec digits.sec)

-- all of a date but the last three letters
date_front : (p : Parts) → HasDigits p → IsFront 3 (day_name p.wday) → IsFront 25 (day_name p.wday ++ codes ", " ++ two_digits p.day ++ codes " " ++ month_name p.mon ++ codes " " ++ four_digits p.year ++ codes " " ++ time_of_day p)
date_front p digits named =
    let space = literal (codes " ") 1 refl (omega arith) in
    let upto-comma = onto 3 2 (day_name p.wday) (codes ", ") named (literal (codes ", ") 2 refl (omega arith)) in
    let upto-day = onto 5 2 _ (two_digits p.day) upto-comma (two_text p.day digits.day) in
    let upto-month = onto 8 3 _ (month_name p.mon) (onto 7 1 _ (codes " ") upto-day space) (month_text p.mon) in
    let upto-year = onto 12 4 _ (four_digits p.year) (onto 11 1 _ (codes " ") upto-month space) (four_text p.year digits.year) in
    onto 17 8 _ (time_of_day p) (onto 16 1 _ (codes " ") upto-year space) (time_text p digits)

-- what ends in a visible octet is a plain value
ends_visible : (front back : List ℕ) (most more : ℕ) → IsFront most front → IsText more back → starts_visible (reverse back ++ reverse front) ≡ true
    → is_plain_value (front ++ back) ≡ true
ends_visible front back most more is also end =
    let whole = onto most more front back is also in
    and_from _ _ whole.visible (and_from _ _ (ap starts_visible (reverse-append front back) ∙ end) whole.octets)

-- the text of a date is a plain value of at most 29 octets
pub record IsDateText (text : List ℕ) : Type 0 where
  pub plain : is_plain_value text ≡ true
  pub short : length text ≤ 29

parts_text : (p : Parts) → HasDigits p → IsFront 3 (day_name p.wday) → IsDateText (imf_fixdate p)
parts_text p digits named =
    let front = date_front p digits named in
    let back = literal (codes " GMT") 4 refl (omega arith) in
    record {
      plain = ends_visible _ (codes " GMT") 25 4 front back refl;
      short = (onto 25 4 _ (codes " GMT") front back).short;
    }

pub date_text_plain : (moment : ℕ) → moment < 253402300800 → IsDateText (imf_fixdate_at moment)
unfolding imf_fixdate_at
date_text_plain moment early =
    parts_text (parts_at (moment / 86400) (moment % 86400)) (date_digits (moment / 86400) (moment % 86400) (omega arith) (omega arith))
    (day_front (moment / 86400))
