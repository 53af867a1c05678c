-- Values are printable and have no double quote, and lines have ten.
use Rattle.std.proofs.Common.{◌≡◌, ◌<◌, ◌≤◌, ◌+◌, ◌%◌, ◌/◌, ◌==◌, ◌^◌, ◌&&◌, not, ℕ, Bool, true, false, nat_le, List, [], ◌∷◌, ◌++◌, get_or, length, suc, zero, refl, arith, rules, sym, ap, ◌∙◌, if◌then◌else◌}
use Rattle.std.proofs.lemmas.Bool.{cond_both, le-leb, leb-true, and_from, and_parts}
use Rattle.std.proofs.lemmas.Fmt.{decimal_by_steps}
use Rattle.std.proofs.lemmas.List.Concat.{flat_map-cons}
use Rattle.std.proofs.lemmas.List.Folds.{list_all-append}
use Rattle.std.specs.Fmt.{decimal}
use Rattle.std.specs.List.{flat_map, list_all}
use Rattle.std.specs.Prelude.{codes}
use Rattle.hc_access.specs.declared.asked.Asked.{Asked}
use Rattle.hc_access.specs.declared.line.Replied.{Replied}
use Rattle.hc_access.specs.Values.{HasQuotes, are_lines, are_lines_behind, end_text, hexadecimal, is_plain, is_printable, octet_text, quoted, quotes_in, value_text}
use Rattle.hc_access.specs.Lines.{begin_text, behind_text, front_text, replied_text}

quotes_in-append : (one other : List ℕ) → quotes_in (one ++ other) ≡ quotes_in one + quotes_in other
quotes_in-append [] other = omega arith
quotes_in-append (octet ∷ one) other = cond_both (octet == 34) _ _ (λ n. n ≡ (if octet == 34 then 1 + quotes_in one else quotes_in one) + quotes_in other)
    (λ e. rw e (ap (λ n. 1 + n) (quotes_in-append one other) ∙ omega arith))
    (λ e. rw e (quotes_in-append one other))

both : (one other : List ℕ) (m n : ℕ) → HasQuotes m one → HasQuotes n other → HasQuotes (m + n) (one ++ other)
both one other m n p q = record {
  printable = rw (list_all-append is_printable one other) (and_from _ _ p.printable q.printable);
  quotes = rw (quotes_in-append one other) (rw (p.quotes, q.quotes) refl);
}

-- ---- values

-- what holds of each element of a list, and of what stands in for one, holds at each place
at_each_place : (p : ℕ → Bool) (xs : List ℕ) (place other : ℕ) → list_all p xs ≡ true → p other ≡ true → p (get_or xs place other) ≡ true
at_each_place p [] place other all one = one
at_each_place p (x ∷ xs) zero other all one = (and_parts (p x) (list_all p xs) all).0
at_each_place p (x ∷ xs) (suc place) other all one = at_each_place p xs place other (and_parts (p x) (list_all p xs) all).1 one

digit_is_plain : (digit : ℕ) → is_plain (hexadecimal digit) ≡ true
digit_is_plain digit = at_each_place is_plain (codes "0123456789ABCDEF") digit 48 refl refl

not_quote : (b : Bool) → not b ≡ true → b ≡ false
not_quote true e = sym e
not_quote false e = refl

plain_octet : (octet : ℕ) → is_plain octet ≡ true → HasQuotes 0 (octet ∷ [])
plain_octet octet plain =
    let parts = and_parts (is_printable octet) (not (octet == 34) && not (octet == 92)) plain in
    let other : (octet == 34) ≡ false = not_quote (octet == 34) (and_parts (not (octet == 34)) (not (octet == 92)) parts.1).0 in
    record { printable = and_from _ _ parts.0 refl; quotes = rw other refl }

octet_has_none : (octet : ℕ) → HasQuotes 0 (octet_text octet)
octet_has_none octet = cond_both (is_plain octet) _ _ (HasQuotes 0) (plain_octet octet) (λ _.
    both (92 ∷ 120 ∷ []) (hexadecimal (octet / 16) ∷ hexadecimal (octet % 16) ∷ []) 0 0 (record { printable = refl; quotes = refl })
    (both (hexadecimal (octet / 16) ∷ []) (hexadecimal (octet % 16) ∷ []) 0 0 (plain_octet _ (digit_is_plain (octet / 16))) (plain_octet _ (digit_is_plain (octet % 16)))))

octets_have_none : (octets : List ℕ) → HasQuotes 0 (flat_map octet_text octets)
octets_have_none [] = record { printable = refl; quotes = refl }
octets_have_none (octet ∷ octets) = rw (flat_map-cons octet_text octet octets) (both (octet_text octet) (flat_map octet_text octets) 0 0 (octet_has_none octet) (octets_have_none octets))

pub value_has_none : (value : List ℕ) → HasQuotes 0 (value_text value)
value_has_none [] = record { printable = refl; quotes = refl }
value_has_none (octet ∷ octets) = octets_have_none (octet ∷ octets)

pub quoted_has_two : (value : List ℕ) → HasQuotes 2 (quoted value)
quoted_has_two value = both (34 ∷ []) (value_text value ++ 34 ∷ []) 1 1 (record { printable = refl; quotes = refl })
    (both (value_text value) (34 ∷ []) 0 1 (value_has_none value) (record { printable = refl; quotes = refl }))

pub two_quoted_have_four : (one other : List ℕ) → HasQuotes 4 (quoted one ++ (codes " " ++ quoted other))
two_quoted_have_four one other = both (quoted one) (codes " " ++ quoted other) 2 2 (quoted_has_two one)
    (both (codes " ") (quoted other) 0 2 (record { printable = refl; quotes = refl }) (quoted_has_two other))

-- plain octets stand for themselves
pub plain_is_itself : (octets : List ℕ) → list_all is_plain octets ≡ true → flat_map octet_text octets ≡ octets
plain_is_itself [] plain = refl
plain_is_itself (octet ∷ octets) plain =
    let parts = and_parts (is_plain octet) (list_all is_plain octets) plain in
    rw (flat_map-cons octet_text octet octets, plain_is_itself octets parts.1, parts.0) refl

pub plain_value : (value : List ℕ) → list_all is_plain value ≡ true → (length value == 0) ≡ false → value_text value ≡ value
plain_value [] plain some = let nothing : true ≡ false = some in cc
plain_value (octet ∷ octets) plain some = plain_is_itself (octet ∷ octets) plain

-- ---- numbers

digit_has_none : (n : ℕ) → n < 10 → HasQuotes 0 ((48 + n) ∷ [])
digit_has_none n few = record {
  printable = and_from _ _ (and_from _ _ (le-leb 32 (48 + n) (omega arith)) (le-leb (48 + n) 126 (omega arith))) refl;
  quotes = let other : (48 + n == 34) ≡ false = search rules in rw other refl;
}

number_has_none : (n : ℕ) → n < 2 ^ 64 → HasQuotes 0 (decimal n)
number_has_none n few = decimal_by_steps (λ n text. HasQuotes 0 text)
    (λ n small. digit_has_none n small)
    (λ n text large earlier. both text ((48 + n % 10) ∷ []) 0 0 earlier (digit_has_none (n % 10) (search rules)))
    n few

-- ---- lines

begin_has : (client time line : List ℕ) → HasQuotes 2 line → HasQuotes 2 (begin_text client time line)
begin_has client time line has = both (value_text client) (codes " - - [" ++ (value_text time ++ (codes "] " ++ line))) 0 2 (value_has_none client)
    (both (codes " - - [") (value_text time ++ (codes "] " ++ line)) 0 2 (record { printable = refl; quotes = refl })
    (both (value_text time) (codes "] " ++ line) 0 2 (value_has_none time)
    (both (codes "] ") line 0 2 (record { printable = refl; quotes = refl }) has)))

space : HasQuotes 0 (codes " ")
space = record { printable = refl; quotes = refl }

replied_has_none : (status : List ℕ) (size : ℕ) → size < 2 ^ 64 → HasQuotes 0 (replied_text status size)
replied_has_none status size few = both (codes " ") (value_text status ++ (codes " " ++ (decimal size ++ codes " "))) 0 0 space
    (both (value_text status) (codes " " ++ (decimal size ++ codes " ")) 0 0 (value_has_none status)
    (both (codes " ") (decimal size ++ codes " ") 0 0 space (both (decimal size) (codes " ") 0 0 (number_has_none size few) space)))

behind_has : (beside mark trouble : List ℕ) → HasQuotes 4 beside → HasQuotes 8 (behind_text beside mark trouble)
behind_has beside mark trouble has = both beside (codes " " ++ (quoted mark ++ (codes " " ++ (quoted trouble ++ codes " ")))) 4 4 has
    (both (codes " ") (quoted mark ++ (codes " " ++ (quoted trouble ++ codes " "))) 0 4 space
    (both (quoted mark) (codes " " ++ (quoted trouble ++ codes " ")) 2 2 (quoted_has_two mark)
    (both (codes " ") (quoted trouble ++ codes " ") 0 2 space (both (quoted trouble) (codes " ") 2 0 (quoted_has_two trouble) space))))

pub front_has_ten : (client time : List ℕ) (asked : Asked) (replied : Replied) → HasQuotes 2 asked.line.items → HasQuotes 4 asked.beside.items → replied.size < 2 ^ 64
    → HasQuotes 10 (front_text client time asked replied)
front_has_ten client time asked replied line beside few =
    both (begin_text client time asked.line.items) (replied_text replied.status.now replied.size ++ behind_text asked.beside.items replied.mark.now replied.trouble.now) 2 8
    (begin_has client time asked.line.items line)
    (both (replied_text replied.status.now replied.size) (behind_text asked.beside.items replied.mark.now replied.trouble.now) 0 8
    (replied_has_none replied.status.now replied.size few) (behind_has asked.beside.items replied.mark.now replied.trouble.now beside))

-- printable ASCII stands in a line, and its double quotes count there
not_a_line_feed : (octet : ℕ) → is_printable octet ≡ true → (octet == 10) ≡ false
not_a_line_feed octet printable = let low : 32 ≤ octet = leb-true 32 octet (and_parts (nat_le 32 octet) (nat_le octet 126) printable).0 in search rules

in_line : (text rest : List ℕ) (before : ℕ) → list_all is_printable text ≡ true → are_lines_behind before (text ++ rest) ≡ are_lines_behind (quotes_in text + before) rest
in_line [] rest before printable = ap (λ n. are_lines_behind n rest) (omega arith)
in_line (octet ∷ text) rest before printable =
    let parts = and_parts (is_printable octet) (list_all is_printable text) printable in
    let other = not_a_line_feed octet parts.0 in
    rw (other, parts.0) (cond_both (octet == 34) _ _ (λ n. are_lines_behind (if octet == 34 then 1 + before else before) (text ++ rest) ≡ are_lines_behind (n + before) rest)
    (λ e. rw e (in_line text rest (1 + before) parts.1 ∙ ap (λ n. are_lines_behind n rest) (omega arith)))
    (λ e. rw e (in_line text rest before parts.1)))

-- a line behind others
lines_and_more : (octets rest : List ℕ) (before : ℕ) → are_lines_behind before octets ≡ true → are_lines_behind before (octets ++ rest) ≡ are_lines_behind 0 rest
lines_and_more [] rest before lines = rw (nothing before lines) refl
  where
    nothing : (count : ℕ) → (count == 0) ≡ true → count ≡ 0
    nothing count e = search rules
lines_and_more (octet ∷ octets) rest before lines = cond_both (octet == 10) _ _ (λ b. b ≡ true → (if octet == 10 then (before == 10) && are_lines_behind 0 (octets ++ rest)
    else is_printable octet && are_lines_behind (if octet == 34 then 1 + before else before) (octets ++ rest)) ≡ are_lines_behind 0 rest)
    (λ e all. let parts = and_parts (before == 10) (are_lines_behind 0 octets) all in rw (e, parts.0) (lines_and_more octets rest 0 parts.1))
    (λ e all. let parts = and_parts (is_printable octet) (are_lines_behind (if octet == 34 then 1 + before else before) octets) all in
    rw (e, parts.0) (lines_and_more octets rest (if octet == 34 then 1 + before else before) parts.1))
    lines

pub one_line_more : (lines front : List ℕ) (milliseconds : ℕ) → are_lines lines ≡ true → HasQuotes 10 front → milliseconds < 2 ^ 64 → are_lines (lines ++ (front ++ end_text milliseconds)) ≡ true
one_line_more lines front milliseconds before has few =
    let number = number_has_none milliseconds few in
    lines_and_more lines (front ++ end_text milliseconds) 0 before
    ∙ in_line front (end_text milliseconds) 0 has.printable
    ∙ rw has.quotes (in_line (decimal milliseconds) (10 ∷ []) 10 number.printable ∙ rw number.quotes refl)
