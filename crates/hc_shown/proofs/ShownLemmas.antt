-- What is shown of octets is printable, and not much.
use Rattle.std.proofs.Common.{◌-◌, ◌^◌, ◌≡◌, ◌<◌, ◌≤◌, ◌+◌, ◌*◌, ◌%◌, ◌/◌, ◌==◌, ℕ, Bool, true, nat_lt, nat_le, List, [], ◌∷◌, ◌++◌, length, take, refl, arith, rules, sym, append_assoc, Result, Ok, Err, OnOk}
use Rattle.std.proofs.lemmas.Bool.{cond_both, le-leb, leb-true, ltb-true, ltb-false, and_from, and_parts}
use Rattle.std.proofs.lemmas.Grind.{common_steps}
use Rattle.std.proofs.lemmas.Str.{encode_ascii}
use Rattle.std.proofs.lemmas.Fmt.{decimal_by_steps, length-decimal-le}
use Rattle.std.proofs.lemmas.List.Concat.{flat_map-cons}
use Rattle.std.proofs.lemmas.List.Folds.{list_all-append}
use Rattle.std.specs.Fmt.{decimal}
use Rattle.std.specs.List.{flat_map, list_all}
use Rattle.std.specs.Prelude.{codes}
use Rattle.std.specs.Char.{digit_char, encode_utf8}
use Rattle.std.specs.Char.Escape.{escape_ascii, short_escape, backslash, hex_digit_at}
use Rattle.hc_shown.specs.declared.values.Piece.{Piece}
use Rattle.hc_shown.specs.declared.values.Piece.TheVariants.{Hidden, Octet}
use Rattle.hc_shown.specs.declared.hidden.Place.{Place}
use Rattle.hc_shown.specs.Hidden.{front, hidden_run, is_hidden, pieces_behind, pieces_of, place_behind}
use Rattle.hc_shown.specs.Octets.{IsShown, all_text, cut_text, first_text, is_printable, length_text, octet_text, octets_text}
use Rattle.hc_shown.specs.Pieces.{both_text, fitting_text, piece_room, piece_text}
use Rattle.hc_shown.specs.Secrets.{is_credential}
use Rattle.hc_shown.specs.Values.{value_text}

printable_between : (n : ℕ) → 32 ≤ n → n ≤ 126 → is_printable n ≡ true
printable_between n low high = and_from _ _ (le-leb 32 n low) (le-leb n 126 high)

printable_digit : (d : ℕ) → d < 16 → is_printable (digit_char d) ≡ true
printable_digit d few = cond_both (nat_lt d 10) (48 + d) (87 + d) (λ n. is_printable n ≡ true)
    (λ e. printable_between (48 + d) (omega arith) (omega (arith, ltb-true d 10 e)))
    (λ e. printable_between (87 + d) (omega arith) (omega arith))

-- printable, and at most four
abbrev pub IsText : List ℕ → Type 0
IsText text = (list_all is_printable text ≡ true) × (length text ≤ 4)

is_text_1 : (a : ℕ) → is_printable a ≡ true → IsText (a ∷ [])
is_text_1 a p = (and_from _ _ p refl, omega arith)

is_text_2 : (a b : ℕ) → is_printable a ≡ true → is_printable b ≡ true → IsText (a ∷ b ∷ [])
is_text_2 a b p q = (and_from _ _ p (and_from _ _ q refl), omega arith)

is_text_4 : (a b c d : ℕ) → is_printable a ≡ true → is_printable b ≡ true → is_printable c ≡ true → is_printable d ≡ true → IsText (a ∷ b ∷ c ∷ d ∷ [])
is_text_4 a b c d p q r s = (and_from _ _ p (and_from _ _ q (and_from _ _ r (and_from _ _ s refl))), omega arith)

letter : (c : ℕ) → nat_lt 0 (short_escape c) ≡ true → is_printable (short_escape c) ≡ true
letter c = cond_both (c == 9) 116 _ (λ n. nat_lt 0 n ≡ true → is_printable n ≡ true) (λ _ _. refl) (λ _.
    cond_both (c == 13) 114 _ (λ n. nat_lt 0 n ≡ true → is_printable n ≡ true) (λ _ _. refl) (λ _.
    cond_both (c == 10) 110 _ (λ n. nat_lt 0 n ≡ true → is_printable n ≡ true) (λ _ _. refl) (λ _.
    cond_both (c == 39) 39 _ (λ n. nat_lt 0 n ≡ true → is_printable n ≡ true) (λ _ _. refl) (λ _.
    cond_both (c == 34) 34 _ (λ n. nat_lt 0 n ≡ true → is_printable n ≡ true) (λ _ _. refl) (λ _.
    cond_both (c == backslash) backslash 0 (λ n. nat_lt 0 n ≡ true → is_printable n ≡ true) (λ _ _. refl) (λ _ e. absurd (cc)))))))

coded : (b : ℕ) → IsText (backslash ∷ 120 ∷ hex_digit_at 0x10 b ∷ hex_digit_at 1 b ∷ [])
coded b = is_text_4 backslash 120 (hex_digit_at 0x10 b) (hex_digit_at 1 b) refl refl (printable_digit (b / 0x10 % 16) (search rules)) (printable_digit (b / 1 % 16) (search rules))

pub escaped_is_text : (b : ℕ) → IsText (escape_ascii b)
escaped_is_text b = cond_both (nat_lt 0 (short_escape b)) _ _ IsText (λ e. is_text_2 backslash (short_escape b) refl (letter b e)) (λ _.
    cond_both (nat_lt b 32) _ _ IsText (λ _. coded b) (λ low.
    cond_both (nat_lt b 127) _ _ IsText (λ high. is_text_1 b (printable_between b (ltb-false b 32 low) (omega (arith, ltb-true b 127 high)))) (λ _. coded b)))

pub octet_is_text : (b : ℕ) → IsText (octet_text b)
octet_is_text b = cond_both (b == 39) _ _ IsText (λ _. is_text_1 39 refl) (λ _. escaped_is_text b)

-- an octet is written, and the others follow
pub written_on : (out new rest left : List ℕ) (x c : ℕ) → list_all is_printable rest ≡ true → rest ≡ x ∷ left → c ≡ x → new ≡ out ++ encode_utf8 c
    → (new ++ left ≡ out ++ rest) × (list_all is_printable left ≡ true)
written_on out new rest left x c printable begins same written =
    let parts = and_parts (is_printable x) (list_all is_printable left) (rw begins at printable) in
    let high : x ≤ 126 = leb-true x 126 (and_parts (nat_le 32 x) (nat_le x 126) parts.0).1 in
    let one : encode_utf8 c ≡ x ∷ [] = rw same (encode_ascii x (omega arith)) in
    let ends : new ≡ out ++ x ∷ [] = rw (sym one) written in
    (rw (ends, begins) (append_assoc out (x ∷ []) left), parts.1)

-- ---- runs of text

-- printable, and at most so many
record IsTextOf (text : List ℕ) (most : ℕ) : Type 0 where
  printable : list_all is_printable text ≡ true
  short : length text ≤ most

both : (one other : List ℕ) (m n : ℕ) → IsTextOf one m → IsTextOf other n → IsTextOf (one ++ other) (m + n)
both one other m n t u = record {
  printable = rw (list_all-append is_printable one other) (and_from _ _ t.printable u.printable);
  short = grind (arith, common_steps, t.short, u.short);
}

each : (octets : List ℕ) → IsTextOf (flat_map octet_text octets) (4 * length octets)
each [] = record { printable = refl; short = omega arith }
each (octet ∷ octets) = record {
  printable = rw (flat_map-cons octet_text octet octets, list_all-append is_printable (octet_text octet) (flat_map octet_text octets))
      (and_from _ _ (octet_is_text octet).0 (each octets).printable);
  short = rw (flat_map-cons octet_text octet octets) (grind (arith, common_steps, (octet_is_text octet).1, (each octets).short));
}

digit_is_printable : (n : ℕ) → n < 10 → is_printable (48 + n) ≡ true
digit_is_printable n few = printable_between (48 + n) (omega arith) (omega arith)

digits_are_printable : (n : ℕ) → n < 2 ^ 64 → list_all is_printable (decimal n) ≡ true
digits_are_printable n few = decimal_by_steps (λ n text. list_all is_printable text ≡ true)
    (λ n small. and_from _ _ (digit_is_printable n small) refl)
    (λ n text large earlier. rw (list_all-append is_printable text ((48 + n % 10) ∷ []))
    (and_from _ _ earlier (and_from _ _ (digit_is_printable (n % 10) (search rules)) refl)))
    n few

count_is_text : (n : ℕ) → n < 2 ^ 64 → IsTextOf (length_text n) 29
count_is_text n few =
    let number : IsTextOf (decimal n) 20 = record { printable = digits_are_printable n few; short = length-decimal-le 20 n (omega arith) (omega arith) few } in
    both (codes "(") (decimal n ++ codes " octets)") 1 28 (record { printable = refl; short = omega arith })
    (both (decimal n) (codes " octets)") 20 8 number (record { printable = refl; short = omega arith }))

cut_is_text : (n : ℕ) → n < 2 ^ 64 → IsTextOf (cut_text n) 32
cut_is_text n few = cond_both (nat_le n 200) [] (codes "..." ++ length_text n) (λ text. IsTextOf text 32)
    (λ _. record { printable = refl; short = omega arith })
    (λ _. both (codes "...") (length_text n) 3 29 (record { printable = refl; short = omega arith }) (count_is_text n few))

first_is_text : (most : ℕ) (octets : List ℕ) → IsTextOf (first_text most octets) (4 * most)
first_is_text most octets =
    let text = each (take most octets) in
    record { printable = text.printable; short = grind (arith, common_steps, text.short) }

pub octets_are_shown : (octets : List ℕ) → length octets < 2 ^ 64 → IsShown (octets_text octets)
octets_are_shown octets few =
    let text = both (first_text 200 octets) (cut_text (length octets)) 800 32 (first_is_text 200 octets) (cut_is_text (length octets) few) in
    record { printable = text.printable; short = omega (arith, text.short) }

pub count_is_shown : (n : ℕ) → n < 2 ^ 64 → IsShown (length_text n)
count_is_shown n few = let text = count_is_text n few in record { printable = text.printable; short = omega (arith, text.short) }

-- ---- pieces

widen : (text : List ℕ) (m n : ℕ) → IsTextOf text m → m ≤ n → IsTextOf text n
widen text m n t less = record { printable = t.printable; short = omega (arith, t.short, less) }

abbrev is_few : ℕ → Piece → Bool
is_few n (Octet octet) = true
is_few n (Hidden count) = nat_le count n

run_is_few : (n run : ℕ) → run ≤ n → list_all (is_few n) (hidden_run run) ≡ true
run_is_few n run less = cond_both (run == 0) [] (Hidden run ∷ []) (λ pieces. list_all (is_few n) pieces ≡ true) (λ _. refl) (λ _. and_from _ _ (le-leb run n less) refl)

pieces_are_few : (n run : ℕ) (place : Place) (octets : List ℕ) → run + length octets ≤ n → list_all (is_few n) (pieces_behind run place octets) ≡ true
pieces_are_few n run place [] less = run_is_few n run (omega (arith, less))
pieces_are_few n run place (octet ∷ rest) less =
    let behind = place_behind place octet rest in
    cond_both (is_hidden place octet) (pieces_behind (run + 1) behind rest) (hidden_run run ++ (Octet octet ∷ pieces_behind 0 behind rest))
    (λ pieces. list_all (is_few n) pieces ≡ true)
    (λ _. pieces_are_few n (run + 1) behind rest (omega (arith, less)))
    (λ _. rw (list_all-append (is_few n) (hidden_run run) (Octet octet ∷ pieces_behind 0 behind rest))
    (and_from _ _ (run_is_few n run (omega (arith, less))) (pieces_are_few n 0 behind rest (omega (arith, less)))))

piece_is_text : (piece : Piece) → is_few (2 ^ 64 - 1) piece ≡ true → IsTextOf (piece_text piece) (4 * piece_room piece)
piece_is_text (Octet octet) few = record { printable = (octet_is_text octet).0; short = (octet_is_text octet).1 }
piece_is_text (Hidden count) few = widen (length_text count) 29 32 (count_is_text count (omega (arith, leb-true count (2 ^ 64 - 1) few))) (omega arith)

all_is_text : (n : ℕ) → n < 2 ^ 64 → IsTextOf (all_text n) 32
all_is_text n few = both (codes "...") (length_text n) 3 29 (record { printable = refl; short = omega arith }) (count_is_text n few)

fitting_is_text : (count room : ℕ) (pieces : List Piece) → count < 2 ^ 64 → list_all (is_few (2 ^ 64 - 1)) pieces ≡ true → IsTextOf (fitting_text count room pieces) (4 * room + 32)
fitting_is_text count room [] few all = record { printable = refl; short = omega arith }
fitting_is_text count room (piece ∷ rest) few all =
    let parts = and_parts (is_few (2 ^ 64 - 1) piece) (list_all (is_few (2 ^ 64 - 1)) rest) all in
    let left = room - piece_room piece in
    cond_both (nat_le (piece_room piece) room) (piece_text piece ++ fitting_text count left rest) (all_text count) (λ text. IsTextOf text (4 * room + 32))
    (λ fits. widen _ (4 * piece_room piece + (4 * left + 32)) (4 * room + 32)
    (both (piece_text piece) (fitting_text count left rest) (4 * piece_room piece) (4 * left + 32) (piece_is_text piece parts.0) (fitting_is_text count left rest few parts.1))
    (omega (arith, leb-true (piece_room piece) room fits)))
    (λ _. widen (all_text count) 32 (4 * room + 32) (all_is_text count few) (omega arith))

both_is_text : (one other : List ℕ) → length one + length other < 2 ^ 64 → IsTextOf (both_text one other) 832
both_is_text one other few =
    let all : list_all (is_few (2 ^ 64 - 1)) (pieces_of one ++ pieces_of other) ≡ true =
    rw (list_all-append (is_few (2 ^ 64 - 1)) (pieces_of one) (pieces_of other))
    (and_from _ _ (pieces_are_few (2 ^ 64 - 1) 0 front one (omega (arith, few))) (pieces_are_few (2 ^ 64 - 1) 0 front other (omega (arith, few)))) in
    fitting_is_text (length one + length other) 200 (pieces_of one ++ pieces_of other) few all

pub both_are_shown : (one other : List ℕ) → length one + length other < 2 ^ 64 → IsShown (both_text one other)
both_are_shown one other few = let text = both_is_text one other few in record { printable = text.printable; short = omega (arith, text.short) }

quoted_is_shown : (octets : List ℕ) → length octets < 2 ^ 64 → IsShown (codes "\"" ++ (both_text octets [] ++ codes "\""))
quoted_is_shown octets few =
    let quote : IsTextOf (codes "\"") 1 = record { printable = refl; short = omega arith } in
    let none : length octets + 0 < 2 ^ 64 = omega (arith, few) in
    let quoted = both (codes "\"") (both_text octets [] ++ codes "\"") 1 833 quote (both (both_text octets []) (codes "\"") 832 1 (both_is_text octets [] none) quote) in
    record { printable = quoted.printable; short = omega (arith, quoted.short) }

pub value_is_shown : (name value : List ℕ) → length value < 2 ^ 64 → IsShown (value_text name value)
value_is_shown name value few = cond_both (is_credential name) (length_text (length value)) (codes "\"" ++ (both_text value [] ++ codes "\"")) IsShown
    (λ _. count_is_shown (length value) few) (λ _. quoted_is_shown value few)

pub on_ok : {T E P : Type 0} (result : Result T E) → P → OnOk result P
on_ok (Ok x) p = p
on_ok (Err e) p = tt
