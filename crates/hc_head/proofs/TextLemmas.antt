-- Octets that end within a character of UTF-8 can become text, and those that `error_len` blames never do.
use Rattle.std.proofs.Common.{◌≡◌, ℕ, ◌+◌, ◌-◌, ◌*◌, ◌<◌, ◌≤◌, Bool, true, false, cond, ltb, List, [], ◌∷◌, ◌++◌, length, take, drop, Option, Some, None, refl, sym, ap, subst, ◌∙◌, arith, inl, inr, ⊎_elim, append_assoc, append-nil, length-append, length-drop}
use Rattle.std.specs.Prelude.{◌⊎◌, IsUtf8, is_some, not, MatchBool}
use Rattle.std.specs.Int.{is_in_range}
use Rattle.std.specs.Str.{IsValidUpTo}
use Rattle.std.specs.Str.Lossy.{second_byte_min, second_byte_max, error_len_of_some, utf8_error_len}
use Rattle.std.proofs.Math.Utf8.{encode, encodes, scalar, scalars, scalar_cases}
use Rattle.std.proofs.Math.Seq.{take-add}
use Rattle.std.proofs.iter.FirstChar.{after_text}
use Rattle.std.proofs.str.Laws.{Follows, Shape, of1, of2, of3, of4, shape, one, two, three}
use Rattle.std.proofs.str.Lossy.{utf8_error_len_some}
use Rattle.std.proofs.str.Valid.{of_two, of_three, of_four}
use Rattle.std.proofs.lemmas.Bool.{cases_lt, cases_eq, and_parts, le-ltb}
use Rattle.std.proofs.lemmas.Bool.Decides.{nat_tests}
use Rattle.std.proofs.lemmas.List.{take_at, take-append-drop, take-append-le, drop-append-le}
use Rattle.std.proofs.lemmas.List.Elements.{All-nil, All-cons}
use Rattle.std.proofs.lemmas.Str.{IsUtf8-append, IsUtf8-encode, length-encode, len_utf8_bounds}
use Rattle.httparse.specs.Grammar.{is_uri_byte, AllPass}
use Rattle.hc_head.specs.Unfinished.{MayBecomeText, NeverText}
use Rattle.hc_head.proofs.FrontLemmas.{one_begins}

-- no front is text but the empty one
abbrev pub HasNoChar : List ℕ → Type 0
HasNoChar octets = (n : ℕ) → 0 < n → ¬ (IsUtf8 (take n octets))

-- ---- the ranges of the octets of a character

pub in_range : (low high b : ℕ) → is_in_range low high b ≡ true → (low ≤ b) × (b ≤ high)
in_range low high b e = grind (arith, nat_tests)

from_range : (low high b : ℕ) → low ≤ b → b ≤ high → is_in_range low high b ≡ true
from_range low high b above below = grind (arith, nat_tests)

-- y may stand second behind x
record IsSecond (x y : ℕ) : Type 0 where
  follows : Follows y
  after_e0 : x ≡ 224 → 160 ≤ y
  after_ed : x ≡ 237 → y < 160
  after_f0 : x ≡ 240 → 144 ≤ y
  after_f4 : x ≡ 244 → y < 144

is_second : (x y : ℕ) → is_in_range (second_byte_min x) (second_byte_max x) y ≡ true → IsSecond x y
is_second x y e = record {
  follows = (grind (arith, nat_tests), grind (arith, nat_tests));
  after_e0 = λ at. grind (arith, nat_tests);
  after_ed = λ at. grind (arith, nat_tests);
  after_f0 = λ at. grind (arith, nat_tests);
  after_f4 = λ at. grind (arith, nat_tests);
}

from_second : (x y : ℕ) → IsSecond x y → is_in_range (second_byte_min x) (second_byte_max x) y ≡ true
from_second x y s =
    let follows = s.follows in
    let e0 = s.after_e0 in
    let ed = s.after_ed in
    let f0 = s.after_f0 in
    let f4 = s.after_f4 in
    grind (arith, nat_tests)

-- ---- octets in those ranges are text

text_of_two : (x y : ℕ) → 194 ≤ x → x < 224 → Follows y → IsUtf8 (x ∷ y ∷ [])
text_of_two x y low high f = of_two (x ∷ y ∷ []) 0 (omega arith) (low, high) f

text_of_three : (x y z : ℕ) → 224 ≤ x → x < 240 → IsSecond x y → Follows z → IsUtf8 (x ∷ y ∷ z ∷ [])
text_of_three x y z low high s f =
    let follows = s.follows in
    let e0 = s.after_e0 in
    let ed = s.after_ed in
    let c = (x - 224) * 4096 + (y - 128) * 64 + (z - 128) in
    let long : 2048 ≤ c = ⊎_elim (λ lt. omega arith) (λ ge. omega arith) (cases_lt x 225) in
    let sound : (c < 55296) ⊎ (57344 ≤ c) =
    ⊎_elim (λ lt. inl (⊎_elim (λ below. omega arith) (λ at. omega arith) (cases_lt x 237))) (λ ge. inr (omega arith)) (cases_lt x 238) in
    of_three (x ∷ y ∷ z ∷ []) 0 (omega arith) (low, high) follows f long sound

text_of_four : (x y z w : ℕ) → 240 ≤ x → x < 245 → IsSecond x y → Follows z → Follows w → IsUtf8 (x ∷ y ∷ z ∷ w ∷ [])
text_of_four x y z w low high s f g =
    let follows = s.follows in
    let f0 = s.after_f0 in
    let f4 = s.after_f4 in
    let top = (x - 240) * 64 + (y - 128) in
    let long : 16 ≤ top = ⊎_elim (λ lt. omega arith) (λ ge. omega arith) (cases_lt x 241) in
    let short : top < 272 = ⊎_elim (λ lt. omega arith) (λ ge. omega arith) (cases_lt x 244) in
    of_four (x ∷ y ∷ z ∷ w ∷ []) 0 (omega arith) low follows f g (long, short)

-- ---- what ends within a character may become text

-- the octet follows in a character, and may stand in a target
tail_octet : (b : ℕ) → Follows b → is_uri_byte b ≡ true
tail_octet b f = grind (arith, nat_tests)

all_of_one : (b : ℕ) → Follows b → AllPass is_uri_byte (b ∷ [])
all_of_one b f = All-cons (λ v. is_uri_byte v ≡ true) b [] (tail_octet b f) (All-nil (λ v. is_uri_byte v ≡ true))

all_of_two : (a b : ℕ) → Follows a → Follows b → AllPass is_uri_byte (a ∷ b ∷ [])
all_of_two a b f g = All-cons (λ v. is_uri_byte v ≡ true) a (b ∷ []) (tail_octet a f) (all_of_one b g)

all_of_three : (a b d : ℕ) → Follows a → Follows b → Follows d → AllPass is_uri_byte (a ∷ b ∷ d ∷ [])
all_of_three a b d f g h = All-cons (λ v. is_uri_byte v ≡ true) a (b ∷ d ∷ []) (tail_octet a f) (all_of_two b d g h)

least : Follows 128
least = (omega arith, omega arith)

after_three : (x y z : ℕ) → x < 245 → IsSecond x y → Follows z → HasNoChar (x ∷ y ∷ z ∷ []) → 224 ≤ x → MayBecomeText (x ∷ y ∷ z ∷ [])
after_three x y z high s f none low =
    ⊎_elim (λ below. absurd (none 3 (omega arith) (text_of_three x y z low below s f)))
    (λ wide. (128 ∷ [], all_of_one 128 least, text_of_four x y z 128 wide high s f least)) (cases_lt x 240)

after_two : (x y : ℕ) → 224 ≤ x → x < 245 → IsSecond x y → MayBecomeText (x ∷ y ∷ [])
after_two x y low high s =
    ⊎_elim (λ below. (128 ∷ [], all_of_one 128 least, text_of_three x y 128 low below s least))
    (λ wide. (128 ∷ 128 ∷ [], all_of_two 128 128 least least, text_of_four x y 128 128 wide high s least least)) (cases_lt x 240)

-- the least octet that may stand second
second_of : (x : ℕ) → (y : ℕ) × IsSecond x y
second_of x =
    ⊎_elim (λ e0. (160, behind 160 (omega arith) (omega arith) (λ at. omega arith) (λ at. omega arith) (λ at. omega arith) (λ at. absurd (omega arith))))
    (λ not_e0. ⊎_elim
    (λ f0. (144, behind 144 (omega arith) (omega arith) (λ at. absurd (omega arith)) (λ at. omega arith) (λ at. omega arith) (λ at. absurd (omega arith))))
    (λ not_f0. (128, behind 128 (omega arith) (omega arith) (λ at. absurd (not_e0 at)) (λ at. omega arith) (λ at. absurd (not_f0 at)) (λ at. omega arith)))
    (cases_eq x 240))
    (cases_eq x 224)
  where
    behind : (y : ℕ) → 128 ≤ y → y < 192 → (x ≡ 224 → 160 ≤ y) → (x ≡ 237 → y < 160) → (x ≡ 240 → 144 ≤ y) → (x ≡ 244 → y < 144) → IsSecond x y
    behind y low high e0 ed f0 f4 = record { follows = (low, high); after_e0 = e0; after_ed = ed; after_f0 = f0; after_f4 = f4 }

-- one octet more
one_more : (octets : List ℕ) (b : ℕ) → Follows b → MayBecomeText (octets ++ b ∷ []) → MayBecomeText octets
one_more octets b f may =
    (b ∷ may.0, All-cons (λ v. is_uri_byte v ≡ true) b may.0 (tail_octet b f) may.1, subst IsUtf8 (append_assoc octets (b ∷ []) may.0) may.2)

after_one : (x : ℕ) → 194 ≤ x → x < 245 → MayBecomeText (x ∷ [])
after_one x low high =
    ⊎_elim (λ below. (128 ∷ [], all_of_one 128 least, text_of_two x 128 low below least))
    (λ wide. let y = second_of x in one_more (x ∷ []) y.0 y.1.follows (after_two x y.0 wide high y.1))
    (cases_lt x 224)

-- a test that was passed on the way to None
passed_to_none : (b : Bool) (o : Option ℕ) (k : ℕ) → cond b o (Some k) ≡ None → (b ≡ true) × (o ≡ None)
passed_to_none true o k e = (refl, e)
passed_to_none false o k e = absurd (cc)

not_short : (b : Bool) (o : Option ℕ) → b ≡ false → cond b None o ≡ None → o ≡ None
not_short true o fails e = absurd (cc)
not_short false o fails e = e

none_is_not_some : (b : Bool) (k : ℕ) → b ≡ false → cond b None (Some k) ≡ None → ⊥
none_is_not_some true k fails e = cc
none_is_not_some false k fails e = cc

pub may_become : (r : List ℕ) → 0 < length r → HasNoChar r → error_len_of_some r ≡ None → MayBecomeText r
may_become [] some none told = absurd (omega arith)
may_become (x ∷ []) some none told =
    let first = passed_to_none (is_in_range 0xC2 0xF4 x) None 1 told in
    let at = in_range 194 244 x first.0 in
    after_one x at.0 (omega arith)
may_become (x ∷ y ∷ []) some none told =
    let first = passed_to_none (is_in_range 0xC2 0xF4 x) _ 1 told in
    let at = in_range 194 244 x first.0 in
    let second = passed_to_none (is_in_range (second_byte_min x) (second_byte_max x) y) None 1 first.1 in
    let s = is_second x y second.0 in
    ⊎_elim (λ below. absurd (none 2 (omega arith) (text_of_two x y at.0 below s.follows)))
    (λ wide. after_two x y wide (omega arith) s) (cases_lt x 224)
may_become (x ∷ y ∷ z ∷ []) some none told =
    let first = passed_to_none (is_in_range 0xC2 0xF4 x) _ 1 told in
    let at = in_range 194 244 x first.0 in
    let second = passed_to_none (is_in_range (second_byte_min x) (second_byte_max x) y) _ 1 first.1 in
    let s = is_second x y second.0 in
    let third = passed_to_none (is_in_range 0x80 0xBF z) None 2 second.1 in
    let f = in_range 128 191 z third.0 in
    ⊎_elim (λ below. absurd (none 2 (omega arith) (text_of_two x y at.0 below s.follows)))
    (λ wide. after_three x y z (omega arith) s (f.0, omega arith) none wide) (cases_lt x 224)
may_become (x ∷ y ∷ z ∷ w ∷ r) some none told =
    let n = length (x ∷ y ∷ z ∷ w ∷ r) in
    let first = passed_to_none (is_in_range 0xC2 0xF4 x) _ 1 told in
    let past_two = not_short (ltb n 2) _ (le-ltb n 2 (omega arith)) first.1 in
    let second = passed_to_none (is_in_range (second_byte_min x) (second_byte_max x) y) _ 1 past_two in
    let past_three = not_short (ltb n 3) _ (le-ltb n 3 (omega arith)) second.1 in
    let third = passed_to_none (is_in_range 0x80 0xBF z) _ 2 past_three in
    absurd (none_is_not_some (ltb n 4) 3 (le-ltb n 4 (omega arith)) third.1)

-- ---- what is blamed never becomes text

-- no shorter encoding would do
past_one : (c : ℕ) → 1 < length (encode c) → 128 ≤ c
past_one c h = ⊎_elim (λ l. absurd (omega (arith, ap length (one c l)))) (λ l. l) (cases_lt c 128)

past_two : (c : ℕ) → 2 < length (encode c) → 2048 ≤ c
past_two c h = ⊎_elim (λ l. absurd (omega (arith, ap length (two c (past_one c (omega arith)) l)))) (λ l. l) (cases_lt c 2048)

past_three : (c : ℕ) → 3 < length (encode c) → 65536 ≤ c
past_three c h = ⊎_elim (λ l. absurd (omega (arith, ap length (three c (past_two c (omega arith)) l)))) (λ l. l) (cases_lt c 65536)

none_of_one : (x : ℕ) → 194 ≤ x → x ≤ 244 → error_len_of_some (x ∷ []) ≡ None
none_of_one x low high = ap (λ (t : Bool). cond t None (Some 1)) (from_range 194 244 x low high)

none_of_two : (x y : ℕ) → 194 ≤ x → x ≤ 244 → IsSecond x y → error_len_of_some (x ∷ y ∷ []) ≡ None
none_of_two x y low high s = rw (from_range 194 244 x low high, from_second x y s)

none_of_three : (x y z : ℕ) → 194 ≤ x → x ≤ 244 → IsSecond x y → Follows z → error_len_of_some (x ∷ y ∷ z ∷ []) ≡ None
none_of_three x y z low high s f = rw (from_range 194 244 x low high, from_second x y s, from_range 128 191 z (omega arith) (omega arith))

-- a front of a character, but not all of it
front_of_two : (a b : ℕ) → 194 ≤ a → a < 224 → (r k : List ℕ) → 0 < length r → 0 < length k → a ∷ b ∷ [] ≡ r ++ k → error_len_of_some r ≡ None
front_of_two a b low high [] k some more e = absurd (omega (arith, some))
front_of_two a b low high (x ∷ []) k some more e = let same : a ≡ x = cc in none_of_one x (omega arith) (omega arith)
front_of_two a b low high (x ∷ y ∷ r) k some more e = absurd (omega (arith, more, ap length e, length-append r k))

front_of_three : (a b d : ℕ) → 224 ≤ a → a < 240 → IsSecond a b → (r k : List ℕ) → 0 < length r → 0 < length k → a ∷ b ∷ d ∷ [] ≡ r ++ k
    → error_len_of_some r ≡ None
front_of_three a b d low high s [] k some more e = absurd (omega (arith, some))
front_of_three a b d low high s (x ∷ []) k some more e = let same : a ≡ x = cc in none_of_one x (omega arith) (omega arith)
front_of_three a b d low high s (x ∷ y ∷ []) k some more e =
    let same : a ≡ x = cc in
    let second : b ≡ y = cc in
    none_of_two x y (omega arith) (omega arith) (subst (λ (v : ℕ). IsSecond x v) second (subst (λ (v : ℕ). IsSecond v b) same s))
front_of_three a b d low high s (x ∷ y ∷ z ∷ r) k some more e = absurd (omega (arith, more, ap length e, length-append r k))

front_of_four : (a b d w : ℕ) → 240 ≤ a → a ≤ 244 → IsSecond a b → Follows d → (r k : List ℕ) → 0 < length r → 0 < length k → a ∷ b ∷ d ∷ w ∷ [] ≡ r ++ k
    → error_len_of_some r ≡ None
front_of_four a b d w low high s f [] k some more e = absurd (omega (arith, some))
front_of_four a b d w low high s f (x ∷ []) k some more e = let same : a ≡ x = cc in none_of_one x (omega arith) (omega arith)
front_of_four a b d w low high s f (x ∷ y ∷ []) k some more e =
    let same : a ≡ x = cc in
    let second : b ≡ y = cc in
    none_of_two x y (omega arith) (omega arith) (subst (λ (v : ℕ). IsSecond x v) second (subst (λ (v : ℕ). IsSecond v b) same s))
front_of_four a b d w low high s f (x ∷ y ∷ z ∷ []) k some more e =
    let same : a ≡ x = cc in
    let second : b ≡ y = cc in
    let third : d ≡ z = cc in
    none_of_three x y z (omega arith) (omega arith) (subst (λ (v : ℕ). IsSecond x v) second (subst (λ (v : ℕ). IsSecond v b) same s)) (omega arith, omega arith)
front_of_four a b d w low high s f (x ∷ y ∷ z ∷ v ∷ r) k some more e = absurd (omega (arith, more, ap length e, length-append r k))

told_of_front : (c : ℕ) → scalar c ≡ true → Shape c → (r k : List ℕ) → 0 < length r → 0 < length k → encode c ≡ r ++ k → error_len_of_some r ≡ None
told_of_front c sound (of1 low is) r k some more e = absurd (omega (arith, some, more, ap length is, ap length e, length-append r k))
told_of_front c sound (of2 a b low high f sum is) r k some more e =
    let least : 128 ≤ c = past_one c (omega (arith, ap length is)) in
    front_of_two a b (omega arith) high r k some more (sym is ∙ e)
told_of_front c sound (of3 a b d low high f g sum is) r k some more e =
    let least : 2048 ≤ c = past_two c (omega (arith, ap length is)) in
    let second : IsSecond a b = record {
      follows = f;
      after_e0 = λ at. omega arith;
      after_ed = λ at. ⊎_elim (λ below. omega arith) (λ above. omega arith) (scalar_cases c sound);
      after_f0 = λ at. absurd (omega arith);
      after_f4 = λ at. absurd (omega arith);
    } in
    front_of_three a b d low high second r k some more (sym is ∙ e)
told_of_front c sound (of4 a b d w low high f g h sum is) r k some more e =
    let least : 65536 ≤ c = past_three c (omega (arith, ap length is)) in
    let most : c < 1114112 = ⊎_elim (λ below. omega arith) (λ above. above.1) (scalar_cases c sound) in
    let second : IsSecond a b = record {
      follows = f;
      after_e0 = λ at. absurd (omega arith);
      after_ed = λ at. absurd (omega arith);
      after_f0 = λ at. omega arith;
      after_f4 = λ at. omega arith;
    } in
    front_of_four a b d w low (omega arith) second g r k some more (sym is ∙ e)

-- text that the octets begin with begins with a character: all of it is in the octets, or a front of it is them
pub never : (r : List ℕ) → 0 < length r → HasNoChar r → (n : ℕ) → error_len_of_some r ≡ Some n → NeverText r
never r some none n blamed more ([], (sound, spelt)) = absurd (omega (arith, some, ap length spelt, length-append r more))
never r some none n blamed more (c ∷ cs, (sound, spelt)) =
    let is = and_parts (scalar c) (scalars cs) sound in
    ⊎_elim
    (λ w. none (length (encode c)) (omega (arith, length-encode c, len_utf8_bounds c)) (subst IsUtf8 (sym (ap (take (length (encode c))) w.1 ∙ take_at (encode c) w.0 (length (encode c)) refl)) (IsUtf8-encode c is.0)))
    (λ w. let open_end = told_of_front c is.0 (shape c (scalar_cases c is.0)) r w.0 some w.1 w.2 in cc)
    (one_begins r (encode c) more (encodes cs) (sym spelt))

-- ---- what `from_utf8` tells

no_char_behind : (t : List ℕ) (n : ℕ) → IsValidUpTo t n → HasNoChar (drop n t)
no_char_behind t n valid m some text =
    valid.longest (n + m) (omega (arith, some)) (subst IsUtf8 (sym (take-add n m t)) (IsUtf8-append (take n t) (take m (drop n t)) valid.front text))

some_behind : (t : List ℕ) (n : ℕ) → IsValidUpTo t n → 0 < length (drop n t)
some_behind t n valid = omega (arith, valid.short, length-drop n t)

pub may_become_text : (t : List ℕ) (n : ℕ) → IsValidUpTo t n → utf8_error_len (drop n t) ≡ None → MayBecomeText t
may_become_text t n valid told =
    let r = drop n t in
    let some = some_behind t n valid in
    let may = may_become r some (no_char_behind t n valid) (sym (utf8_error_len_some r some) ∙ told) in
    let whole : take n t ++ (r ++ may.0) ≡ t ++ may.0 =
    sym (append_assoc (take n t) r may.0) ∙ ap (λ (o : List ℕ). o ++ may.0) (take-append-drop n t) in
    (may.0, may.1, subst IsUtf8 whole (IsUtf8-append (take n t) (r ++ may.0) valid.front may.2))

pub never_text : (t : List ℕ) (n k : ℕ) → IsValidUpTo t n → utf8_error_len (drop n t) ≡ Some k → NeverText t
never_text t n k valid told more text =
    let r = drop n t in
    let some = some_behind t n valid in
    let short : n ≤ length t = omega (arith, valid.short) in
    let front : take n (t ++ more) ≡ take n t = take-append-le n t more short in
    let behind = after_text (t ++ more) n text (subst IsUtf8 (sym front) valid.front) in
    never r some (no_char_behind t n valid) k (sym (utf8_error_len_some r some) ∙ told) more (subst IsUtf8 (drop-append-le n t more short) behind)

pub text_may_become : (t : List ℕ) → IsUtf8 t → MayBecomeText t
text_may_become t text = ([], All-nil (λ v. is_uri_byte v ≡ true), subst IsUtf8 (sym (append-nil t)) text)

pub tells_by_length : (t : List ℕ) (n : ℕ) (blamed : Option ℕ) (b : Bool) → IsValidUpTo t n → blamed ≡ utf8_error_len (drop n t) → is_some blamed ≡ not b
    → MatchBool b (MayBecomeText t) (NeverText t)
tells_by_length t n None true valid told is = may_become_text t n valid (sym told)
tells_by_length t n None false valid told is = absurd (cc)
tells_by_length t n (Some k) true valid told is = absurd (cc)
tells_by_length t n (Some k) false valid told is = never_text t n k valid (sym told)
