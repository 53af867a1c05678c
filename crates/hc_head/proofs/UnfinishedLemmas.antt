-- Octets that end within a head: those that become none, and what makes the others one.
use Rattle.std.proofs.Common.{◌≡◌, ℕ, ◌+◌, ◌*◌, ◌<◌, ◌≤◌, Bool, true, false, List, [], ◌∷◌, ◌++◌, length, refl, sym, ap, subst, ◌∙◌, arith, inl, inr, ⊎_elim, append_assoc, append-nil, length-append}
use Rattle.std.specs.Prelude.{slice_index, ◌==◌, IsUtf8, not, MatchBool}
use Rattle.std.specs.Char.{is_ascii_digit, digit_value}
use Rattle.std.specs.List.{list_any}
use Rattle.std.specs.Str.Parse.{digits_value}
use Rattle.std.proofs.lemmas.Bool.{false≢true, cases_lt, eqb-true, eqb-false}
use Rattle.std.proofs.lemmas.List.{nil_from_length, get_or_append_left, get_or_past}
use Rattle.std.proofs.lemmas.List.Elements.{All-nil, All-cons, All-append}
use Rattle.std.proofs.lemmas.Str.{IsUtf8-nil, IsUtf8-append, IsUtf8-encode, encode_ascii, digit_value_digit}
use Rattle.httparse.specs.Ascii.{space}
use Rattle.httparse.specs.Grammar
use Rattle.httparse.specs.Grammar.{is_token_byte, is_uri_byte, AllPass, IsToken, LineEnd, lf, print_blank, print_version, print_end, print_section, print_reason, IsField, RequestHead as RequestSyntax, IsRequestHead, ReadsRequest, print_request, MayBecomeRequest, ResponseHead as ResponseSyntax, IsResponseHead, ReadsResponse, print_response, MayBecomeResponse, status_code}
use Rattle.httparse.proofs.PieceLemmas.{space_ends_token, Stops_token}
use Rattle.httparse.proofs.GrammarLemmas.{cons-append, print_request-append, print_response-append}
use Rattle.hc_head.specs.declared.head.ResponseHead.{ResponseHead}
use Rattle.hc_head.specs.Heads.{BeginsRequestHead, request_head_of, BeginsResponseHead, response_head_of}
use Rattle.hc_head.specs.Reading.{CanBecomeHead}
use Rattle.hc_head.specs.Unfinished.{behind_blank, behind_space, has_low_status, MayBecomeText, NeverText, target_begun, HasHopelessTarget, MayHaveTarget}
use Rattle.hc_head.proofs.TextLemmas.{in_range}
use Rattle.hc_head.proofs.FrontLemmas.{one_begins, behind_blank-print, behind_blank-append, behind_space-word, behind_space-none, has_no_space, has_space, front_passes}

-- ---- requests

pub tells_of_target : (octets target : List ℕ) (may : Bool) → target ≡ target_begun octets → list_any (λ b. b == space) target ≡ false
    → MatchBool may (MayBecomeText target) (NeverText target) → MatchBool (not may) (HasHopelessTarget octets) (MayHaveTarget octets)
tells_of_target octets target true is ended tells = inr (subst MayBecomeText is tells)
tells_of_target octets target false is ended tells = (ap (list_any (λ b. b == space)) (sym is) ∙ ended, subst NeverText is tells)

-- text is no hopeless target
not_hopeless : (t : List ℕ) → IsUtf8 t → NeverText t → ⊥
not_hopeless t text never = never [] (subst IsUtf8 (sym (append-nil t)) text)

some_target : (octets : List ℕ) → NeverText (target_begun octets) → 0 < length (target_begun octets)
some_target octets never = ⊎_elim
    (λ none. absurd (not_hopeless [] IsUtf8-nil (subst NeverText (nil_from_length (target_begun octets) (omega arith)) never)))
    (λ some. some) (cases_lt (length (target_begun octets)) 1)

-- a target that begins with the hopeless one
no_target : (t target rest more : List ℕ) → list_any (λ b. b == space) t ≡ false → NeverText t → IsUtf8 target → t ++ more ≡ target ++ 32 ∷ rest → ⊥
no_target t target rest more ended never text e = ⊎_elim
    (λ w. past w.0 w.1 w.2)
    (λ w. never w.0 (subst IsUtf8 w.2 text))
    (one_begins t target more (32 ∷ rest) e)
  where
    past : (k : List ℕ) → t ≡ target ++ k → 32 ∷ rest ≡ k ++ more → ⊥
    past [] is goes = not_hopeless target text (subst NeverText (is ∙ append-nil target) never)
    past (b ∷ k) is goes =
        let at : 32 ≡ b = cc in
        let spaced = has_space target k in
        false≢true (sym ended ∙ ap (list_any (λ v. v == space)) (is ∙ ap (λ (v : ℕ). target ++ v ∷ k) (sym at)) ∙ spaced)

-- behind the empty lines no method and target follow
no_line : (line method target rest more : List ℕ) → AllPass is_token_byte method → IsUtf8 target → list_any (λ b. b == space) (behind_space line) ≡ false
    → NeverText (behind_space line) → 0 < length (behind_space line) → line ++ more ≡ method ++ 32 ∷ (target ++ 32 ∷ rest) → ⊥
no_line line method target rest more token text ended never some e = ⊎_elim
    (λ w. past w.0 w.1 w.2)
    (λ w. absurd (omega (arith, some, ap length (behind_space-none is_token_byte space_ends_token line (front_passes is_token_byte line w.0 (subst (AllPass is_token_byte) w.2 token))))))
    (one_begins line method more (32 ∷ (target ++ 32 ∷ rest)) e)
  where
    past : (k : List ℕ) → line ≡ method ++ k → 32 ∷ (target ++ 32 ∷ rest) ≡ k ++ more → ⊥
    past [] is goes =
        let none = ap behind_space (is ∙ append-nil method) ∙ behind_space-none is_token_byte space_ends_token method token in
        omega (arith, some, ap length none)
    past (b ∷ k) is goes =
        let at : 32 ≡ b = cc in
        let begun : behind_space line ≡ k =
        ap behind_space (is ∙ ap (λ (v : ℕ). method ++ v ∷ k) (sym at)) ∙ behind_space-word is_token_byte space_ends_token method k token in
        let goes_on : target ++ 32 ∷ rest ≡ k ++ more = cc in
        no_target k target rest more (ap (list_any (λ v. v == space)) (sym begun) ∙ ended) (subst NeverText begun never) text (sym goes_on)

pub never_request : (octets : List ℕ) → HasHopelessTarget octets → Grammar.NeverHasRequest octets
never_request octets hopeless more h rest reads =
    let line = behind_blank octets in
    let some_behind = some_target octets hopeless.1 in
    let some : 0 < length line = some_line line some_behind in
    let behind = h.target ++ 32 ∷ (print_version h.minor ++ (print_end h.line_end ++ (print_section h.fields h.last ++ rest))) in
    let whole : octets ++ more ≡ print_blank h.blank ++ (h.method ++ 32 ∷ behind) = reads.1 ∙ print_request-append h rest in
    let stops = Stops_token h.method (32 ∷ behind) reads.0.method.0 reads.0.method.1 in
    let e : line ++ more ≡ h.method ++ 32 ∷ behind =
    sym (behind_blank-append octets more some) ∙ ap behind_blank whole ∙ behind_blank-print h.blank (h.method ++ 32 ∷ behind) stops in
    no_line line h.method h.target _ more reads.0.method.1 reads.0.target_text hopeless.0 hopeless.1 some_behind e
  where
    some_line : (l : List ℕ) → 0 < length (behind_space l) → 0 < length l
    some_line [] some = some
    some_line (b ∷ l) some = omega arith

-- a head of the grammar is a head
request_begins : (octets : List ℕ) (h : RequestSyntax) → ReadsRequest octets h [] → BeginsRequestHead octets (request_head_of h) (length octets)
request_begins octets h reads = record {
  syntax = h;
  rest = [];
  reads = reads;
  len_is = ap length (reads.1 ∙ append-nil (print_request h));
  head_is = refl;
}

-- the target goes on to be text, and by a slash, so that it isn't empty; then its line and the head end
whole_target : (blank : List LineEnd) (method t : List ℕ) → IsToken method → AllPass is_uri_byte t → MayBecomeText t
    → CanBecomeHead BeginsRequestHead (print_blank blank ++ method ++ 32 ∷ t)
whole_target blank method t token visible may =
    let target = (t ++ may.0) ++ 47 ∷ [] in
    let h : RequestSyntax = record { blank = blank; method = method; target = target; minor = 1; line_end = lf; fields = []; last = lf } in
    let visible_all = All-append (λ v. is_uri_byte v ≡ true) t may.0 visible may.1 in
    let is : IsRequestHead h = record {
      method = token;
      target = (omega (arith, length-append (t ++ may.0) (47 ∷ [])), All-append (λ v. is_uri_byte v ≡ true) (t ++ may.0) (47 ∷ []) visible_all (All-cons (λ v. is_uri_byte v ≡ true) 47 [] refl (All-nil (λ v. is_uri_byte v ≡ true))));
      target_text = IsUtf8-append (t ++ may.0) (47 ∷ []) may.2 (subst IsUtf8 (encode_ascii 47 (omega arith)) (IsUtf8-encode 47 refl));
      minor = omega arith;
      fields = All-nil IsField;
    } in
    let tail = 47 ∷ 32 ∷ (print_version 1 ++ 10 ∷ 10 ∷ []) in
    let octets = print_blank blank ++ method ++ 32 ∷ t in
    let whole : octets ++ (may.0 ++ tail) ≡ print_request h ++ [] =
    regroup (print_blank blank) method t may.0 (print_version 1 ++ 10 ∷ 10 ∷ []) ∙ sym (print_request-append h []) in
    (may.0 ++ tail, request_head_of h, request_begins (octets ++ (may.0 ++ tail)) h (is, whole))
  where
    regroup : (b m t k r : List ℕ) → (b ++ m ++ 32 ∷ t) ++ (k ++ 47 ∷ 32 ∷ r) ≡ b ++ (m ++ 32 ∷ (((t ++ k) ++ 47 ∷ []) ++ 32 ∷ r))
    regroup b m t k r = simp (append_assoc, cons-append)

pub can_request : (octets : List ℕ) → MayBecomeRequest octets → MayHaveTarget octets → CanBecomeHead BeginsRequestHead octets
can_request octets (inl whole) have =
    (whole.0, request_head_of whole.1, request_begins (octets ++ whole.0) whole.1 whole.2)
can_request octets (inr ends) have =
    let blank = ends.0 in
    let method = ends.1 in
    let t = ends.2 in
    let stops = Stops_token method (32 ∷ t) ends.3.0 ends.3.1 in
    let line : behind_blank octets ≡ method ++ 32 ∷ t =
    ap behind_blank (ends.5 ∙ append_assoc (print_blank blank) method (32 ∷ t)) ∙ behind_blank-print blank (method ++ 32 ∷ t) stops in
    let begun : target_begun octets ≡ t = ap behind_space line ∙ behind_space-word is_token_byte space_ends_token method t ends.3.1 in
    ⊎_elim
    (λ ended. absurd (false≢true (sym (has_no_space is_uri_byte refl t ends.4) ∙ ap (list_any (λ b. b == space)) (sym begun) ∙ ended)))
    (λ may. subst (CanBecomeHead BeginsRequestHead) (sym ends.5) (whole_target blank method t ends.3 ends.4 (subst MayBecomeText begun may)))
    have

-- ---- responses

digit_value_of : (b : ℕ) → is_ascii_digit b ≡ true → digit_value b + 48 ≡ b
digit_value_of b digit = digit_value_digit b (in_range 48 57 b digit)

-- three digits of which the first is 0, and of which it isn't
low_value : (digits rest : List ℕ) → length digits ≡ 3 → AllPass is_ascii_digit digits → slice_index (digits ++ rest) 0 ≡ 48 → digits_value 10 digits < 100
low_value [] rest three all low = absurd (omega arith)
low_value (a ∷ []) rest three all low = absurd (omega arith)
low_value (a ∷ b ∷ []) rest three all low = absurd (omega arith)
low_value (a ∷ b ∷ d ∷ []) rest three all low =
    let first = digit_value_of a (all 0 0 (omega arith)) in
    let second = digit_value_of b (all 1 0 (omega arith)) in
    let third = digit_value_of d (all 2 0 (omega arith)) in
    let most_b = in_range 48 57 b (all 1 0 (omega arith)) in
    let most_d = in_range 48 57 d (all 2 0 (omega arith)) in
    let value : digits_value 10 (a ∷ b ∷ d ∷ []) ≡ ((0 * 10 + digit_value a) * 10 + digit_value b) * 10 + digit_value d = refl in
    rw value (omega arith)
low_value (a ∷ b ∷ d ∷ v ∷ digits) rest three all low = absurd (omega arith)

high_value : (digits rest : List ℕ) → length digits ≡ 3 → AllPass is_ascii_digit digits → ¬ (slice_index (digits ++ rest) 0 ≡ 48) → 100 ≤ digits_value 10 digits
high_value [] rest three all high = absurd (omega arith)
high_value (a ∷ []) rest three all high = absurd (omega arith)
high_value (a ∷ b ∷ []) rest three all high = absurd (omega arith)
high_value (a ∷ b ∷ d ∷ []) rest three all high =
    let first = digit_value_of a (all 0 0 (omega arith)) in
    let least = in_range 48 57 a (all 0 0 (omega arith)) in
    let not_zero : ¬ (a ≡ 48) = high in
    let value : digits_value 10 (a ∷ b ∷ d ∷ []) ≡ ((0 * 10 + digit_value a) * 10 + digit_value b) * 10 + digit_value d = refl in
    rw value (omega arith)
high_value (a ∷ b ∷ d ∷ v ∷ digits) rest three all high = absurd (omega arith)

-- the ninth octet behind the empty lines is the first digit
first_digit : (octets more : List ℕ) (blank : List LineEnd) (minor : ℕ) (behind : List ℕ) → 9 < length (behind_blank octets)
    → octets ++ more ≡ print_blank blank ++ (print_version minor ++ 32 ∷ behind) → slice_index (behind_blank octets) 9 ≡ slice_index behind 0
first_digit octets more blank minor behind long whole =
    let line = behind_blank octets in
    let e : line ++ more ≡ print_version minor ++ 32 ∷ behind =
    sym (behind_blank-append octets more (omega arith)) ∙ ap behind_blank whole ∙ behind_blank-print blank (print_version minor ++ 32 ∷ behind) refl in
    sym (get_or_append_left line more 0 9 long) ∙ ap (λ (l : List ℕ). slice_index l 9) e

long_of_low : (line : List ℕ) → slice_index line 9 ≡ 48 → 9 < length line
long_of_low line low = ⊎_elim (λ long. long) (λ short. absurd (omega (arith, low, get_or_past line 9 0 short))) (cases_lt 9 (length line))

pub never_response : (octets : List ℕ) → has_low_status octets ≡ true → (more : List ℕ) (head : ResponseHead) (len : ℕ) → ¬ (BeginsResponseHead (octets ++ more) head len)
never_response octets told more head len begins =
    let h = begins.syntax in
    let low : slice_index (behind_blank octets) 9 ≡ 48 = eqb-true _ 48 told in
    let behind = print_reason h.reason ++ (print_end h.line_end ++ (print_section h.fields h.last ++ begins.rest)) in
    let first = first_digit octets more h.blank h.minor (h.digits ++ behind) (long_of_low (behind_blank octets) low) (begins.reads.1 ∙ print_response-append h begins.rest) in
    let value = low_value h.digits behind begins.reads.0.digits.0 begins.reads.0.digits.1 (sym first ∙ low) in
    omega (arith, value, begins.has_status, ap (λ (r : ResponseHead). r.status) begins.head_is)

response_begins : (octets : List ℕ) (h : ResponseSyntax) → ReadsResponse octets h [] → 100 ≤ status_code h → BeginsResponseHead octets (response_head_of h) (length octets)
response_begins octets h reads status = record {
  syntax = h;
  rest = [];
  reads = reads;
  len_is = ap length (reads.1 ∙ append-nil (print_response h));
  head_is = refl;
  has_status = status;
}

-- the octets of a status line before its digits
abbrev before_digits : ResponseSyntax → List ℕ
before_digits h = print_blank h.blank ++ (print_version h.minor ++ 32 ∷ [])

-- what stands behind the digits
abbrev behind_digits : ResponseSyntax → List ℕ
behind_digits h = print_reason h.reason ++ (print_end h.line_end ++ (print_section h.fields h.last ++ []))

printed_around : (h : ResponseSyntax) → print_response h ++ [] ≡ before_digits h ++ (h.digits ++ behind_digits h)
printed_around h = print_response-append h [] ∙ regroup (print_blank h.blank) (print_version h.minor) (h.digits ++ behind_digits h)
  where
    regroup : (b v d : List ℕ) → b ++ (v ++ 32 ∷ d) ≡ (b ++ (v ++ 32 ∷ [])) ++ d
    regroup b v d = simp (append_assoc, cons-append)

of_hundred : AllPass is_ascii_digit (49 ∷ 48 ∷ 48 ∷ [])
of_hundred =
    let P : ℕ → Type 0 = λ b. is_ascii_digit b ≡ true in
    All-cons P 49 (48 ∷ 48 ∷ []) refl (All-cons P 48 (48 ∷ []) refl (All-cons P 48 [] refl (All-nil P)))

-- before its digits a status line may still say 100
with_status : (octets k : List ℕ) (h : ResponseSyntax) → IsResponseHead h → octets ++ k ≡ before_digits h → CanBecomeHead BeginsResponseHead octets
with_status octets k h is e =
    let digits = 49 ∷ 48 ∷ 48 ∷ [] in
    let other : ResponseSyntax = record h { digits = digits } in
    let valid : IsResponseHead other = record { minor = is.minor; digits = (refl, of_hundred); reason = is.reason; fields = is.fields } in
    let more = k ++ (digits ++ behind_digits h) in
    let whole : octets ++ more ≡ print_response other ++ [] =
    sym (append_assoc octets k (digits ++ behind_digits h)) ∙ ap (λ (l : List ℕ). l ++ (digits ++ behind_digits h)) e ∙ sym (printed_around other) in
    (more, response_head_of other, response_begins (octets ++ more) other (valid, whole) (omega arith))

pub can_response : (octets : List ℕ) → MayBecomeResponse octets → has_low_status octets ≡ false → CanBecomeHead BeginsResponseHead octets
can_response octets may told =
    let h = may.1 in
    let reads = may.2 in
    ⊎_elim
    (λ w. within w.0 w.1)
    (λ w. with_status octets w.0 h reads.0 (sym w.2))
    (one_begins octets (before_digits h) may.0 (h.digits ++ behind_digits h) (reads.1 ∙ printed_around h))
  where
    within : (k : List ℕ) → octets ≡ before_digits may.1 ++ k → CanBecomeHead BeginsResponseHead octets
    within [] is = with_status octets [] may.1 may.2.0 (append-nil octets ∙ is ∙ append-nil (before_digits may.1))
    within (b ∷ k) is =
        let h = may.1 in
        let behind = (print_version h.minor ++ 32 ∷ []) ++ b ∷ k in
        let line : behind_blank octets ≡ behind =
        ap behind_blank (is ∙ append_assoc (print_blank h.blank) (print_version h.minor ++ 32 ∷ []) (b ∷ k)) ∙ behind_blank-print h.blank behind refl in
        let long : 9 < length (behind_blank octets) = omega (arith, ap length line) in
        let first = first_digit octets may.0 h.blank h.minor (h.digits ++ behind_digits h) long (may.2.1 ∙ print_response-append h []) in
        let high : ¬ (slice_index (h.digits ++ behind_digits h) 0 ≡ 48) = λ zero. eqb-false (slice_index (behind_blank octets) 9) 48 told (first ∙ zero) in
        let value = high_value h.digits (behind_digits h) may.2.0.digits.0 may.2.0.digits.1 high in
        (may.0, response_head_of h, response_begins (octets ++ may.0) h may.2 value)
