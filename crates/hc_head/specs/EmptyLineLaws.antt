-- The laws of the search: it goes on from where it stands, and a head ends with its first empty line.
use Rattle.std.specs.Prelude.{◌≢◌}
use Rattle.std.proofs.Common.{◌≡◌, ℕ, ◌+◌, ◌<◌, ◌≤◌, Bool, true, false, cond, List, [], ◌∷◌, ◌++◌, length, take, drop, All, Option, Some, None, refl, sym, ap, subst, ◌∙◌, arith, ⊎_elim, append_assoc, length-append}
use Rattle.std.specs.Char.{is_ascii_digit}
use Rattle.std.specs.List.{flat_map}
use Rattle.std.proofs.lemmas.Bool.{false≢true, ne_eqb, cases_lt}
use Rattle.std.proofs.lemmas.List.{take-append-drop, take-append-le, take_at}
use Rattle.std.proofs.lemmas.List.Elements.{All-head, All-tail}
use Rattle.std.proofs.lemmas.List.Folds.{fold_stays}
use Rattle.std.proofs.lemmas.List.Sums.{fold-append}
use Rattle.httparse.specs.Grammar.{is_token_byte, is_uri_byte, is_value_byte, AllPass, LineEnd, crlf, lf, print_end, print_blank, print_version, Field, IsField, print_field, print_section, print_reason, reason_phrase, RequestHead, IsRequestHead, print_request, ResponseHead, IsResponseHead, print_response}
use Rattle.hc_head.specs.declared.empty_line.Search.{Search}
use Rattle.hc_head.specs.declared.empty_line.Search.TheVariants.{Blank, Line, Start, Return, Found}
use Rattle.hc_head.specs.EmptyLine.{search_after, searched}

-- ---- the search alone

-- it goes on from where it stands
pub searched-append : (from : Search) (front rest : List ℕ) → searched from (front ++ rest) ≡ searched (searched from front) rest
searched-append from front rest = fold-append search_after from front rest

-- what has been found stays found
pub searched_found : (octets : List ℕ) → searched Found octets ≡ Found
searched_found octets = fold_stays search_after Found (λ _. refl) octets

-- by this it has come from one place to another
through : (from to onto : Search) (front rest : List ℕ) → searched from front ≡ to → searched to rest ≡ onto → searched from (front ++ rest) ≡ onto
through from to onto front rest first second =
    searched-append from front rest ∙ ap (λ (s : Search). searched s rest) first ∙ second

-- what a front has found, all of the octets have
pub found_goes_on : (from : Search) (octets : List ℕ) (n : ℕ) → searched from (take n octets) ≡ Found → searched from octets ≡ Found
found_goes_on from octets n found =
    ap (searched from) (sym (take-append-drop n octets)) ∙ through from Found Found (take n octets) (drop n octets) found (searched_found (drop n octets))

-- two fronts that are the first to find it are of one length
pub one_first : (from : Search) (octets : List ℕ) (m n : ℕ) → searched from (take m octets) ≡ Found → searched from (take n octets) ≡ Found
    → ((k : ℕ) → k < m → searched from (take k octets) ≢ Found) → ((k : ℕ) → k < n → searched from (take k octets) ≢ Found) → m ≡ n
one_first from octets m n found_m found_n first_m first_n =
    ⊎_elim (λ less. absurd (first_n m less found_m))
    (λ more. ⊎_elim (λ less. absurd (first_m n less found_n)) (λ same. omega (arith, more, same)) (cases_lt n m)) (cases_lt m n)

-- ---- lines

stays_in_line : (b : ℕ) → b ≢ 10 → search_after Line b ≡ Line
stays_in_line b no_feed = ap (λ t. cond t Start Line) (ne_eqb b 10 no_feed)

opens_from_blank : (b : ℕ) → b ≢ 10 → b ≢ 13 → search_after Blank b ≡ Line
opens_from_blank b no_feed no_return = rw (ne_eqb b 10 no_feed, ne_eqb b 13 no_return)

opens_from_start : (b : ℕ) → b ≢ 10 → b ≢ 13 → search_after Start b ≡ Line
opens_from_start b no_feed no_return = rw (ne_eqb b 10 no_feed, ne_eqb b 13 no_return)

-- what passes a test that an octet fails is not that octet
differs : (test : ℕ → Bool) (stop b : ℕ) → test stop ≡ false → test b ≡ true → b ≢ stop
differs test stop b fails passes same = false≢true (sym fails ∙ ap test (sym same) ∙ passes)

-- octets without LF stay in a line
in_line : (test : ℕ → Bool) → test 10 ≡ false → (text : List ℕ) → AllPass test text → searched Line text ≡ Line
in_line test no_feed [] all = refl
in_line test no_feed (b ∷ text) all =
    ap (λ (s : Search). searched s text) (stays_in_line b (differs test 10 b no_feed (All-head (λ v. test v ≡ true) b text all)))
    ∙ in_line test no_feed text (All-tail (λ v. test v ≡ true) b text all)

-- a word opens a line
opens_line : (from : Search) → ((b : ℕ) → b ≢ 10 → b ≢ 13 → search_after from b ≡ Line)
    → (test : ℕ → Bool) → test 10 ≡ false → test 13 ≡ false → (word : List ℕ) → 0 < length word → AllPass test word → searched from word ≡ Line
opens_line from opens test no_feed no_return [] some all = absurd (omega (arith, some))
opens_line from opens test no_feed no_return (b ∷ word) some all =
    let passes = All-head (λ v. test v ≡ true) b word all in
    ap (λ (s : Search). searched s word) (opens b (differs test 10 b no_feed passes) (differs test 13 b no_return passes))
    ∙ in_line test no_feed word (All-tail (λ v. test v ≡ true) b word all)

token_has_no_feed : is_token_byte 10 ≡ false
unfolding is_token_byte
token_has_no_feed = refl

token_has_no_return : is_token_byte 13 ≡ false
unfolding is_token_byte
token_has_no_return = refl

-- a line end in a line, and one at the start of a line
ends_line : (end : LineEnd) → searched Line (print_end end) ≡ Start
ends_line crlf = refl
ends_line lf = refl

ends_head : (end : LineEnd) → searched Start (print_end end) ≡ Found
ends_head crlf = refl
ends_head lf = refl

stays_blank : (ends : List LineEnd) → searched Blank (print_blank ends) ≡ Blank
stays_blank [] = refl
stays_blank (crlf ∷ ends) = stays_blank ends
stays_blank (lf ∷ ends) = stays_blank ends

over_field : (f : Field) → IsField f → searched Start (print_field f) ≡ Start
over_field f is =
    through Start Line Start (f.name ++ 58 ∷ f.raw) (print_end f.end)
    (through Start Line Line f.name (58 ∷ f.raw)
    (opens_line Start opens_from_start is_token_byte token_has_no_feed token_has_no_return f.name is.name.0 is.name.1)
    (in_line is_value_byte refl f.raw is.raw))
    (ends_line f.end)

over_fields : (fields : List Field) → All IsField fields → searched Start (flat_map print_field fields) ≡ Start
over_fields [] all = refl
over_fields (f ∷ fields) all =
    through Start Start Start (print_field f) (flat_map print_field fields)
    (over_field f (All-head IsField f fields all)) (over_fields fields (All-tail IsField f fields all))

-- ---- heads

-- the text ends where its first empty line does
pub record EndsAtEmptyLine (text : List ℕ) : Type 0 where
  pub front : List ℕ
  pub text_is : text ≡ front ++ 10 ∷ []
  pub not_yet : searched Blank front ≢ Found
  pub found : searched Blank text ≡ Found

start_is_not_found : (s : Search) → s ≡ Start → s ≢ Found
start_is_not_found s is e = cc

return_is_not_found : (s : Search) → s ≡ Return → s ≢ Found
return_is_not_found s is e = cc

-- lines, and the empty line behind them
ends_behind : (lines : List ℕ) → searched Blank lines ≡ Start → (last : LineEnd) → EndsAtEmptyLine (lines ++ print_end last)
ends_behind lines start crlf = record {
  front = lines ++ 13 ∷ [];
  text_is = sym (append_assoc lines (13 ∷ []) (10 ∷ []));
  not_yet = return_is_not_found _ (through Blank Start Return lines (13 ∷ []) start refl);
  found = through Blank Start Found lines (print_end crlf) start refl;
}
ends_behind lines start lf = record {
  front = lines;
  text_is = refl;
  not_yet = start_is_not_found _ start;
  found = through Blank Start Found lines (print_end lf) start refl;
}

-- fields and the empty line behind a start line
ends_with_section : (line : List ℕ) → searched Blank line ≡ Start → (fields : List Field) → All IsField fields → (last : LineEnd)
    → EndsAtEmptyLine (line ++ print_section fields last)
ends_with_section line start fields all last =
    let lines = line ++ flat_map print_field fields in
    subst EndsAtEmptyLine (append_assoc line (flat_map print_field fields) (print_end last))
    (ends_behind lines (through Blank Start Start line (flat_map print_field fields) start (over_fields fields all)) last)

over_version : (minor : ℕ) → searched Line (print_version minor) ≡ Line
over_version minor = stays_in_line (48 + minor) (λ e. omega (arith, e))

pub request_ends : (h : RequestHead) → IsRequestHead h → EndsAtEmptyLine (print_request h)
unfolding print_request
request_ends h is =
    let opened = through Blank Blank Line (print_blank h.blank) h.method (stays_blank h.blank)
    (opens_line Blank opens_from_blank is_token_byte token_has_no_feed token_has_no_return h.method is.method.0 is.method.1) in
    let method = print_blank h.blank ++ h.method in
    let target = method ++ 32 ∷ h.target in
    let version = target ++ 32 ∷ print_version h.minor in
    let targeted = through Blank Line Line method (32 ∷ h.target) opened (in_line is_uri_byte refl h.target is.target.1) in
    let versioned = through Blank Line Line target (32 ∷ print_version h.minor) targeted (over_version h.minor) in
    let ended = through Blank Line Start version (print_end h.line_end) versioned (ends_line h.line_end) in
    ends_with_section (version ++ print_end h.line_end) ended h.fields is.fields h.last

over_reason : (reason : Option (List ℕ)) → AllPass is_value_byte (reason_phrase reason) → searched Line (print_reason reason) ≡ Line
over_reason None all = refl
over_reason (Some phrase) all = in_line is_value_byte refl phrase all

pub response_ends : (h : ResponseHead) → IsResponseHead h → EndsAtEmptyLine (print_response h)
unfolding print_response
response_ends h is =
    let opened = through Blank Blank Line (print_blank h.blank) (print_version h.minor) (stays_blank h.blank) (over_version h.minor) in
    let version = print_blank h.blank ++ print_version h.minor in
    let code = version ++ 32 ∷ h.digits in
    let reason = code ++ print_reason h.reason in
    let coded = through Blank Line Line version (32 ∷ h.digits) opened (in_line is_ascii_digit refl h.digits is.digits.1) in
    let reasoned = through Blank Line Line code (print_reason h.reason) coded (over_reason h.reason is.reason) in
    let ended = through Blank Line Start reason (print_end h.line_end) reasoned (ends_line h.line_end) in
    ends_with_section (reason ++ print_end h.line_end) ended h.fields is.fields h.last

-- ---- what begins octets

pub found_at_end : (octets text rest : List ℕ) (n : ℕ) → octets ≡ text ++ rest → n ≡ length text → EndsAtEmptyLine text
    → searched Blank (take n octets) ≡ Found
found_at_end octets text rest n octets-are n-is ends =
    let taken : take n octets ≡ text = ap (take n) octets-are ∙ take_at text rest n (sym n-is) in
    ap (searched Blank) taken ∙ ends.found

pub not_found_before : (octets text rest : List ℕ) (n : ℕ) → octets ≡ text ++ rest → n ≡ length text → EndsAtEmptyLine text
    → (k : ℕ) → k < n → searched Blank (take k octets) ≢ Found
not_found_before octets text rest n octets-are n-is ends k less found =
    let within : k ≤ length ends.front = omega (arith, less, n-is, ap length ends.text_is, length-append ends.front (10 ∷ [])) in
    let whole : octets ≡ ends.front ++ 10 ∷ rest =
    octets-are ∙ ap (λ (t : List ℕ). t ++ rest) ends.text_is ∙ append_assoc ends.front (10 ∷ []) rest in
    let taken : take k octets ≡ take k ends.front = ap (take k) whole ∙ take-append-le k ends.front (10 ∷ rest) within in
    let here : searched Blank (take k ends.front) ≡ Found = ap (searched Blank) (sym taken) ∙ found in
    ends.not_yet (ap (searched Blank) (sym (take-append-drop k ends.front))
    ∙ through Blank Found Found (take k ends.front) (drop k ends.front) here (searched_found (drop k ends.front)))
