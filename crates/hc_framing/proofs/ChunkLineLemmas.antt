-- A chunk line is read in one way, whatever follows it.
use Rattle.std.proofs.Common.{◌≡◌, ◌≢◌, ℕ, ◌+◌, ◌-◌, ◌*◌, ◌^◌, ◌≤◌, pow-add, ◌<◌, Bool, true, false, cond, eqb, List, [], ◌∷◌, ◌++◌, Option, Some, None, length, get_or, take, drop, refl, sym, ap, subst, ◌∙◌, arith, append_assoc, length-append, length-take}
use Rattle.std.specs.Prelude.{nat_lt, option_and_then}
use Rattle.std.specs.Char.{is_ascii_hexdigit, digit_value}
use Rattle.std.specs.List.{AllPass}
use Rattle.std.specs.Str.Parse.{digits_value, digits_value_after}
use Rattle.std.proofs.Math.Nat.{pow-le-pow_right}
use Rattle.std.proofs.lemmas.Bool.{lt-ltb, ltb-true, eqb-true}
use Rattle.std.proofs.lemmas.Bool.Decides.{nat_tests}
use Rattle.std.proofs.lemmas.Int.Digits.{digits_value_push}
use Rattle.std.proofs.lemmas.List.{append-nil, append_cancel_right, take-append-drop, take_more}
use Rattle.std.proofs.Math.Seq.{take-append-add}
use Rattle.std.proofs.lemmas.List.Elements.{All-head, All-tail, All-push, All-cons, All-nil}
use Rattle.hc_framing.specs.declared.chunk_line.LineStage.{LineStage}
use Rattle.hc_framing.specs.declared.chunk_line.LineStage.TheVariants.{Start, Digits, Padding, Extension, CarriageReturn, End}
use Rattle.hc_framing.specs.declared.chunk_line.ChunkLineReader.{ChunkLineReader}
use Rattle.hc_fields.specs.Lists.{is_blank}
use Rattle.hc_framing.specs.ChunkLines.{ChunkLine, line_end, extension_text, chunk_line_text, is_extension_octet, IsExtension, IsChunkLine, BeginsChunkLine, HasNoChunkLine, NeverHasChunkLine, CanBecomeChunkLine}
use Rattle.hc_framing.specs.ChunkLineReading.{stage_behind_digits, stage_after, most_octets, Place, size_with, place_after, last_stage, LeadsIn, Leads, place_of, AgreesLine}

-- ---- the value of the digits fits

-- one more digit stays below the next power
pub digit_more : (size digit len : ℕ) → size < 16 ^ len → digit < 16 → size * 16 + digit < 16 ^ (len + 1)
digit_more size digit len below small = omega (arith, pow-add 16 len 1)

-- 16 digits fit 64 bits
pub digit_fits : (size digit len : ℕ) → size < 16 ^ len → digit < 16 → len < 16 → size * 16 + digit < 2 ^ 64
digit_fits size digit len below small room =
    let top : 16 ^ (len + 1) ≤ 2 ^ 64 = pow-le-pow_right {n = 16} (omega arith) {j = 16} (omega arith) in
    omega (arith, digit_more size digit len below small)

pub size_kept : (size len : ℕ) → size < 16 ^ len → size < 16 ^ (len + 1)
size_kept size len below = omega (arith, pow-add 16 len 1)

-- ---- a run over octets

-- where a run stands: it waits for more, it has found the size with octets left, or no line goes on so
data Outcome : Type 0 where
  reading : Place → Outcome
  done : ℕ → List ℕ → Outcome
  failed : Outcome

abbrev at : LineStage → Outcome → Outcome → Outcome
at End whole on = whole
at _ whole on = on

abbrev behind : Option Place → List ℕ → (Place → Outcome) → Outcome
behind None rest on = failed
behind (Some place) rest on = at place.stage (done place.size rest) (on place)

run : List ℕ → Place → Outcome
run [] place = reading place
run (c ∷ cs) place = behind (place_after place c) cs (run cs)

at-on : (stage : LineStage) (whole on : Outcome) → stage ≢ End → at stage whole on ≡ on
at-on Start whole on more = refl
at-on Digits whole on more = refl
at-on Padding whole on more = refl
at-on Extension whole on more = refl
at-on CarriageReturn whole on more = refl
at-on End whole on more = absurd (more refl)

at-whole : (stage : LineStage) (whole on : Outcome) → stage ≡ End → at stage whole on ≡ whole
at-whole stage whole on end = ap (λ (s : LineStage). at s whole on) end

run-goes : (c : ℕ) (cs : List ℕ) (place next : Place) → place_after place c ≡ Some next → next.stage ≢ End → run (c ∷ cs) place ≡ run cs next
unfolding run
run-goes c cs place next e more = ap (λ (o : Option Place). behind o cs (run cs)) e ∙ at-on next.stage _ _ more

run-ends : (c : ℕ) (cs : List ℕ) (place next : Place) → place_after place c ≡ Some next → next.stage ≡ End → run (c ∷ cs) place ≡ done next.size cs
unfolding run
run-ends c cs place next e end = ap (λ (o : Option Place). behind o cs (run cs)) e ∙ at-whole next.stage _ _ end

run-fails : (c : ℕ) (cs : List ℕ) (place : Place) → place_after place c ≡ None → run (c ∷ cs) place ≡ failed
unfolding run
run-fails c cs place e = ap (λ (o : Option Place). behind o cs (run cs)) e

run-nil : (place : Place) → run [] place ≡ reading place
unfolding run
run-nil place = refl

abbrev place_at : LineStage → ℕ → ℕ → Place
place_at stage size len = record { stage = stage; size = size; len = len }

-- an octet that leads to a stage with room for it
steps : (place : Place) (c : ℕ) (stage : LineStage) → stage_after place.stage c ≡ Some stage → place.len < most_octets stage
    → place_after place c ≡ Some (place_at stage (size_with stage place.size c) (place.len + 1))
steps place c stage e lt =
    let t = lt-ltb place.len (most_octets stage) lt in
    rw (e, t)

-- ---- a run over the parts of a line

-- octets that keep the stage and the size
module _ (stage : LineStage) (test : ℕ → Bool) (more : stage ≢ End) (keeps : (c : ℕ) → test c ≡ true → stage_after stage c ≡ Some stage) (same : (size c : ℕ) → size_with stage size c ≡ size) where
  run-kept : (octets rest : List ℕ) (size len : ℕ) → AllPass test octets → len + length octets ≤ most_octets stage
      → run (octets ++ rest) (place_at stage size len) ≡ run rest (place_at stage size (len + length octets))
  run-kept [] rest size len pass room = ap (λ (n : ℕ). run rest (place_at stage size n)) (omega arith)
  run-kept (c ∷ cs) rest size len pass room =
      run-goes c (cs ++ rest) (place_at stage size len) (place_at stage (size_with stage size c) (len + 1))
      (steps (place_at stage size len) c stage (keeps c (All-head (λ x. test x ≡ true) c cs pass)) (omega arith)) more
      ∙ ap (λ (n : ℕ). run (cs ++ rest) (place_at stage n (len + 1))) (same size c)
      ∙ run-kept cs rest size (len + 1) (All-tail (λ x. test x ≡ true) c cs pass) (omega arith)
      ∙ ap (λ (n : ℕ). run rest (place_at stage size n)) (omega arith)

run-digits : (digits rest : List ℕ) (size len : ℕ) → AllPass is_ascii_hexdigit digits → len + length digits ≤ 16
    → run (digits ++ rest) (place_at Digits size len) ≡ run rest (place_at Digits (digits_value_after 16 size digits) (len + length digits))
run-digits [] rest size len pass room = ap (λ (n : ℕ). run rest (place_at Digits size n)) (omega arith)
run-digits (c ∷ cs) rest size len pass room =
    let digit : is_ascii_hexdigit c ≡ true = All-head (λ x. is_ascii_hexdigit x ≡ true) c cs pass in
    run-goes c (cs ++ rest) (place_at Digits size len) (place_at Digits (size * 16 + digit_value c) (len + 1))
    (steps (place_at Digits size len) c Digits (rw digit) (omega arith)) (λ e. cc)
    ∙ run-digits cs rest (size * 16 + digit_value c) (len + 1) (All-tail (λ x. is_ascii_hexdigit x ≡ true) c cs pass) (omega arith)
    ∙ ap (λ (n : ℕ). run rest (place_at Digits (digits_value_after 16 size (c ∷ cs)) n)) (omega arith)

abbrev start : Place
start = place_at Start 0 0

run-first_digits : (digits rest : List ℕ) → 0 < length digits → length digits ≤ 16 → AllPass is_ascii_hexdigit digits
    → run (digits ++ rest) start ≡ run rest (place_at Digits (digits_value 16 digits) (length digits))
run-first_digits [] rest some few pass = absurd (omega (arith, some))
run-first_digits (c ∷ cs) rest some few pass =
    let digit : is_ascii_hexdigit c ≡ true = All-head (λ x. is_ascii_hexdigit x ≡ true) c cs pass in
    run-goes c (cs ++ rest) start (place_at Digits (0 * 16 + digit_value c) 1)
    (steps start c Digits (rw digit) (omega arith)) (λ e. cc)
    ∙ run-digits cs rest (0 * 16 + digit_value c) 1 (All-tail (λ x. is_ascii_hexdigit x ≡ true) c cs pass) (omega arith)
    ∙ ap (λ (n : ℕ). run rest (place_at Digits (digits_value 16 (c ∷ cs)) n)) (omega arith)

blank_leads : (c : ℕ) → is_blank c ≡ true → stage_after Digits c ≡ Some Padding
blank_leads c blank =
    let other : is_ascii_hexdigit c ≡ false = grind (arith, nat_tests) in
    rw (other, blank)

run-padding : (padding rest : List ℕ) (size len : ℕ) → AllPass is_blank padding → len + length padding ≤ 4094
    → run (padding ++ rest) (place_at Digits size len) ≡ run rest (place_at (last_stage padding None) size (len + length padding))
run-padding [] rest size len pass room = ap (λ (n : ℕ). run rest (place_at Digits size n)) (omega arith)
run-padding (c ∷ cs) rest size len pass room =
    let blank : is_blank c ≡ true = All-head (λ x. is_blank x ≡ true) c cs pass in
    run-goes c (cs ++ rest) (place_at Digits size len) (place_at Padding size (len + 1))
    (steps (place_at Digits size len) c Padding (blank_leads c blank) (omega arith)) (λ e. cc)
    ∙ run-kept Padding is_blank (λ e. cc) (λ x h. rw h) (λ n x. refl) cs rest size (len + 1) (All-tail (λ x. is_blank x ≡ true) c cs pass) (omega arith)
    ∙ ap (λ (n : ℕ). run rest (place_at Padding size n)) (omega arith)

semicolon_leads : (padding : List ℕ) → stage_after (last_stage padding None) 59 ≡ Some Extension
semicolon_leads [] = refl
semicolon_leads (p ∷ padding) = refl

run-extension : (padding : List ℕ) (extension : Option (List ℕ)) (rest : List ℕ) (size len : ℕ) → IsExtension extension → len + length (extension_text extension) ≤ 4094
    → run (extension_text extension ++ rest) (place_at (last_stage padding None) size len) ≡ run rest (place_at (last_stage padding extension) size (len + length (extension_text extension)))
run-extension padding None rest size len pass room = ap (λ (n : ℕ). run rest (place_at (last_stage padding None) size n)) (omega arith)
run-extension padding (Some text) rest size len pass room =
    run-goes 59 (text ++ rest) (place_at (last_stage padding None) size len) (place_at Extension size (len + 1))
    (steps (place_at (last_stage padding None) size len) 59 Extension (semicolon_leads padding) (omega arith)) (λ e. cc)
    ∙ run-kept Extension is_extension_octet (λ e. cc) (λ x h. rw h) (λ n x. refl) text rest size (len + 1) pass (omega arith)
    ∙ ap (λ (n : ℕ). run rest (place_at Extension size n)) (omega arith)

-- the octets of a line without its CR LF
abbrev front : ChunkLine → List ℕ
front line = line.digits ++ (line.padding ++ extension_text line.extension)

text_is : (line : ChunkLine) (rest : List ℕ) → chunk_line_text line ++ rest ≡ front line ++ (13 ∷ 10 ∷ rest)
text_is line rest = simp append_assoc

text_length : (line : ChunkLine) → length (chunk_line_text line) ≡ length (front line) + 2
text_length line = omega (arith, length-append {A = ℕ})

run-front : (line : ChunkLine) (rest : List ℕ) → IsChunkLine line
    → run (front line ++ rest) start ≡ run rest (place_at (last_stage line.padding line.extension) (digits_value 16 line.digits) (length (front line)))
run-front line rest is =
    let whole : front line ++ rest ≡ line.digits ++ (line.padding ++ (extension_text line.extension ++ rest)) = simp append_assoc in
    let size = digits_value 16 line.digits in
    let long = text_length line in
    let sum : length (front line) ≡ length line.digits + length line.padding + length (extension_text line.extension) = omega (arith, length-append {A = ℕ}) in
    ap (λ (o : List ℕ). run o start) whole
    ∙ run-first_digits line.digits _ is.some_digit is.few_digits is.digits
    ∙ run-padding line.padding _ size (length line.digits) is.padding (omega (arith, is.short))
    ∙ run-extension line.padding line.extension rest size (length line.digits + length line.padding) is.extension (omega (arith, is.short))
    ∙ ap (λ (n : ℕ). run rest (place_at (last_stage line.padding line.extension) size n)) (sym sum)

cr_leads : (padding : List ℕ) (extension : Option (List ℕ)) → stage_after (last_stage padding extension) 13 ≡ Some CarriageReturn
cr_leads padding (Some text) = refl
cr_leads [] None = refl
cr_leads (p ∷ padding) None = refl

run-cr : (line : ChunkLine) (rest : List ℕ) (size len : ℕ) → len < 4095
    → run (13 ∷ rest) (place_at (last_stage line.padding line.extension) size len) ≡ run rest (place_at CarriageReturn size (len + 1))
run-cr line rest size len room =
    run-goes 13 rest (place_at (last_stage line.padding line.extension) size len) (place_at CarriageReturn size (len + 1))
    (steps (place_at (last_stage line.padding line.extension) size len) 13 CarriageReturn (cr_leads line.padding line.extension) room) (λ e. cc)

-- a run over a chunk line finds it at its last octet
run-line : (line : ChunkLine) (rest : List ℕ) → IsChunkLine line → run (chunk_line_text line ++ rest) start ≡ done (digits_value 16 line.digits) rest
run-line line rest is =
    let size = digits_value 16 line.digits in
    let len = length (front line) in
    let long = text_length line in
    ap (λ (o : List ℕ). run o start) (text_is line rest)
    ∙ run-front line (13 ∷ 10 ∷ rest) is
    ∙ run-cr line (10 ∷ rest) size len (omega (arith, is.short))
    ∙ run-ends 10 rest (place_at CarriageReturn size (len + 1)) (place_at End size (len + 1 + 1))
    (steps (place_at CarriageReturn size (len + 1)) 10 End refl (omega (arith, is.short))) refl

-- ---- the laws of the relation

pub chunk_line-append : (octets more : List ℕ) (size len : ℕ) → BeginsChunkLine octets size len → BeginsChunkLine (octets ++ more) size len
chunk_line-append octets more size len p = record {
  line = p.line;
  rest = p.rest ++ more;
  is = p.is;
  octets_are = ap (λ (o : List ℕ). o ++ more) p.octets_are ∙ append_assoc (chunk_line_text p.line) p.rest more;
  size_is = p.size_is;
  len_is = p.len_is;
}

begins_length : (octets : List ℕ) (size len : ℕ) → (p : BeginsChunkLine octets size len) → length octets ≡ len + length p.rest
begins_length octets size len p = omega (arith, p.len_is, ap length p.octets_are, length-append (chunk_line_text p.line) p.rest)

pub chunk_line_within : (octets : List ℕ) (size len : ℕ) → BeginsChunkLine octets size len → len ≤ length octets
chunk_line_within octets size len p = omega (arith, begins_length octets size len p)

pub chunk_line_some : (octets : List ℕ) (size len : ℕ) → BeginsChunkLine octets size len → 0 < len
chunk_line_some octets size len p = omega (arith, p.len_is, text_length p.line)

pub chunk_line-take : (octets : List ℕ) (n size len : ℕ) → len ≤ n → BeginsChunkLine octets size len → BeginsChunkLine (take n octets) size len
chunk_line-take octets n size len le p =
    let text = chunk_line_text p.line in
    let enough : n ≡ length text + (n - len) = omega (arith, p.len_is) in
    let front-is : take n octets ≡ text ++ take (n - len) p.rest =
    ap (take n) p.octets_are ∙ ap (λ (k : ℕ). take k (text ++ p.rest)) enough ∙ take-append-add text p.rest (n - len) in
    record { line = p.line; rest = take (n - len) p.rest; is = p.is; octets_are = front-is; size_is = p.size_is; len_is = p.len_is }

pub chunk_line_from_take : (octets : List ℕ) (n size len : ℕ) → BeginsChunkLine (take n octets) size len → BeginsChunkLine octets size len
chunk_line_from_take octets n size len p =
    subst (λ (o : List ℕ). BeginsChunkLine o size len) (take-append-drop n octets) (chunk_line-append (take n octets) (drop n octets) size len p)

finds : (octets : List ℕ) (size len : ℕ) → (p : BeginsChunkLine octets size len) → run octets start ≡ done size p.rest
finds octets size len p =
    ap (λ (o : List ℕ). run o start) p.octets_are ∙ run-line p.line p.rest p.is ∙ ap (λ (n : ℕ). done n p.rest) (sym p.size_is)

done_is : (m n : ℕ) (s t : List ℕ) → done m s ≡ done n t → (m ≡ n) × (s ≡ t)
done_is m n s t e = (cc, cc)

-- octets begin with one chunk line at most, and what follows doesn't change it
pub chunk_line_unique : (octets more : List ℕ) (size other m n : ℕ)
    → BeginsChunkLine octets size m → BeginsChunkLine (octets ++ more) other n → (size ≡ other) × (m ≡ n)
chunk_line_unique octets more size other m n p q =
    let p' = chunk_line-append octets more size m p in
    let same = done_is size other p'.rest q.rest (sym (finds (octets ++ more) size m p') ∙ finds (octets ++ more) other n q) in (
      same.0,
      omega (arith, begins_length (octets ++ more) size m p', begins_length (octets ++ more) other n q, ap length same.1),
    )

-- ---- where a reader stands

-- the octets are the front of a line without its CR LF
front_is : (octets : List ℕ) (line : ChunkLine) → octets ++ line_end ≡ chunk_line_text line → octets ≡ front line
front_is octets line e =
    let text : chunk_line_text line ≡ front line ++ line_end = simp append_assoc in
    append_cancel_right octets (front line) line_end (e ∙ text)

leads-front : (stage : LineStage) (size len : ℕ) (octets rest : List ℕ) (line : ChunkLine) → IsChunkLine line
    → octets ++ line_end ≡ chunk_line_text line → last_stage line.padding line.extension ≡ stage
    → size ≡ digits_value 16 line.digits → len ≡ length octets
    → run (octets ++ rest) start ≡ run rest (place_at stage size len)
leads-front stage size len octets rest line is e last size-is len-is =
    let front-is = front_is octets line e in
    let len-same : length (front line) ≡ len = omega (arith, ap length front-is) in
    ap (λ (o : List ℕ). run (o ++ rest) start) front-is
    ∙ run-front line rest is
    ∙ ap (λ (s : LineStage). run rest (place_at s (digits_value 16 line.digits) (length (front line)))) last
    ∙ ap (λ (n : ℕ). run rest (place_at stage n (length (front line)))) (sym size-is)
    ∙ ap (λ (n : ℕ). run rest (place_at stage size n)) len-same

leads-cr : (size len : ℕ) (octets rest : List ℕ) (line : ChunkLine) → IsChunkLine line
    → octets ++ (10 ∷ []) ≡ chunk_line_text line → size ≡ digits_value 16 line.digits → len ≡ length octets
    → run (octets ++ rest) start ≡ run rest (place_at CarriageReturn size len)
leads-cr size len octets rest line is e size-is len-is =
    let text : chunk_line_text line ≡ (front line ++ (13 ∷ [])) ++ (10 ∷ []) = simp append_assoc in
    let octets-are = append_cancel_right octets (front line ++ (13 ∷ [])) (10 ∷ []) (e ∙ text) in
    let len-same : length (front line) + 1 ≡ len = omega (arith, ap length octets-are, length-append (front line) (13 ∷ [])) in
    let long = text_length line in
    ap (λ (o : List ℕ). run (o ++ rest) start) octets-are
    ∙ ap (λ (o : List ℕ). run o start) (append_assoc (front line) (13 ∷ []) rest)
    ∙ run-front line (13 ∷ rest) is
    ∙ run-cr line rest (digits_value 16 line.digits) (length (front line)) (omega (arith, is.short))
    ∙ ap (λ (n : ℕ). run rest (place_at CarriageReturn n (length (front line) + 1))) (sym size-is)
    ∙ ap (λ (n : ℕ). run rest (place_at CarriageReturn size n)) len-same

leads_in-run : (stage : LineStage) (size len : ℕ) (octets rest : List ℕ) → Leads octets (place_at stage size len) → stage ≢ End
    → run (octets ++ rest) start ≡ run rest (place_at stage size len)
leads_in-run Start size len octets rest h more =
    ap (λ (o : List ℕ). run (o ++ rest) start) h.0
    ∙ ap (λ (n : ℕ). run rest (place_at Start n 0)) (sym h.1)
    ∙ ap (λ (n : ℕ). run rest (place_at Start size n)) (sym h.2)
leads_in-run Digits size len octets rest h more = leads-front Digits size len octets rest h.line h.is h.front.0 h.front.1 h.size_is h.len_is
leads_in-run Padding size len octets rest h more = leads-front Padding size len octets rest h.line h.is h.front.0 h.front.1 h.size_is h.len_is
leads_in-run Extension size len octets rest h more = leads-front Extension size len octets rest h.line h.is h.front.0 h.front.1 h.size_is h.len_is
leads_in-run CarriageReturn size len octets rest h more = leads-cr size len octets rest h.line h.is h.front h.size_is h.len_is
leads_in-run End size len octets rest h more = absurd (more refl)

leads-run : (octets rest : List ℕ) (place : Place) → Leads octets place → place.stage ≢ End → run (octets ++ rest) start ≡ run rest place
leads-run octets rest place h more = leads_in-run place.stage place.size place.len octets rest h more

-- where the reader waits for more, no front of the octets is a line
pub leads_none : (octets : List ℕ) (place : Place) → Leads octets place → place.stage ≢ End → HasNoChunkLine octets
leads_none octets place h more = λ size len p.
    not_done place size p.rest
    (sym (ap (λ (o : List ℕ). run o start) (append-nil octets) ∙ finds octets size len p) ∙ leads-run octets [] place h more ∙ run-nil place)
  where
    not_done : (place : Place) (size : ℕ) (rest : List ℕ) → done size rest ≡ reading place → ⊥
    not_done place size rest e = cc

-- where it can't go on, no line follows
pub leads_never : (octets : List ℕ) (place : Place) (c : ℕ) → Leads octets place → place.stage ≢ End → place_after place c ≡ None
    → NeverHasChunkLine (octets ++ c ∷ [])
leads_never octets place c h more none = λ rest size len p.
    not_done size p.rest
    (sym (finds ((octets ++ c ∷ []) ++ rest) size len p)
    ∙ ap (λ (o : List ℕ). run o start) (append_assoc octets (c ∷ []) rest)
    ∙ leads-run octets (c ∷ rest) place h more ∙ run-fails c rest place none)
  where
    not_done : (size : ℕ) (rest : List ℕ) → done size rest ≡ failed → ⊥
    not_done size rest e = cc

pub never-append : (octets more : List ℕ) → NeverHasChunkLine octets → NeverHasChunkLine (octets ++ more)
never-append octets more never = λ rest size len p.
    never (more ++ rest) size len (subst (λ (o : List ℕ). BeginsChunkLine o size len) (append_assoc octets more rest) p)

-- ---- one more octet

abbrev parts : List ℕ → List ℕ → Option (List ℕ) → ChunkLine
parts digits padding extension = record { digits = digits; padding = padding; extension = extension }

-- the stage holds with one more octet
abbrev HoldsIn : List ℕ → ℕ → ℕ → ℕ → LineStage → Type 0
HoldsIn octets c size len stage = len < most_octets stage → Leads (octets ++ c ∷ []) (place_at stage (size_with stage size c) (len + 1))

abbrev Holds : List ℕ → ℕ → ℕ → ℕ → Option LineStage → Type 0
Holds octets c size len None = Unit {0}
Holds octets c size len (Some stage) = HoldsIn octets c size len stage

holds_if : (octets : List ℕ) (c size len : ℕ) (test : Bool) (x y : Option LineStage) → (test ≡ true → Holds octets c size len x) → (test ≡ false → Holds octets c size len y)
    → Holds octets c size len (cond test x y)
holds_if octets c size len true x y passes fails = passes refl
holds_if octets c size len false x y passes fails = fails refl

push-end : (octets : List ℕ) (c : ℕ) (ending : List ℕ) → (octets ++ c ∷ []) ++ ending ≡ octets ++ (c ∷ ending)
push-end octets c ending = append_assoc octets (c ∷ []) ending

-- a line with one more octet keeps to the limit
pushed_short : (octets : List ℕ) (c : ℕ) (text : List ℕ) → (octets ++ c ∷ []) ++ line_end ≡ text → length octets < 4094 → length text ≤ 4096
pushed_short octets c text e room = omega (arith, ap length e, length-append {A = ℕ})

first_digit : (octets : List ℕ) (c size len : ℕ) → octets ≡ [] → size ≡ 0 → len ≡ 0 → is_ascii_hexdigit c ≡ true → HoldsIn octets c size len Digits
first_digit octets c size len none size-is len-is digit room =
    let octets-are : octets ++ c ∷ [] ≡ c ∷ [] = ap (λ (o : List ℕ). o ++ c ∷ []) none in
    let front-is : (octets ++ c ∷ []) ++ line_end ≡ c ∷ line_end = ap (λ (o : List ℕ). o ++ line_end) octets-are in
    record {
      line = parts (c ∷ []) [] None;
      is = record {
        some_digit = omega arith;
        few_digits = omega arith;
        digits = All-cons (λ x. is_ascii_hexdigit x ≡ true) c [] digit (All-nil _);
        padding = All-nil _;
        extension = tt;
        short = omega arith;
      };
      front = (front-is, refl);
      size_is = ap (λ (n : ℕ). n * 16 + digit_value c) size-is;
      len_is = omega (arith, len-is, ap length octets-are);
    }

more_digit : (octets digits padding : List ℕ) (extension : Option (List ℕ)) (c size len : ℕ) → IsChunkLine (parts digits padding extension)
    → octets ++ line_end ≡ chunk_line_text (parts digits padding extension) → last_stage padding extension ≡ Digits
    → size ≡ digits_value 16 digits → len ≡ length octets → is_ascii_hexdigit c ≡ true → HoldsIn octets c size len Digits
more_digit octets digits [] None c size len is e last size-is len-is digit room =
    let octets-are : octets ≡ digits = append_cancel_right octets digits line_end e in
    let front-is : (octets ++ c ∷ []) ++ line_end ≡ (digits ++ c ∷ []) ++ line_end = ap (λ (o : List ℕ). (o ++ c ∷ []) ++ line_end) octets-are in
    let long : length (digits ++ c ∷ []) ≡ length digits + 1 = length-append digits (c ∷ []) in
    let same : length octets ≡ length digits = ap length octets-are in
    record {
      line = parts (digits ++ c ∷ []) [] None;
      is = record {
        some_digit = omega arith;
        few_digits = omega arith;
        digits = All-push (λ x. is_ascii_hexdigit x ≡ true) digits c is.digits digit;
        padding = All-nil _;
        extension = tt;
        short = pushed_short octets c _ front-is (omega arith);
      };
      front = (front-is, refl);
      size_is = ap (λ (n : ℕ). n * 16 + digit_value c) size-is ∙ sym (digits_value_push 16 digits c);
      len_is = omega (arith, length-append octets (c ∷ []));
    }
more_digit octets digits (p ∷ padding) None c size len is e last size-is len-is digit room = absurd (cc)
more_digit octets digits padding (Some text) c size len is e last size-is len-is digit room = absurd (cc)

push_padding : (padding : List ℕ) (c : ℕ) → last_stage (padding ++ c ∷ []) None ≡ Padding
push_padding [] c = refl
push_padding (p ∷ padding) c = refl

more_padding : (octets digits padding : List ℕ) (c size len : ℕ) → IsChunkLine (parts digits padding None)
    → octets ++ line_end ≡ chunk_line_text (parts digits padding None)
    → size ≡ digits_value 16 digits → len ≡ length octets → is_blank c ≡ true → HoldsIn octets c size len Padding
more_padding octets digits padding c size len is e size-is len-is blank room =
    let octets-are : octets ≡ digits ++ padding = append_cancel_right octets (digits ++ padding) line_end (e ∙ sym (append_assoc digits padding line_end)) in
    let text : (octets ++ c ∷ []) ++ line_end ≡ digits ++ ((padding ++ c ∷ []) ++ line_end) = ap (λ (o : List ℕ). (o ++ c ∷ []) ++ line_end) octets-are ∙ simp append_assoc in
    record {
      line = parts digits (padding ++ c ∷ []) None;
      is = record {
        some_digit = is.some_digit;
        few_digits = is.few_digits;
        digits = is.digits;
        padding = All-push (λ x. is_blank x ≡ true) padding c is.padding blank;
        extension = tt;
        short = pushed_short octets c _ text (omega arith);
      };
      front = (text, push_padding padding c);
      size_is = size-is;
      len_is = omega (arith, length-append octets (c ∷ []));
    }

new_extension : (octets digits padding : List ℕ) (c size len : ℕ) → IsChunkLine (parts digits padding None)
    → octets ++ line_end ≡ chunk_line_text (parts digits padding None)
    → size ≡ digits_value 16 digits → len ≡ length octets → c ≡ 59 → HoldsIn octets c size len Extension
new_extension octets digits padding c size len is e size-is len-is semicolon room =
    let octets-are : octets ≡ digits ++ padding = append_cancel_right octets (digits ++ padding) line_end (e ∙ sym (append_assoc digits padding line_end)) in
    let text : (octets ++ c ∷ []) ++ line_end ≡ digits ++ (padding ++ (59 ∷ line_end)) =
    ap (λ (o : List ℕ). (o ++ c ∷ []) ++ line_end) octets-are ∙ ap (λ (n : ℕ). ((digits ++ padding) ++ n ∷ []) ++ line_end) semicolon ∙ simp append_assoc in
    record {
      line = parts digits padding (Some []);
      is = record {
        some_digit = is.some_digit;
        few_digits = is.few_digits;
        digits = is.digits;
        padding = is.padding;
        extension = All-nil _;
        short = pushed_short octets c _ text (omega arith);
      };
      front = (text, refl);
      size_is = size-is;
      len_is = omega (arith, length-append octets (c ∷ []));
    }

more_extension : (octets digits padding : List ℕ) (extension : Option (List ℕ)) (c size len : ℕ) → IsChunkLine (parts digits padding extension)
    → octets ++ line_end ≡ chunk_line_text (parts digits padding extension) → last_stage padding extension ≡ Extension
    → size ≡ digits_value 16 digits → len ≡ length octets → is_extension_octet c ≡ true → HoldsIn octets c size len Extension
more_extension octets digits padding (Some x) c size len is e last size-is len-is octet room =
    let octets-are : octets ≡ digits ++ (padding ++ (59 ∷ x)) = append_cancel_right octets (digits ++ (padding ++ (59 ∷ x))) line_end (e ∙ simp append_assoc) in
    let text : (octets ++ c ∷ []) ++ line_end ≡ digits ++ (padding ++ (59 ∷ ((x ++ c ∷ []) ++ line_end))) =
    ap (λ (o : List ℕ). (o ++ c ∷ []) ++ line_end) octets-are ∙ simp append_assoc in
    record {
      line = parts digits padding (Some (x ++ c ∷ []));
      is = record {
        some_digit = is.some_digit;
        few_digits = is.few_digits;
        digits = is.digits;
        padding = is.padding;
        extension = All-push (λ y. is_extension_octet y ≡ true) x c is.extension octet;
        short = pushed_short octets c _ text (omega arith);
      };
      front = (text, refl);
      size_is = size-is;
      len_is = omega (arith, length-append octets (c ∷ []));
    }
more_extension octets digits [] None c size len is e last size-is len-is octet room = absurd (cc)
more_extension octets digits (p ∷ padding) None c size len is e last size-is len-is octet room = absurd (cc)

cr_comes : (octets : List ℕ) (line : ChunkLine) (c size len : ℕ) → IsChunkLine line → octets ++ line_end ≡ chunk_line_text line
    → size ≡ digits_value 16 line.digits → len ≡ length octets → c ≡ 13 → HoldsIn octets c size len CarriageReturn
cr_comes octets line c size len is e size-is len-is cr room = record {
  line = line;
  is = is;
  front = ap (λ (n : ℕ). (octets ++ n ∷ []) ++ (10 ∷ [])) cr ∙ push-end octets 13 (10 ∷ []) ∙ e;
  size_is = size-is;
  len_is = omega (arith, length-append octets (c ∷ []));
}

lf_comes : (octets : List ℕ) (line : ChunkLine) (c size len : ℕ) → IsChunkLine line → octets ++ (10 ∷ []) ≡ chunk_line_text line
    → size ≡ digits_value 16 line.digits → len ≡ length octets → c ≡ 10 → HoldsIn octets c size len End
lf_comes octets line c size len is e size-is len-is lf room = record {
  line = line;
  is = is;
  front = ap (λ (n : ℕ). octets ++ n ∷ []) lf ∙ e;
  size_is = size-is;
  len_is = omega (arith, length-append octets (c ∷ []));
}

-- behind the digits, with no extension
behind_digits : (octets digits padding : List ℕ) (extension : Option (List ℕ)) (c size len : ℕ) → IsChunkLine (parts digits padding extension)
    → octets ++ line_end ≡ chunk_line_text (parts digits padding extension) → last_stage padding extension ≢ Extension
    → size ≡ digits_value 16 digits → len ≡ length octets → Holds octets c size len (stage_behind_digits c)
behind_digits octets digits padding (Some x) c size len is e last size-is len-is = absurd (last refl)
behind_digits octets digits padding None c size len is e last size-is len-is =
    holds_if octets c size len (is_blank c) _ _ (λ blank. more_padding octets digits padding c size len is e size-is len-is blank) λ _.
    holds_if octets c size len (eqb c 59) _ _ (λ semicolon. new_extension octets digits padding c size len is e size-is len-is (eqb-true c 59 semicolon)) λ _.
    holds_if octets c size len (eqb c 13) _ _ (λ cr. cr_comes octets (parts digits padding None) c size len is e size-is len-is (eqb-true c 13 cr)) λ _. tt

stage_holds : (stage : LineStage) (size len : ℕ) (octets : List ℕ) (c : ℕ) → Leads octets (place_at stage size len) → Holds octets c size len (stage_after stage c)
stage_holds Start size len octets c h =
    holds_if octets c size len (is_ascii_hexdigit c) _ _ (λ digit. first_digit octets c size len h.0 h.1 h.2 digit) λ _. tt
stage_holds Digits size len octets c h =
    let line = h.line in
    holds_if octets c size len (is_ascii_hexdigit c) _ _
    (λ digit. more_digit octets line.digits line.padding line.extension c size len h.is h.front.0 h.front.1 h.size_is h.len_is digit) λ _.
    behind_digits octets line.digits line.padding line.extension c size len h.is h.front.0 (λ e. other (sym h.front.1 ∙ e)) h.size_is h.len_is
  where
    other : Digits ≡ Extension → ⊥
    other e = cc
stage_holds Padding size len octets c h =
    let line = h.line in
    behind_digits octets line.digits line.padding line.extension c size len h.is h.front.0 (λ e. other (sym h.front.1 ∙ e)) h.size_is h.len_is
  where
    other : Padding ≡ Extension → ⊥
    other e = cc
stage_holds Extension size len octets c h =
    let line = h.line in
    holds_if octets c size len (is_extension_octet c) _ _
    (λ octet. more_extension octets line.digits line.padding line.extension c size len h.is h.front.0 h.front.1 h.size_is h.len_is octet) λ _.
    holds_if octets c size len (eqb c 13) _ _ (λ cr. cr_comes octets line c size len h.is h.front.0 h.size_is h.len_is (eqb-true c 13 cr)) λ _. tt
stage_holds CarriageReturn size len octets c h =
    holds_if octets c size len (eqb c 10) _ _ (λ lf. lf_comes octets h.line c size len h.is h.front h.size_is h.len_is (eqb-true c 10 lf)) λ _. tt
stage_holds End size len octets c h = tt

-- the octets with one more lead to that place, if there is one
abbrev LeadsOn : List ℕ → Option Place → Type 0
LeadsOn octets None = Unit {0}
LeadsOn octets (Some place) = Leads octets place

place_holds : (octets : List ℕ) (c : ℕ) (place : Place) (stage : Option LineStage) → Holds octets c place.size place.len stage
    → LeadsOn (octets ++ c ∷ []) (option_and_then (λ s. cond (nat_lt place.len (most_octets s)) (Some (place_at s (size_with s place.size c) (place.len + 1))) None) stage)
place_holds octets c place None h = tt
place_holds octets c place (Some stage) h = room (nat_lt place.len (most_octets stage)) refl
  where
    room : (test : Bool) → nat_lt place.len (most_octets stage) ≡ test
        → LeadsOn (octets ++ c ∷ []) (cond test (Some (place_at stage (size_with stage place.size c) (place.len + 1))) None)
    room true e = h (ltb-true _ _ e)
    room false e = tt

-- one more octet leads on
pub leads_on : (octets : List ℕ) (c : ℕ) (place next : Place) → Leads octets place → place_after place c ≡ Some next → Leads (octets ++ c ∷ []) next
leads_on octets c place next h e =
    subst (LeadsOn (octets ++ c ∷ [])) e (place_holds octets c place (stage_after place.stage c) (stage_holds place.stage place.size place.len octets c h))

-- at the end the octets are a chunk line
pub leads-end : (octets : List ℕ) (place : Place) → Leads octets place → place.stage ≡ End → BeginsChunkLine octets place.size (length octets)
leads-end octets place h end = at_end place.stage end h
  where
    at_end : (stage : LineStage) → stage ≡ End → LeadsIn stage octets (place_at stage place.size place.len) → BeginsChunkLine octets place.size (length octets)
    at_end End e ends = record {
      line = ends.line;
      rest = [];
      is = ends.is;
      octets_are = ends.front ∙ sym (append-nil (chunk_line_text ends.line));
      size_is = ends.size_is;
      len_is = ap length ends.front;
    }
    at_end Start e ends = absurd (cc)
    at_end Digits e ends = absurd (cc)
    at_end Padding e ends = absurd (cc)
    at_end Extension e ends = absurd (cc)
    at_end CarriageReturn e ends = absurd (cc)

-- ---- a line can still come

all_of : (octets more : List ℕ) (size : ℕ) (line : ChunkLine) → IsChunkLine line → octets ++ more ≡ chunk_line_text line → size ≡ digits_value 16 line.digits
    → CanBecomeChunkLine octets
all_of octets more size line is e size-is = (
  more,
  size,
  record {
    line = line;
    rest = [];
    is = is;
    octets_are = e ∙ sym (append-nil (chunk_line_text line));
    size_is = size-is;
    len_is = ap length e;
  },
)

nothing_can : (octets : List ℕ) → octets ≡ [] → CanBecomeChunkLine octets
nothing_can octets none =
    all_of octets (48 ∷ line_end) 0 (parts (48 ∷ []) [] None) (record {
      some_digit = omega arith;
      few_digits = omega arith;
      digits = All-cons (λ x. is_ascii_hexdigit x ≡ true) 48 [] refl (All-nil _);
      padding = All-nil _;
      extension = tt;
      short = omega arith;
    }) (ap (λ (o : List ℕ). o ++ (48 ∷ line_end)) none) refl

leads_in_can : (stage : LineStage) (size len : ℕ) (octets : List ℕ) → Leads octets (place_at stage size len) → CanBecomeChunkLine octets
leads_in_can Start size len octets h = nothing_can octets h.0
leads_in_can Digits size len octets h = all_of octets line_end size h.line h.is h.front.0 h.size_is
leads_in_can Padding size len octets h = all_of octets line_end size h.line h.is h.front.0 h.size_is
leads_in_can Extension size len octets h = all_of octets line_end size h.line h.is h.front.0 h.size_is
leads_in_can CarriageReturn size len octets h = all_of octets (10 ∷ []) size h.line h.is h.front h.size_is
leads_in_can End size len octets h = all_of octets [] size h.line h.is (append-nil octets ∙ h.front) h.size_is

pub leads_can : (octets : List ℕ) (place : Place) → Leads octets place → CanBecomeChunkLine octets
leads_can octets place h = leads_in_can place.stage place.size place.len octets h

-- ---- a piece

grown : (octets piece : List ℕ) (index : ℕ) → index < length piece
    → octets ++ take (index + 1) piece ≡ (octets ++ take index piece) ++ (get_or piece index 0 ∷ [])
grown octets piece index inside =
    ap (λ (o : List ℕ). octets ++ o) (take_more piece index 0 inside) ∙ sym (append_assoc octets (take index piece) (get_or piece index 0 ∷ []))

module _ (octets piece : List ℕ) (index : ℕ) (place : Place) (inside : index < length piece) (leads : Leads (octets ++ take index piece) place) where
  pub piece_goes : (next : Place) → place_after place (get_or piece index 0) ≡ Some next → Leads (octets ++ take (index + 1) piece) next
  piece_goes next e =
      subst (λ (o : List ℕ). Leads o next) (sym (grown octets piece index inside)) (leads_on (octets ++ take index piece) (get_or piece index 0) place next leads e)

  pub piece_ends : (next : Place) → place_after place (get_or piece index 0) ≡ Some next → next.stage ≡ End
      → BeginsChunkLine (octets ++ take (index + 1) piece) next.size (length octets + (index + 1))
  piece_ends next e end =
      let long : length (octets ++ take (index + 1) piece) ≡ length octets + (index + 1) =
      omega (arith, length-append octets (take (index + 1) piece), length-take (index + 1) piece) in
      subst (λ (n : ℕ). BeginsChunkLine (octets ++ take (index + 1) piece) next.size n) long
      (leads-end (octets ++ take (index + 1) piece) next (piece_goes next e) end)

  pub piece_stops : place.stage ≢ End → place_after place (get_or piece index 0) ≡ None → NeverHasChunkLine (octets ++ piece)
  piece_stops more none =
      let front = octets ++ take index piece in
      let never = leads_never front place (get_or piece index 0) leads more none in
      let never' = subst NeverHasChunkLine (sym (grown octets piece index inside)) never in
      let whole : (octets ++ take (index + 1) piece) ++ drop (index + 1) piece ≡ octets ++ piece =
      append_assoc octets (take (index + 1) piece) (drop (index + 1) piece) ∙ ap (λ (o : List ℕ). octets ++ o) (take-append-drop (index + 1) piece) in
      subst NeverHasChunkLine whole (never-append (octets ++ take (index + 1) piece) (drop (index + 1) piece) never')

-- ---- a reader

-- where it waits for more, no front of the octets is a line
pub agrees_none : (reader : ChunkLineReader) (octets : List ℕ) → AgreesLine reader octets → HasNoChunkLine octets
agrees_none reader octets agrees = leads_none octets (place_of reader) agrees.1 agrees.0

-- and they can become one
pub agrees_can : (reader : ChunkLineReader) (octets : List ℕ) → AgreesLine reader octets → CanBecomeChunkLine octets
agrees_can reader octets agrees = leads_can octets (place_of reader) agrees.1
