-- A trailer section stands in octets in one way, and its lines are told by their ends.
use Rattle.std.proofs.Common.{◌≡◌, ◌≢◌, ℕ, ◌+◌, ◌<◌, ◌≤◌, min, Bool, true, false, List, [], ◌∷◌, ◌++◌, length, take, drop, All, Result, Ok, Err, get_or, refl, sym, ap, subst, ◌∙◌, arith, append_assoc, append-nil, length-append, length-take, inl, inr}
use Rattle.std.specs.Prelude.{◌⊎◌, ◌||◌, ◌==◌, IsTrue}
use Rattle.std.specs.List.{flat_map}
use Rattle.std.proofs.lemmas.Bool.Decides.{nat_tests}
use Rattle.std.proofs.lemmas.Bool.{false≢true, ne_eqb}
use Rattle.std.proofs.lemmas.List.Concat.{flat_map-append}
use Rattle.std.proofs.lemmas.List.Elements.{All-head, All-tail, All-append, All-push, All-nil, All-cons}
use Rattle.httparse.specs.Grammar.{Field, IsField, print_field, LineEnd, crlf, lf, print_end, print_section, ReadsSection, AllPass, is_token_byte, is_value_byte}
use Rattle.httparse.specs.Pieces.{Stops}
use Rattle.httparse.specs.Spans.{header_bytes, name_and_value, IsSectionWithin, IsSectionAt, IsSectionOf, FindsSection}
use Rattle.httparse.specs.Outcome.{IfComplete, IsCompleteAnd}
use Rattle.httparse.specs.declared.spans.HeaderSpan.{HeaderSpan}
use Rattle.httparse.specs.declared.Error.{Error}
use Rattle.httparse.specs.declared.Status.{Status}
use Rattle.httparse.specs.declared.Status.TheVariants.{Complete, Partial}
use Rattle.std.proofs.lemmas.List.{append_cancel_right, drop_all, length-map, take_more, take-append-drop}
use Rattle.httparse.proofs.PieceLemmas.{Section_skip}
use Rattle.httparse.proofs.GrammarLemmas.{section_unique, ReadsSection-append}
use Rattle.httparse.proofs.RunLemmas.{run_unique, run_unstopped}
use Rattle.hc_framing.specs.Trailers.{AreTrailerLines, IsTrailerThen, NeverHasTrailer, is_plain, HasRoomFor, IsOpenTrailer}
use Rattle.hc_framing.specs.declared.trailer.TrailerReader.{TrailerReader}
use Rattle.hc_framing.specs.declared.chunk_fault.ChunkFault.{ChunkFault}
use Rattle.hc_framing.specs.declared.chunk_fault.ChunkFault.TheVariants.{Syntax, Memory}
use Rattle.hc_framing.specs.TrailerReading.{FaultsTrailer, IsFieldLine, end_of, end_with_feed, has_room, may_return, AgreesTrailer}
use Rattle.hc_framing.proofs.ListLemmas.{first, tail_is, fronts}

-- ---- sections of httparse

as_section : (octets rest : List ℕ) → (t : IsTrailerThen octets rest) → ReadsSection octets t.fields t.end rest
as_section octets rest t = (t.are.are, t.octets_are ∙ sym (append_assoc (flat_map print_field t.fields) (print_end t.end) rest))

pub trailer-append : (octets more r : List ℕ) → IsTrailerThen octets r → IsTrailerThen (octets ++ more) (r ++ more)
trailer-append octets more r t = record {
  fields = t.fields;
  are = t.are;
  end = t.end;
  octets_are =
      ap (λ (o : List ℕ). o ++ more) t.octets_are ∙ append_assoc (flat_map print_field t.fields) (print_end t.end ++ r) more
      ∙ ap (λ (o : List ℕ). flat_map print_field t.fields ++ o) (append_assoc (print_end t.end) r more);
}

pub trailer_unique : (octets more r s : List ℕ) → IsTrailerThen octets r → IsTrailerThen (octets ++ more) s → s ≡ r ++ more
trailer_unique octets more r s t u =
    sym (section_unique (octets ++ more) t.fields u.fields t.end u.end (r ++ more) s
    (ReadsSection-append octets t.fields t.end r more (as_section octets r t)) (as_section (octets ++ more) s u)).2

-- ---- plain text

plain_by : (test : ℕ → Bool) → ((b : ℕ) → test b ≡ true → is_plain b ≡ true) → (text : List ℕ) → AllPass test text → AllPass is_plain text
plain_by test passes [] all = All-nil (λ b. IsTrue (is_plain b))
plain_by test passes (b ∷ text) all =
    All-cons (λ v. IsTrue (is_plain v)) b text (passes b (All-head (λ v. IsTrue (test v)) b text all))
    (plain_by test passes text (All-tail (λ v. IsTrue (test v)) b text all))

-- what passes a test that CR and LF fail is plain
no_end_is_plain : (test : ℕ → Bool) → test 13 ≡ false → test 10 ≡ false → (b : ℕ) → test b ≡ true → is_plain b ≡ true
no_end_is_plain test no_return no_feed b passes =
    rw (ne_eqb b 13 (λ e. false≢true (sym no_return ∙ ap test (sym e) ∙ passes)), ne_eqb b 10 (λ e. false≢true (sym no_feed ∙ ap test (sym e) ∙ passes)))

token_is_plain : (b : ℕ) → is_token_byte b ≡ true → is_plain b ≡ true
unfolding is_token_byte
token_is_plain = no_end_is_plain is_token_byte refl refl

value_is_plain : (b : ℕ) → is_value_byte b ≡ true → is_plain b ≡ true
value_is_plain = no_end_is_plain is_value_byte refl refl

end_stops : (end : LineEnd) (after : List ℕ) → Stops is_plain (print_end end ++ after)
end_stops crlf after = refl
end_stops lf after = refl

-- a field line without its end
abbrev front : Field → List ℕ
front f = f.name ++ 58 ∷ f.raw

front_is_plain : (f : Field) → IsField f → AllPass is_plain (front f)
front_is_plain f is =
    All-append (λ b. IsTrue (is_plain b)) f.name (58 ∷ f.raw) (plain_by is_token_byte token_is_plain f.name is.name.1)
    (All-cons (λ b. IsTrue (is_plain b)) 58 f.raw refl (plain_by is_value_byte value_is_plain f.raw is.raw))

printed : (f : Field) (rest : List ℕ) → print_field f ++ rest ≡ front f ++ (print_end f.end ++ rest)
printed f rest = append_assoc (front f) (print_end f.end) rest

-- ---- the first line behind other lines

-- a field line that the limits allow behind those lines
pub record IsLineBehind (fields : List Field) (text : List ℕ) (end : LineEnd) : Type 0 where
  pub line : IsFieldLine (text ++ print_end end)
  pub few : length fields < 100
  pub short : length (flat_map print_field fields) + (length text + length (print_end end)) ≤ 65536

pub record FirstLine (fields : List Field) (octets : List ℕ) : Type 0 where
  pub text : List ℕ
  pub plain : AllPass is_plain text
  pub end : LineEnd
  pub after : List ℕ
  pub octets_are : octets ≡ text ++ (print_end end ++ after)
  pub is : (text ≡ []) ⊎ IsLineBehind fields text end

pub first_line : (fields : List Field) (octets rest : List ℕ) → All IsField fields → IsTrailerThen (flat_map print_field fields ++ octets) rest → FirstLine fields octets
first_line fields octets rest all t =
    let skipped = Section_skip fields t.fields t.end (flat_map print_field fields ++ octets) octets rest (all, refl) (as_section (flat_map print_field fields ++ octets) rest t) in
    go skipped.0 (subst AreTrailerLines skipped.1 t.are) skipped.2
  where
    go : (others : List Field) → AreTrailerLines (fields ++ others) → ReadsSection octets others t.end rest → FirstLine fields octets
    go [] are reads = record {
      text = [];
      plain = All-nil (λ b. IsTrue (is_plain b));
      end = t.end;
      after = rest;
      octets_are = reads.1;
      is = inl refl;
    }
    go (f ∷ others) are reads =
        let is = All-head IsField f others reads.0 in
        let behind = flat_map print_field others ++ (print_end t.end ++ rest) in
        let joined : flat_map print_field (fields ++ f ∷ others) ≡ flat_map print_field fields ++ (print_field f ++ flat_map print_field others) = flat_map-append print_field fields (f ∷ others) in
        let long : print_field f ≡ front f ++ print_end f.end = sym (append-nil (print_field f)) ∙ printed f [] ∙ ap (λ (o : List ℕ). front f ++ o) (append-nil (print_end f.end)) in
        record {
          text = front f;
          plain = front_is_plain f is;
          end = f.end;
          after = behind;
          octets_are =
              reads.1 ∙ append_assoc (print_field f ++ flat_map print_field others) (print_end t.end) rest
              ∙ append_assoc (print_field f) (flat_map print_field others) (print_end t.end ++ rest) ∙ printed f behind;
          is = inr (record {
            line = (f, is, long);
            few = omega (arith, are.few, length-append fields (f ∷ others));
            short =
                omega (arith, are.short, ap length joined, length-append (flat_map print_field fields) (print_field f ++ flat_map print_field others), length-append (print_field f) (flat_map print_field others), ap length long, length-append (front f) (print_end f.end));
          });
        }

-- ---- while the line is open, no section has ended

pub open_has_none : (octets rest : List ℕ) → IsOpenTrailer octets → IsTrailerThen octets rest → ⊥
open_has_none octets rest o t =
    let l = first_line o.fields (o.text ++ o.end) rest o.are.are (subst (λ (x : List ℕ). IsTrailerThen x rest) o.octets_are t) in
    elim o.begun [
      | inl none ↦ let whole : o.text ≡ l.text ++ (print_end l.end ++ l.after) = sym (append-nil o.text) ∙ ap (λ (x : List ℕ). o.text ++ x) (sym none) ∙ l.octets_are in
          run_unstopped is_plain l.text (print_end l.end ++ l.after) (subst (AllPass is_plain) whole o.plain) (end_stops l.end l.after)
      | inr cr ↦ let whole : o.text ++ (13 ∷ []) ≡ l.text ++ (print_end l.end ++ l.after) = ap (λ (x : List ℕ). o.text ++ x) (sym cr) ∙ l.octets_are in
          half_end l.end l.after (run_unique is_plain o.text l.text (13 ∷ []) (print_end l.end ++ l.after) o.plain l.plain refl (end_stops l.end l.after) whole).1
    ]
  where
    half_end : (end : LineEnd) (after : List ℕ) → 13 ∷ [] ≡ print_end end ++ after → ⊥
    half_end crlf after same = omega (arith, ap length same)
    half_end lf after same = omega (arith, ap first same)

-- ---- faults

-- the octets so far, one more, and those that may follow
regrouped : (lines text : List ℕ) (octet : ℕ) (more : List ℕ) → ((lines ++ text) ++ octet ∷ []) ++ more ≡ lines ++ (text ++ octet ∷ more)
regrouped lines text octet more =
    append_assoc (lines ++ text) (octet ∷ []) more ∙ append_assoc lines text (octet ∷ more)

-- what a section would have behind the lines
would_be : (r : TrailerReader) (octets : List ℕ) (octet : ℕ) (more rest : List ℕ) → (a : AgreesTrailer r octets) → IsTrailerThen ((octets ++ octet ∷ []) ++ more) rest
    → FirstLine a.fields ((r.text ++ end_of r.returned) ++ octet ∷ more)
would_be r octets octet more rest a t =
    first_line a.fields ((r.text ++ end_of r.returned) ++ octet ∷ more) rest a.are.are
    (subst (λ (o : List ℕ). IsTrailerThen o rest) (ap (λ (o : List ℕ). (o ++ octet ∷ []) ++ more) a.octets_are ∙ regrouped (flat_map print_field a.fields) (r.text ++ end_of r.returned) octet more) t)

-- behind a CR comes an LF
return_ends : (end : LineEnd) (octet : ℕ) (more after : List ℕ) → 13 ∷ octet ∷ more ≡ print_end end ++ after → (octet ≡ 10) × (end ≡ crlf)
return_ends crlf octet more after same = ((tail_is octet 10 more after (tail_is 13 13 (octet ∷ more) (10 ∷ after) same).1).0, refl)
return_ends lf octet more after same = absurd (omega (arith, (tail_is 13 10 (octet ∷ more) after same).0))

pub return_breaks : (r : TrailerReader) (octets : List ℕ) (octet : ℕ) → AgreesTrailer r octets → r.returned ≡ true → octet ≢ 10 → NeverHasTrailer (octets ++ octet ∷ [])
return_breaks r octets octet a returned wrong = λ more rest t.
    let l = would_be r octets octet more rest a t in
    let whole : r.text ++ (13 ∷ octet ∷ more) ≡ l.text ++ (print_end l.end ++ l.after) =
    sym (append_assoc r.text (13 ∷ []) (octet ∷ more)) ∙ ap (λ (b : Bool). (r.text ++ end_of b) ++ octet ∷ more) (sym returned) ∙ l.octets_are in
    wrong (return_ends l.end octet more l.after (run_unique is_plain r.text l.text (13 ∷ octet ∷ more) (print_end l.end ++ l.after) a.plain l.plain refl (end_stops l.end l.after) whole).1).0

-- the text of a line that isn't empty is that of a field line, which keeps to the limits
some_line : (fields : List Field) (text : List ℕ) (end : LineEnd) → 0 < length text → (text ≡ []) ⊎ IsLineBehind fields text end → IsLineBehind fields text end
some_line fields text end some (inl none) = absurd (omega (arith, some, ap length none))
some_line fields text end some (inr line) = line

no_room : (r : TrailerReader) (octets : List ℕ) → (a : AgreesTrailer r octets) → has_room r ≡ false → length a.fields < 100
    → length (flat_map print_field a.fields) + (length r.text + 2) ≤ 65536 → ⊥
no_room r octets a none few short =
    let room : has_room r ≡ true = grind (arith, nat_tests, a.count_is, a.taken_is, few, short) in
    false≢true (sym none ∙ room)

-- what a CR may not follow
no_return : (r : TrailerReader) → may_return r ≡ false → (0 < length r.text) × (has_room r ≡ false)
no_return r none = go (length r.text == 0) (has_room r) refl none
  where
    go : (e h : Bool) → (length r.text == 0) ≡ e → (e || h) ≡ false → (0 < length r.text) × (h ≡ false)
    go true h is fails = absurd (false≢true (sym fails))
    go false h is fails = (grind (arith, nat_tests, is), fails)

-- and what it may
pub return_room : (r : TrailerReader) → may_return r ≡ true → (r.text ≡ []) ⊎ (has_room r ≡ true)
return_room r may = go r.text (length r.text == 0) (has_room r) refl refl may
  where
    go : (text : List ℕ) (e h : Bool) → r.text ≡ text → (length text == 0) ≡ e → (e || h) ≡ true → (r.text ≡ []) ⊎ (h ≡ true)
    go [] e h is none holds = inl is
    go (b ∷ text) true h is none holds = absurd (grind (arith, nat_tests, none))
    go (b ∷ text) false h is none holds = inr holds

-- a CR with which the line passes the limits
pub long_return_breaks : (r : TrailerReader) (octets : List ℕ) → AgreesTrailer r octets → r.returned ≡ false → may_return r ≡ false
    → NeverHasTrailer (octets ++ 13 ∷ [])
long_return_breaks r octets a plain none = λ more rest t.
    let why = no_return r none in
    let l = would_be r octets 13 more rest a t in
    let whole : r.text ++ (13 ∷ more) ≡ l.text ++ (print_end l.end ++ l.after) =
    ap (λ (o : List ℕ). o ++ 13 ∷ more) (sym (append-nil r.text)) ∙ ap (λ (b : Bool). (r.text ++ end_of b) ++ 13 ∷ more) (sym plain) ∙ l.octets_are in
    let same = run_unique is_plain r.text l.text (13 ∷ more) (print_end l.end ++ l.after) a.plain l.plain refl (end_stops l.end l.after) whole in
    let line = some_line a.fields l.text l.end (omega (arith, why.0, ap length same.0)) l.is in
    no_room r octets a why.1 line.few (omega (arith, line.short, ap length same.0, return_is_long l.end more l.after same.1))
  where
    return_is_long : (end : LineEnd) (more after : List ℕ) → 13 ∷ more ≡ print_end end ++ after → length (print_end end) ≡ 2
    return_is_long crlf more after same = refl
    return_is_long lf more after same = absurd (omega (arith, (tail_is 13 10 more after same).0))

-- a plain front is no longer than the plain front before a stop
no_longer : (test : ℕ → Bool) (a b r q : List ℕ) → AllPass test a → Stops test q → a ++ r ≡ b ++ q → length a ≤ length b
no_longer test [] b r q all stops same = omega arith
no_longer test (x ∷ a) [] r [] all stops same = absurd stops
no_longer test (x ∷ a) [] r (y ∷ q) all stops same =
    absurd (false≢true (sym stops ∙ ap test (sym (tail_is x y (a ++ r) q same).0) ∙ All-head (λ v. IsTrue (test v)) x a all))
no_longer test (x ∷ a) (y ∷ b) r q all stops same =
    let on = no_longer test a b r q (All-tail (λ v. IsTrue (test v)) x a all) stops (tail_is x y (a ++ r) (b ++ q) same).1 in
    omega (arith, on)

pub long_line_breaks : (r : TrailerReader) (octets : List ℕ) (octet : ℕ) → AgreesTrailer r octets → r.returned ≡ false → octet ≢ 10 → octet ≢ 13 → has_room r ≡ false
    → NeverHasTrailer (octets ++ octet ∷ [])
long_line_breaks r octets octet a plain no_feed no_return none = λ more rest t.
    let l = would_be r octets octet more rest a t in
    let whole : (r.text ++ octet ∷ []) ++ more ≡ l.text ++ (print_end l.end ++ l.after) =
    append_assoc r.text (octet ∷ []) more ∙ ap (λ (o : List ℕ). o ++ octet ∷ more) (sym (append-nil r.text)) ∙ ap (λ (b : Bool). (r.text ++ end_of b) ++ octet ∷ more) (sym plain) ∙ l.octets_are in
    let more_plain : AllPass is_plain (r.text ++ octet ∷ []) = All-push (λ b. IsTrue (is_plain b)) r.text octet a.plain (rw (ne_eqb octet 13 no_return, ne_eqb octet 10 no_feed)) in
    let longer = no_longer is_plain (r.text ++ octet ∷ []) l.text more (print_end l.end ++ l.after) more_plain (end_stops l.end l.after) whole in
    let long : length (r.text ++ octet ∷ []) ≡ length r.text + 1 = length-append r.text (octet ∷ []) in
    let line = some_line a.fields l.text l.end (omega (arith, longer, long)) l.is in
    no_room r octets a none line.few (omega (arith, line.short, longer, long, end_is_some l.end))
  where
    end_is_some : (end : LineEnd) → 0 < length (print_end end)
    end_is_some crlf = omega arith
    end_is_some lf = omega arith

pub no_line_breaks : (r : TrailerReader) (octets : List ℕ) → AgreesTrailer r octets → 0 < length r.text → ¬ (IsFieldLine (r.text ++ print_end (end_with_feed r.returned)))
    → NeverHasTrailer (octets ++ 10 ∷ [])
no_line_breaks r octets a some none = λ more rest t. go r.returned refl more (would_be r octets 10 more rest a t)
  where
    feed_ends : (end : LineEnd) (more after : List ℕ) → 10 ∷ more ≡ print_end end ++ after → end ≡ lf
    feed_ends crlf more after same = absurd (omega (arith, (tail_is 10 13 more (10 ∷ after) same).0))
    feed_ends lf more after same = refl

    go : (b : Bool) → r.returned ≡ b → (more : List ℕ) → FirstLine a.fields ((r.text ++ end_of r.returned) ++ 10 ∷ more) → ⊥
    go true is more l =
        let whole : r.text ++ (13 ∷ 10 ∷ more) ≡ l.text ++ (print_end l.end ++ l.after) =
        sym (append_assoc r.text (13 ∷ []) (10 ∷ more)) ∙ ap (λ (b : Bool). (r.text ++ end_of b) ++ 10 ∷ more) (sym is) ∙ l.octets_are in
        let same = run_unique is_plain r.text l.text (13 ∷ 10 ∷ more) (print_end l.end ++ l.after) a.plain l.plain refl (end_stops l.end l.after) whole in
        let end : l.end ≡ crlf = (return_ends l.end 10 more l.after same.1).1 in
        let line = some_line a.fields l.text l.end (omega (arith, some, ap length same.0)) l.is in
        none (subst IsFieldLine ((λ i. sym same.0 i ++ print_end (end i)) ∙ ap (λ (b : Bool). r.text ++ print_end (end_with_feed b)) (sym is)) line.line)
    go false is more l =
        let whole : r.text ++ (10 ∷ more) ≡ l.text ++ (print_end l.end ++ l.after) =
        ap (λ (o : List ℕ). o ++ 10 ∷ more) (sym (append-nil r.text)) ∙ ap (λ (b : Bool). (r.text ++ end_of b) ++ 10 ∷ more) (sym is) ∙ l.octets_are in
        let same = run_unique is_plain r.text l.text (10 ∷ more) (print_end l.end ++ l.after) a.plain l.plain refl (end_stops l.end l.after) whole in
        let end : l.end ≡ lf = feed_ends l.end more l.after same.1 in
        let line = some_line a.fields l.text l.end (omega (arith, some, ap length same.0)) l.is in
        none (subst IsFieldLine ((λ i. sym same.0 i ++ print_end (end i)) ∙ ap (λ (b : Bool). r.text ++ print_end (end_with_feed b)) (sym is)) line.line)

-- ---- octets that are taken

-- the octets with one more, as a text behind the same lines
one_more : (r : TrailerReader) (octets : List ℕ) (octet : ℕ) (text : List ℕ) → (a : AgreesTrailer r octets) → (r.text ++ end_of r.returned) ++ octet ∷ [] ≡ text
    → octets ++ octet ∷ [] ≡ flat_map print_field a.fields ++ text
one_more r octets octet text a text-is =
    ap (λ (o : List ℕ). o ++ octet ∷ []) a.octets_are ∙ append_assoc (flat_map print_field a.fields) (r.text ++ end_of r.returned) (octet ∷ [])
    ∙ ap (λ (o : List ℕ). flat_map print_field a.fields ++ o) text-is

-- the line without a CR, and what follows
bare : (r : TrailerReader) (more : List ℕ) → r.returned ≡ false → (r.text ++ end_of r.returned) ++ more ≡ r.text ++ more
bare r more plain = ap (λ (b : Bool). (r.text ++ end_of b) ++ more) plain ∙ ap (λ (o : List ℕ). o ++ more) (append-nil r.text)

has_room_is : (r : TrailerReader) (octets : List ℕ) → (a : AgreesTrailer r octets) → has_room r ≡ true → HasRoomFor a.fields (length r.text + 2)
has_room_is r octets a room = record {
  few = grind (arith, nat_tests, a.count_is, room);
  short = grind (arith, nat_tests, a.taken_is, room);
}

pub octet_taken : (r s : TrailerReader) (octets : List ℕ) (octet : ℕ) → AgreesTrailer r octets → r.returned ≡ false → octet ≢ 10 → octet ≢ 13 → has_room r ≡ true
    → s.count ≡ r.count → s.taken ≡ r.taken → s.returned ≡ r.returned → s.text ≡ r.text ++ octet ∷ [] → AgreesTrailer s (octets ++ octet ∷ [])
octet_taken r s octets octet a plain no_feed no_return room count-is taken-is returned-is text-is =
    let fits = has_room_is r octets a room in
    let long : length s.text ≡ length r.text + 1 = omega (arith, ap length text-is, length-append r.text (octet ∷ [])) in
    let none : length (end_of s.returned) ≡ 0 = ap (λ (b : Bool). length (end_of b)) (returned-is ∙ plain) in
    record {
      fields = a.fields;
      are = a.are;
      count_is = count-is ∙ a.count_is;
      taken_is = taken-is ∙ a.taken_is;
      plain = subst (AllPass is_plain) (sym text-is) (All-push (λ b. IsTrue (is_plain b)) r.text octet a.plain (rw (ne_eqb octet 13 no_return, ne_eqb octet 10 no_feed)));
      room = inr (record { few = fits.few; short = omega (arith, fits.short, long, none) });
      octets_are =
          one_more r octets octet (s.text ++ end_of s.returned) a (bare r (octet ∷ []) plain ∙ sym text-is ∙ sym (append-nil s.text)
          ∙ ap (λ (b : Bool). s.text ++ end_of b) (sym (returned-is ∙ plain)));
    }

pub return_taken : (r s : TrailerReader) (octets : List ℕ) → (a : AgreesTrailer r octets) → r.returned ≡ false → (r.text ≡ []) ⊎ (has_room r ≡ true)
    → s.count ≡ r.count → s.taken ≡ r.taken → s.returned ≡ true → s.text ≡ r.text → AgreesTrailer s (octets ++ 13 ∷ [])
return_taken r s octets a plain room count-is taken-is returned-is text-is = record {
  fields = a.fields;
  are = a.are;
  count_is = count-is ∙ a.count_is;
  taken_is = taken-is ∙ a.taken_is;
  plain = subst (AllPass is_plain) (sym text-is) a.plain;
  room = elim room [
    | inl none ↦ inl (text-is ∙ none)
    | inr is ↦ let fits = has_room_is r octets a is in
        inr (record { few = fits.few; short = omega (arith, fits.short, ap length text-is, ap (λ (b : Bool). length (end_of b)) returned-is) })
  ];
  octets_are =
      one_more r octets 13 (s.text ++ end_of s.returned) a (bare r (13 ∷ []) plain ∙ ap (λ (o : List ℕ). o ++ 13 ∷ []) (sym text-is)
      ∙ ap (λ (b : Bool). s.text ++ end_of b) (sym returned-is));
}

pub with_feed : (r : TrailerReader) → (r.text ++ end_of r.returned) ++ 10 ∷ [] ≡ r.text ++ print_end (end_with_feed r.returned)
with_feed r = append_assoc r.text (end_of r.returned) (10 ∷ []) ∙ ap (λ (o : List ℕ). r.text ++ o) (go r.returned)
  where
    go : (b : Bool) → end_of b ++ 10 ∷ [] ≡ print_end (end_with_feed b)
    go true = refl
    go false = refl

-- the line with its LF and one more
pub fed_twice : (r : TrailerReader) (octets : List ℕ) → octets ≡ (r.text ++ print_end (end_with_feed r.returned)) ++ 10 ∷ []
    → octets ≡ (r.text ++ end_of r.returned) ++ (10 ∷ 10 ∷ [])
fed_twice r octets is =
    is ∙ ap (λ (o : List ℕ). o ++ 10 ∷ []) (sym (with_feed r)) ∙ append_assoc (r.text ++ end_of r.returned) (10 ∷ []) (10 ∷ [])

pub empty_line_ends : (r : TrailerReader) (octets : List ℕ) → AgreesTrailer r octets → r.text ≡ [] → IsTrailerThen (octets ++ 10 ∷ []) []
empty_line_ends r octets a none = record {
  fields = a.fields;
  are = a.are;
  end = end_with_feed r.returned;
  octets_are =
      one_more r octets 10 (print_end (end_with_feed r.returned) ++ []) a (with_feed r ∙ ap (λ (o : List ℕ). o ++ print_end (end_with_feed r.returned)) none
      ∙ sym (append-nil (print_end (end_with_feed r.returned))));
}

pub line_taken : (r s : TrailerReader) (octets : List ℕ) (len : ℕ) → AgreesTrailer r octets → 0 < length r.text → len ≡ length (r.text ++ print_end (end_with_feed r.returned))
    → IsFieldLine (r.text ++ print_end (end_with_feed r.returned))
    → s.count ≡ min (r.count + 1) 18446744073709551615 → s.taken ≡ min (r.taken + len) 18446744073709551615 → s.returned ≡ false → s.text ≡ [] → AgreesTrailer s (octets ++ 10 ∷ [])
line_taken r s octets len a some len-is line count-is taken-is returned-is text-is = go a.room
  where
    go : (r.text ≡ []) ⊎ HasRoomFor a.fields (length r.text + length (end_of r.returned) + 1) → AgreesTrailer s (octets ++ 10 ∷ [])
    go (inl none) = absurd (omega (arith, some, ap length none))
    go (inr fits) =
        let joined : flat_map print_field (a.fields ++ line.0 ∷ []) ≡ flat_map print_field a.fields ++ (r.text ++ print_end (end_with_feed r.returned)) =
        flat_map-append print_field a.fields (line.0 ∷ []) ∙ ap (λ (o : List ℕ). flat_map print_field a.fields ++ o) (append-nil (print_field line.0) ∙ line.2) in
        let ended = with_feed r in
        record {
          fields = a.fields ++ line.0 ∷ [];
          are = record {
            are = All-push IsField a.fields line.0 a.are.are line.1;
            few = omega (arith, fits.few, length-append a.fields (line.0 ∷ []));
            short =
                omega (arith, fits.short, ap length joined, length-append (flat_map print_field a.fields) (r.text ++ print_end (end_with_feed r.returned)), ap length (sym ended), length-append (r.text ++ end_of r.returned) (10 ∷ []), length-append r.text (end_of r.returned));
          };
          count_is = omega (arith, count-is, a.count_is, a.are.few, length-append a.fields (line.0 ∷ []));
          taken_is = omega (arith, taken-is, len-is, a.taken_is, fits.short, ap length (sym ended), length-append (r.text ++ end_of r.returned) (10 ∷ []), length-append r.text (end_of r.returned), ap length joined, length-append (flat_map print_field a.fields) (r.text ++ print_end (end_with_feed r.returned)));
          plain = subst (AllPass is_plain) (sym text-is) (All-nil (λ b. IsTrue (is_plain b)));
          room = inl text-is;
          octets_are =
              one_more r octets 10 (r.text ++ print_end (end_with_feed r.returned)) a ended ∙ sym joined ∙ sym (append-nil (flat_map print_field (a.fields ++ line.0 ∷ [])))
              ∙ (λ i. flat_map print_field (a.fields ++ line.0 ∷ []) ++ (sym text-is i ++ end_of (sym returned-is i)));
        }

-- ---- one line by httparse

pub one_line : (octets : List ℕ) (headers : List HeaderSpan) (len count : ℕ) → IsSectionOf octets 0 headers (len, count) → count ≡ 1 → len ≡ length octets
    → 0 < length headers → (front : List ℕ) → octets ≡ front ++ (10 ∷ 10 ∷ []) → IsFieldLine (front ++ 10 ∷ [])
one_line octets headers len count of count-is len-is some ends octets-are = go of.0 of.1 of.2
  where
    go : (fields : List Field) (last : LineEnd) → IsSectionAt octets 0 headers len count fields last → IsFieldLine (ends ++ 10 ∷ [])
    go [] last at = absurd (omega (arith, ap length at.fields_are, length-map (take count headers) (header_bytes octets), length-take count headers, count-is, some))
    go (f ∷ g ∷ fields) last at = absurd (omega (arith, ap length at.fields_are, length-map (take count headers) (header_bytes octets), length-take count headers, count-is, length-map fields name_and_value))
    go (f ∷ []) last at =
        let whole : ends ++ (10 ∷ 10 ∷ []) ≡ print_field f ++ print_end last =
        sym octets-are ∙ at.reads.1 ∙ ap (λ (o : List ℕ). ((print_field f ++ []) ++ print_end last) ++ o) (drop_all len octets (omega (arith, len-is)))
        ∙ append-nil ((print_field f ++ []) ++ print_end last) ∙ ap (λ (o : List ℕ). o ++ print_end last) (append-nil (print_field f)) in
        (f, All-head IsField f [] at.reads.0, sym (by_end last whole))
      where
        by_end : (last : LineEnd) → ends ++ (10 ∷ 10 ∷ []) ≡ print_field f ++ print_end last → ends ++ 10 ∷ [] ≡ print_field f
        by_end lf whole = append_cancel_right (ends ++ 10 ∷ []) (print_field f) (10 ∷ []) (append_assoc ends (10 ∷ []) (10 ∷ []) ∙ whole)
        by_end crlf whole =
            let before : ends ++ 10 ∷ [] ≡ print_field f ++ 13 ∷ [] =
            append_cancel_right (ends ++ 10 ∷ []) (print_field f ++ 13 ∷ []) (10 ∷ []) (append_assoc ends (10 ∷ []) (10 ∷ []) ∙ whole ∙ sym (append_assoc (print_field f) (13 ∷ []) (10 ∷ []))) in
            let long : length ends ≡ length (print_field f) = omega (arith, ap length before, length-append ends (10 ∷ []), length-append (print_field f) (13 ∷ [])) in
            absurd (omega (arith, (tail_is 10 13 [] [] (fronts ends (print_field f) (10 ∷ []) (13 ∷ []) long before).1).0))

pub found_line : (octets : List ℕ) (room : ℕ) (headers : List HeaderSpan) (r : Result (Status (ℕ × ℕ)) Error) → room ≡ 1 → FindsSection octets 0 room headers r
    → IfComplete r (λ x. IsSectionWithin octets headers x.0 x.1) → length headers ≡ 1 → (front : List ℕ) → octets ≡ front ++ (10 ∷ 10 ∷ []) → IsFieldLine (front ++ 10 ∷ [])
    → IsCompleteAnd r (λ x. (x.0 ≡ length octets) × (x.1 ≡ 1))
found_line octets room headers r room-is finds within one ends octets-are line =
    let reads : ReadsSection octets (line.0 ∷ []) lf [] = (
      All-push IsField [] line.0 (All-nil IsField) line.1,
      octets-are ∙ sym (append_assoc ends (10 ∷ []) (10 ∷ [])) ∙ ap (λ (o : List ℕ). o ++ 10 ∷ []) (sym line.2 ∙ sym (append-nil (print_field line.0))) ∙ sym (append-nil ((print_field line.0 ++ []) ++ 10 ∷ [])),
    ) in
    let long : length octets ≡ length (print_section (line.0 ∷ []) lf) = ap length reads.1 ∙ ap length (append-nil (print_section (line.0 ∷ []) lf)) in
    go long r within (finds (line.0 ∷ []) lf [] reads (omega (arith, room-is)))
  where
    go : length octets ≡ length (print_section (line.0 ∷ []) lf) → (r : Result (Status (ℕ × ℕ)) Error) → IfComplete r (λ x. IsSectionWithin octets headers x.0 x.1)
        → IsCompleteAnd r (λ x. IsSectionAt octets 0 headers x.0 x.1 (line.0 ∷ []) lf) → IsCompleteAnd r (λ x. (x.0 ≡ length octets) × (x.1 ≡ 1))
    go long (Ok (Complete x)) within at = (
      omega (arith, at.len_is, long),
      omega (arith, ap length at.fields_are, length-map (take x.1 headers) (header_bytes octets), length-take x.1 headers, one, within.count_fits),
    )
    go long (Ok Partial) within at = absurd at
    go long (Err e) within at = absurd at

-- ---- pieces

-- a fault stands whatever follows
pub faults_on : (fault : ChunkFault) (octets more : List ℕ) → FaultsTrailer fault octets → FaultsTrailer fault (octets ++ more)
faults_on Memory octets more faults = tt
faults_on Syntax octets more never = λ others rest t. never (more ++ others) rest (subst (λ (o : List ℕ). IsTrailerThen o rest) (append_assoc octets more others) t)

-- the octets up to one of a piece, and that one
with_octet : (octets piece : List ℕ) (i : ℕ) → i < length piece → (octets ++ take i piece) ++ get_or piece i 0 ∷ [] ≡ octets ++ take (i + 1) piece
with_octet octets piece i less = append_assoc octets (take i piece) (get_or piece i 0 ∷ []) ∙ ap (λ (o : List ℕ). octets ++ o) (sym (take_more piece i 0 less))

pub fault_in_piece : (fault : ChunkFault) (octets piece : List ℕ) (i : ℕ) → i < length piece → FaultsTrailer fault ((octets ++ take i piece) ++ get_or piece i 0 ∷ [])
    → FaultsTrailer fault (octets ++ piece)
fault_in_piece fault octets piece i less faults =
    subst (FaultsTrailer fault) (append_assoc octets (take (i + 1) piece) (drop (i + 1) piece) ∙ ap (λ (o : List ℕ). octets ++ o) (take-append-drop (i + 1) piece))
    (faults_on fault (octets ++ take (i + 1) piece) (drop (i + 1) piece) (subst (FaultsTrailer fault) (with_octet octets piece i less) faults))

pub end_in_piece : (octets piece : List ℕ) (i : ℕ) → i < length piece → IsTrailerThen ((octets ++ take i piece) ++ get_or piece i 0 ∷ []) []
    → (i + 1 ≤ length piece) × IsTrailerThen (octets ++ take (i + 1) piece) []
end_in_piece octets piece i less ends = (omega (arith, less), subst (λ (o : List ℕ). IsTrailerThen o []) (with_octet octets piece i less) ends)
