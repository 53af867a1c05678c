-- What stands at the front of octets: one record at most, and no fault where a record is.
use Rattle.std.proofs.Common.{◌≡◌, ◌≢◌, ℕ, ◌+◌, ◌<◌, ◌≤◌, List, [], ◌∷◌, ◌++◌, length, get_or, take, drop, Option, Some, None, refl, sym, ap, subst, ◌∙◌, arith, add-one, inl, inr, append_assoc, length-append}
use Rattle.std.specs.List.{list_any}
use Rattle.std.proofs.Math.Seq.{take-append_seam, drop-append_seam, get_or-append_seam}
use Rattle.std.proofs.lemmas.List.{take-append-le, get_or_append_left}
use Rattle.hc_transcript.specs.declared.format.Format.{Format}
use Rattle.hc_transcript.specs.declared.fault.RecordFault.{RecordFault}
use Rattle.hc_transcript.specs.declared.fault.RecordFault.TheVariants as fault
use Rattle.hc_transcript.specs.declared.line.Line.{Line}
use Rattle.hc_transcript.specs.declared.record.Record.{Record}
use Rattle.hc_transcript.specs.declared.record.Passed.{Passed}
use Rattle.hc_transcript.specs.declared.record.Passed.TheVariants.{ClientRequest, OriginRequest, OriginResponse, OriginFailure, ClientReply}
use Rattle.hc_transcript.specs.Records.{letter, line_text, passed_kind, passed_octets, passed_cause, CanTell, line_of, message_of, record_text}
use Rattle.hc_transcript.specs.Lines.{IsLineText, BeginsLine, HasLongLine, is_feed}
use Rattle.hc_transcript.specs.Limits.{greatest_number, greatest_moment, longest_message, longest_line}
use Rattle.hc_transcript.specs.Items.{Item}
use Rattle.hc_transcript.specs.Checks.{line_fault}
use Rattle.hc_transcript.specs.Transcript.{is_to_head, IsReadAs, Follows}
use Rattle.hc_transcript.specs.Malformed.{HasLine, IsFramed, IsUnfinishedLine, IsUnfinished, HasNoLine, FailsCheck, HasWrongEnd, BreaksLine, IsNoMessage, HasNoMessage, BreaksRecord}
use Rattle.hc_transcript.proofs.MarkLemmas.{first_mark_unique}
use Rattle.hc_transcript.proofs.FirstLineLemmas.{no_line_without_feed}
use Rattle.hc_transcript.proofs.LineLaws.{CauseFits, IsLineText_unique, line_written, line_plain, line_text_short, one_told_cause, BeginsLine-append}
use Rattle.hc_transcript.proofs.CheckLemmas.{order_after}
use Rattle.hc_transcript.proofs.FrameLemmas.{octet_behind}
use Rattle.hc_transcript.proofs.ItemLemmas.{one_item, no_item}

module _ (format : Format) where
  -- ---- the line

  -- the numbers of a line that passes the checks
  record Fits (l : Line) : Type 0 where
    pub number : l.number ≤ greatest_number
    pub moment : l.moment ≤ greatest_moment
    pub size : l.size ≤ longest_message
    pub cause : CauseFits l.cause

  fits : (h : List Item) (l : Line) → line_fault h l ≡ None → Fits l
  fits h l none =
      let o = order_after h l none in record { number = o.number_fits; moment = o.moment_fits; size = o.size_fits; cause = o.cause_fits }

  -- the line of a record begins the octets
  begun : (octets : List ℕ) (l : Line) (after : List ℕ) → Fits l → IsLineText format (line_text l) l → octets ≡ line_text l ++ 10 ∷ after → HasLine format octets (line_text l) l
  begun octets l after f is e =
      record {
        begins = record { after = after; octets_are = e; no_feed = line_plain format (line_text l) l is; short = line_text_short l f.number f.moment f.size f.cause };
        is = is;
      }

  framed_line : (h : List Item) (octets : List ℕ) (l : Line) (message : List ℕ) (len : ℕ) → IsFramed format (line_fault h) octets l message len → HasLine format octets (line_text l) l
  framed_line h octets l message len framed = begun octets l (message ++ 10 ∷ framed.rest) (fits h l framed.keeps) framed.is framed.octets_are

  -- one text begins the octets as their first line, and it is one line
  one_text : (octets text other : List ℕ) → BeginsLine octets text → BeginsLine octets other → text ≡ other
  one_text octets text other b c = (first_mark_unique is_feed text other b.after c.after 10 10 refl refl b.no_feed c.no_feed (sym b.octets_are ∙ c.octets_are)).0

  one_line : (octets text other : List ℕ) (l k : Line) → HasLine format octets text l → HasLine format octets other k → (text ≡ other) × (l ≡ k)
  one_line octets text other l k a b =
      let same : text ≡ other = one_text octets text other a.begins b.begins in
      (same, IsLineText_unique format text l k a.is (subst (λ (t : List ℕ). IsLineText format t k) (sym same) b.is))

  begins_some : (octets text : List ℕ) → BeginsLine octets text → 0 < length octets
  begins_some octets text b = omega (arith, ap length b.octets_are, length-append text (10 ∷ b.after))

  -- ---- one record

  -- two readings of the same octets as a line, so many octets, and a line feed
  one_front : (h : List Item) (l k : Line) (m n rest tail : List ℕ) → IsLineText format (line_text l) l → IsLineText format (line_text k) k → line_fault h l ≡ None → line_fault h k ≡ None → length m ≡ l.size → length n ≡ k.size
      → line_text l ++ 10 ∷ (m ++ 10 ∷ rest) ≡ line_text k ++ 10 ∷ (n ++ 10 ∷ tail) → (l ≡ k) × (m ≡ n) × (rest ≡ tail)
  one_front h l k m n rest tail is also keeps too m-is n-is e =
      let octets = line_text l ++ 10 ∷ (m ++ 10 ∷ rest) in
      let a : HasLine format octets (line_text l) l = begun octets l (m ++ 10 ∷ rest) (fits h l keeps) is refl in
      let b : HasLine format octets (line_text k) k = begun octets k (n ++ 10 ∷ tail) (fits h k too) also e in
      let line : l ≡ k = (one_line octets (line_text l) (line_text k) l k a b).1 in
      let behind : m ++ 10 ∷ rest ≡ n ++ 10 ∷ tail =
      (first_mark_unique is_feed (line_text l) (line_text k) (m ++ 10 ∷ rest) (n ++ 10 ∷ tail) 10 10 refl refl a.begins.no_feed b.begins.no_feed e).1 in
      let long : length m ≡ length n = m-is ∙ ap (λ (j : Line). j.size) line ∙ sym n-is in
      let message : m ≡ n = sym (take-append_seam m (10 ∷ rest)) ∙ (λ i. take (long i) (behind i)) ∙ take-append_seam n (10 ∷ tail) in
      let after : 10 ∷ rest ≡ 10 ∷ tail = sym (drop-append_seam m (10 ∷ rest)) ∙ (λ i. drop (long i) (behind i)) ∙ drop-append_seam n (10 ∷ tail) in
      (line, message, ap (drop 1) after)

  -- what passed is its kind, its octets and its cause
  one_passed : (p q : Passed) → passed_kind p ≡ passed_kind q → passed_octets p ≡ passed_octets q → passed_cause p ≡ passed_cause q → p ≡ q
  one_passed (ClientRequest m) (ClientRequest n) kind octets cause = ap ClientRequest octets
  one_passed (OriginRequest m c) (OriginRequest n d) kind octets cause = λ i. OriginRequest (octets i) (cause i)
  one_passed (OriginResponse m) (OriginResponse n) kind octets cause = ap OriginResponse octets
  one_passed OriginFailure OriginFailure kind octets cause = refl
  one_passed (ClientReply m) (ClientReply n) kind octets cause = ap ClientReply octets
  one_passed p q kind octets cause = absurd (omega (arith, ap letter kind))

  -- a record that may stand in the format is its line and its message
  one_line_and_message : (r o : Record) → CanTell format r → CanTell format o → line_of format r ≡ line_of format o → message_of r ≡ message_of o → r ≡ o
  one_line_and_message r o can may line message =
      let kind : passed_kind r.of ≡ passed_kind o.of = ap (λ (l : Line). l.kind) line in
      let cause = one_told_cause format r o can may (ap (λ (l : Line). l.cause) line) kind in
      let of-is : r.of ≡ o.of = one_passed r.of o.of kind message cause in
      λ i. record { number = (line i).number; moment = (line i).moment; of = of-is i }

  -- the text of a record, and octets behind it
  pub text_behind : (r : Record) (tail : List ℕ) → record_text format r ++ tail ≡ line_text (line_of format r) ++ 10 ∷ (message_of r ++ 10 ∷ tail)
  text_behind r tail =
      append_assoc (line_text (line_of format r)) (10 ∷ (message_of r ++ 10 ∷ [])) tail ∙ ap (λ (t : List ℕ). line_text (line_of format r) ++ 10 ∷ t) (append_assoc (message_of r) (10 ∷ []) tail)

  -- the line of a record that keeps to the format, as it is written
  own_line : (h : List Item) (r : Record) → line_fault h (line_of format r) ≡ None → IsLineText format (line_text (line_of format r)) (line_of format r)
  own_line h r keeps = let f = fits h (line_of format r) keeps in line_written format r f.number f.moment f.size f.cause

  -- one record follows the history in the octets, and it is read as one item
  pub one_record : (h : List Item) (r o : Record) (item other : Item) (rest tail : List ℕ) → Follows format h r item → Follows format h o other → record_text format r ++ rest ≡ record_text format o ++ tail
      → (r ≡ o) × (item ≡ other) × (rest ≡ tail)
  one_record h r o item other rest tail f g e =
      let parts = one_front h (line_of format r) (line_of format o) (message_of r) (message_of o) rest tail (own_line h r f.keeps) (own_line h o g.keeps) f.keeps g.keeps refl refl (sym (text_behind r rest) ∙ e ∙ text_behind o tail) in
      let same : r ≡ o = one_line_and_message r o f.told g.told parts.0 parts.1 in
      let read : IsReadAs format h o item = subst (λ (x : Record). IsReadAs format h x item) same f.reads in
      let l = line_of format o in
      (same, one_item l.kind l.cause l.number l.moment (is_to_head l.kind l.number h) (message_of o) item other read g.reads, parts.2)

  framed_record : (h : List Item) (r : Record) (item : Item) (octets tail : List ℕ) → Follows format h r item → octets ≡ record_text format r ++ tail
      → IsFramed format (line_fault h) octets (line_of format r) (message_of r) (length (line_text (line_of format r)) + (line_of format r).size + 2)
  framed_record h r item octets tail f e =
      record { rest = tail; octets_are = e ∙ text_behind r tail; is = own_line h r f.keeps; size_is = refl; len_is = refl; keeps = f.keeps }

  -- ---- where no record stands

  none_is_some : (f : RecordFault) → None ≡ Some f → ⊥
  none_is_some f e = cc

  some_is_some : (f g : RecordFault) → Some f ≡ Some g → f ≡ g
  some_is_some f g e = cc

  fails_no_keeps : (check : Line → Option RecordFault) (f : RecordFault) (octets text : List ℕ) (l : Line) → FailsCheck format check f octets → HasLine format octets text l → check l ≡ None → ⊥
  fails_no_keeps check f octets text l fails has keeps =
      let same : fails.line ≡ l = (one_line octets fails.text text fails.line l fails.has has).1 in
      none_is_some f (sym keeps ∙ sym (ap check same) ∙ fails.fails)

  -- behind the octets of a record stands a line feed
  framed_end : (check : Line → Option RecordFault) (octets : List ℕ) (l : Line) (message : List ℕ) (len : ℕ) → IsFramed format check octets l message len
      → get_or octets (length (line_text l) + l.size + 1) 0 ≡ 10
  framed_end check octets l message len framed =
      octet_behind octets (line_text l) (message ++ 10 ∷ framed.rest) l.size framed.octets_are
      ∙ ap (λ (k : ℕ). get_or (10 ∷ (message ++ 10 ∷ framed.rest)) k 0) (add-one l.size)
      ∙ ap (λ (k : ℕ). get_or (message ++ 10 ∷ framed.rest) k 0) (sym framed.size_is)
      ∙ get_or-append_seam message 10 framed.rest 0

  wrong_end_no_record : (h : List Item) (octets : List ℕ) (l : Line) (message : List ℕ) (len : ℕ) → HasWrongEnd format (line_fault h) octets → IsFramed format (line_fault h) octets l message len → ⊥
  wrong_end_no_record h octets l message len w framed =
      let same = one_line octets w.text (line_text l) w.line l w.has (framed_line h octets l message len framed) in
      w.wrong ((λ i. get_or octets (length (same.0 i) + (same.1 i).size + 1) 0) ∙ framed_end (line_fault h) octets l message len framed)

  unfinished_no_record : (h : List Item) (octets : List ℕ) (l : Line) (message : List ℕ) (len : ℕ) → IsUnfinished format (line_fault h) octets → IsFramed format (line_fault h) octets l message len → ⊥
  unfinished_no_record h octets l message len (inl line) framed = line.none (line_text l) (framed_line h octets l message len framed).begins
  unfinished_no_record h octets l message len (inr rest) framed =
      let same = one_line octets rest.text (line_text l) rest.line l rest.has (framed_line h octets l message len framed) in
      omega (
        arith,
        rest.short,
        ap length same.0,
        ap (λ (k : Line). k.size) same.1,
        ap length framed.octets_are,
        length-append (line_text l) (10 ∷ (message ++ 10 ∷ framed.rest)),
        length-append message (10 ∷ framed.rest),
        framed.size_is,
      )

  -- ---- why a record breaks the octets

  -- no line begins the octets, and none can
  record HasNoLineEver (check : Line → Option RecordFault) (octets : List ℕ) : Type 0 where
    pub none : (text : List ℕ) (l : Line) → HasLine format octets text l → ⊥
    pub ended : IsUnfinishedLine format check octets → ⊥
    pub some : 0 < length octets

  data Reason (f : RecordFault) (h : List Item) (octets : List ℕ) : Type 0 where
    no_line : (is : f ≡ fault.Line) (none : HasNoLineEver (line_fault h) octets) → Reason f h octets
    wrong_end : (is : f ≡ fault.Line) (wrong : HasWrongEnd format (line_fault h) octets) → Reason f h octets
    fails_check : (fails : FailsCheck format (line_fault h) f octets) → Reason f h octets
    no_message : (is : f ≡ fault.Message) (none : HasNoMessage format h octets) → Reason f h octets

  long_line : (check : Line → Option RecordFault) (octets : List ℕ) → HasLongLine octets → HasNoLineEver check octets
  long_line check octets long = record {
    none = λ text l has. no_line_without_feed octets long.no_feed text has.begins;
    ended = λ line. omega (arith, line.short, long.long);
    some = omega (arith, long.long);
  }

  wrong_line : (check : Line → Option RecordFault) (octets : List ℕ) → HasNoLine format octets → HasNoLineEver check octets
  wrong_line check octets wrong = record {
    none = λ text l has. wrong.none l (subst (λ (t : List ℕ). IsLineText format t l) (sym (one_text octets wrong.text text wrong.begins has.begins)) has.is);
    ended = λ line. line.none wrong.text wrong.begins;
    some = begins_some octets wrong.text wrong.begins;
  }

  reason : (f : RecordFault) (h : List Item) (octets : List ℕ) → BreaksRecord format f h octets → Reason f h octets
  reason fault.Message h octets none = no_message refl none
  reason fault.Line h octets (inl long) = no_line refl (long_line (line_fault h) octets long)
  reason fault.Line h octets (inr (inl wrong)) = no_line refl (wrong_line (line_fault h) octets wrong)
  reason fault.Line h octets (inr (inr (inl wrong))) = wrong_end refl wrong
  reason fault.Line h octets (inr (inr (inr fails))) = fails_check fails
  reason fault.Opening h octets fails = fails_check fails
  reason fault.Torn h octets fails = fails_check fails
  reason fault.MomentBack h octets fails = fails_check fails
  reason fault.Number h octets fails = fails_check fails
  reason fault.NothingOpen h octets fails = fails_check fails
  reason fault.TooLong h octets fails = fails_check fails
  reason fault.Memory h octets fails = fails_check fails
  reason fault.Cause h octets fails = fails_check fails

  message_line : (h : List Item) (octets : List ℕ) (none : HasNoMessage format h octets) → HasLine format octets (line_text none.line) none.line
  message_line h octets none = framed_line h octets none.line none.message none.len none.framed

  one_reason : (f e : RecordFault) (h : List Item) (octets : List ℕ) → Reason f h octets → Reason e h octets → f ≡ e
  one_reason f e h octets (no_line is none) (no_line too other) = is ∙ sym too
  one_reason f e h octets (no_line is none) (wrong_end too other) = is ∙ sym too
  one_reason f e h octets (no_line is none) (fails_check fails) = absurd (none.none fails.text fails.line fails.has)
  one_reason f e h octets (no_line is none) (no_message too other) = absurd (none.none (line_text other.line) other.line (message_line h octets other))
  one_reason f e h octets (wrong_end is wrong) (no_line too none) = is ∙ sym too
  one_reason f e h octets (wrong_end is wrong) (wrong_end too other) = is ∙ sym too
  one_reason f e h octets (wrong_end is wrong) (fails_check fails) = absurd (fails_no_keeps (line_fault h) e octets wrong.text wrong.line fails wrong.has wrong.keeps)
  one_reason f e h octets (wrong_end is wrong) (no_message too other) = absurd (wrong_end_no_record h octets other.line other.message other.len wrong other.framed)
  one_reason f e h octets (fails_check fails) (no_line too none) = absurd (none.none fails.text fails.line fails.has)
  one_reason f e h octets (fails_check fails) (wrong_end too wrong) = absurd (fails_no_keeps (line_fault h) f octets wrong.text wrong.line fails wrong.has wrong.keeps)
  one_reason f e h octets (fails_check fails) (fails_check other) =
      some_is_some f e (sym fails.fails ∙ ap (line_fault h) (one_line octets fails.text other.text fails.line other.line fails.has other.has).1 ∙ other.fails)
  one_reason f e h octets (fails_check fails) (no_message too other) =
      absurd (fails_no_keeps (line_fault h) f octets (line_text other.line) other.line fails (message_line h octets other) other.framed.keeps)
  one_reason f e h octets (no_message is none) (no_line too other) = absurd (other.none (line_text none.line) none.line (message_line h octets none))
  one_reason f e h octets (no_message is none) (wrong_end too wrong) = absurd (wrong_end_no_record h octets none.line none.message none.len wrong none.framed)
  one_reason f e h octets (no_message is none) (fails_check fails) =
      absurd (fails_no_keeps (line_fault h) e octets (line_text none.line) none.line fails (message_line h octets none) none.framed.keeps)
  one_reason f e h octets (no_message is none) (no_message too other) = is ∙ sym too

  -- a record breaks the octets by one fault
  pub one_fault : (f e : RecordFault) (h : List Item) (octets : List ℕ) → BreaksRecord format f h octets → BreaksRecord format e h octets → f ≡ e
  one_fault f e h octets b c = one_reason f e h octets (reason f h octets b) (reason e h octets c)

  reason_is_some : (f : RecordFault) (h : List Item) (octets : List ℕ) → Reason f h octets → 0 < length octets
  reason_is_some f h octets (no_line is none) = none.some
  reason_is_some f h octets (wrong_end is wrong) = begins_some octets wrong.text wrong.has.begins
  reason_is_some f h octets (fails_check fails) = begins_some octets fails.text fails.has.begins
  reason_is_some f h octets (no_message is none) = begins_some octets (line_text none.line) (message_line h octets none).begins

  -- there are octets where a record breaks them
  pub break_is_some : (f : RecordFault) (h : List Item) (octets : List ℕ) → BreaksRecord format f h octets → octets ≢ []
  break_is_some f h octets b e = omega (arith, reason_is_some f h octets (reason f h octets b), ap length e)

  no_unfinished_reason : (f : RecordFault) (h : List Item) (octets : List ℕ) → Reason f h octets → IsUnfinished format (line_fault h) octets → ⊥
  no_unfinished_reason f h octets (no_line is none) (inl line) = none.ended line
  no_unfinished_reason f h octets (no_line is none) (inr rest) = none.none rest.text rest.line rest.has
  no_unfinished_reason f h octets (wrong_end is wrong) (inl line) = line.none wrong.text wrong.has.begins
  no_unfinished_reason f h octets (wrong_end is wrong) (inr rest) =
      let same = one_line octets rest.text wrong.text rest.line wrong.line rest.has wrong.has in
      omega (arith, rest.short, wrong.enough, ap length same.0, ap (λ (k : Line). k.size) same.1)
  no_unfinished_reason f h octets (fails_check fails) (inl line) = line.none fails.text fails.has.begins
  no_unfinished_reason f h octets (fails_check fails) (inr rest) = fails_no_keeps (line_fault h) f octets rest.text rest.line fails rest.has rest.keeps
  no_unfinished_reason f h octets (no_message is none) u = unfinished_no_record h octets none.line none.message none.len u none.framed

  -- where a record breaks the octets none is unfinished
  pub no_unfinished_break : (f : RecordFault) (h : List Item) (octets : List ℕ) → BreaksRecord format f h octets → IsUnfinished format (line_fault h) octets → ⊥
  no_unfinished_break f h octets b u = no_unfinished_reason f h octets (reason f h octets b) u

  -- what is left where a record stands and breaks the octets: its message is none
  no_message_alone : (f : RecordFault) (h : List Item) (octets : List ℕ) (l : Line) (message : List ℕ) (len : ℕ) → Reason f h octets → IsFramed format (line_fault h) octets l message len
      → IsNoMessage l.kind (is_to_head l.kind l.number h) message
  no_message_alone f h octets l message len (no_line is none) framed = absurd (none.none (line_text l) l (framed_line h octets l message len framed))
  no_message_alone f h octets l message len (wrong_end is wrong) framed = absurd (wrong_end_no_record h octets l message len wrong framed)
  no_message_alone f h octets l message len (fails_check fails) framed =
      absurd (fails_no_keeps (line_fault h) f octets (line_text l) l fails (framed_line h octets l message len framed) framed.keeps)
  no_message_alone f h octets l message len (no_message is none) framed =
      let other = none.framed in
      let same = one_front h none.line l none.message message other.rest framed.rest other.is framed.is other.keeps framed.keeps other.size_is framed.size_is (sym other.octets_are ∙ framed.octets_are) in
      subst (λ (k : Line). IsNoMessage k.kind (is_to_head k.kind k.number h) message) same.0
      (subst (λ (m : List ℕ). IsNoMessage none.line.kind (is_to_head none.line.kind none.line.number h) m) same.1 none.none)

  -- no record that follows the history begins the octets
  abbrev pub HasNoRecord : List Item → List ℕ → Type 0
  HasNoRecord h octets = (r : Record) (item : Item) (tail : List ℕ) → Follows format h r item → octets ≡ record_text format r ++ tail → ⊥

  pub no_record_broken : (f : RecordFault) (h : List Item) (octets : List ℕ) → BreaksRecord format f h octets → HasNoRecord h octets
  no_record_broken f h octets b r item tail follows e =
      let l = line_of format r in
      let none = no_message_alone f h octets l (message_of r) (length (line_text l) + l.size + 2) (reason f h octets b) (framed_record h r item octets tail follows e) in
      no_item l.kind l.cause l.number l.moment (is_to_head l.kind l.number h) (message_of r) item none follows.reads

  pub no_record_unfinished : (h : List Item) (octets : List ℕ) → IsUnfinished format (line_fault h) octets → HasNoRecord h octets
  no_record_unfinished h octets u r item tail follows e =
      let l = line_of format r in
      unfinished_no_record h octets l (message_of r) (length (line_text l) + l.size + 2) u (framed_record h r item octets tail follows e)

  pub no_record_empty : (h : List Item) → HasNoRecord h []
  no_record_empty h r item tail follows e =
      omega (arith, ap length (e ∙ text_behind r tail), length-append (line_text (line_of format r)) (10 ∷ (message_of r ++ 10 ∷ tail)))

  -- ---- more octets behind

  has_line_more : (octets more text : List ℕ) (l : Line) → HasLine format octets text l → HasLine format (octets ++ more) text l
  has_line_more octets more text l has = record { begins = BeginsLine-append octets more text has.begins; is = has.is }

  fails_more : (check : Line → Option RecordFault) (f : RecordFault) (octets more : List ℕ) → FailsCheck format check f octets → FailsCheck format check f (octets ++ more)
  fails_more check f octets more fails =
      record { text = fails.text; line = fails.line; has = has_line_more octets more fails.text fails.line fails.has; fails = fails.fails }

  wrong_end_more : (check : Line → Option RecordFault) (octets more : List ℕ) → HasWrongEnd format check octets → HasWrongEnd format check (octets ++ more)
  wrong_end_more check octets more w = record {
    text = w.text;
    line = w.line;
    has = has_line_more octets more w.text w.line w.has;
    keeps = w.keeps;
    enough = omega (arith, w.enough, length-append octets more);
    wrong = λ e. w.wrong (sym (get_or_append_left octets more 0 (length w.text + w.line.size + 1) (omega (arith, w.enough))) ∙ e);
  }

  framed_more : (check : Line → Option RecordFault) (octets more : List ℕ) (l : Line) (message : List ℕ) (len : ℕ) → IsFramed format check octets l message len → IsFramed format check (octets ++ more) l message len
  framed_more check octets more l message len framed = record {
    rest = framed.rest ++ more;
    octets_are =
        ap (λ (o : List ℕ). o ++ more) framed.octets_are ∙ append_assoc (line_text l) (10 ∷ (message ++ 10 ∷ framed.rest)) more
        ∙ ap (λ (t : List ℕ). line_text l ++ 10 ∷ t) (append_assoc message (10 ∷ framed.rest) more);
    is = framed.is;
    size_is = framed.size_is;
    len_is = framed.len_is;
    keeps = framed.keeps;
  }

  line_breaks_more : (check : Line → Option RecordFault) (octets more : List ℕ) → BreaksLine format check fault.Line octets → BreaksLine format check fault.Line (octets ++ more)
  line_breaks_more check octets more (inl long) =
      inl (record { long = omega (arith, long.long, length-append octets more); no_feed = ap (list_any is_feed) (take-append-le longest_line octets more long.long) ∙ long.no_feed })
  line_breaks_more check octets more (inr (inl wrong)) = inr (inl (record { text = wrong.text; begins = BeginsLine-append octets more wrong.text wrong.begins; none = wrong.none }))
  line_breaks_more check octets more (inr (inr (inl wrong))) = inr (inr (inl (wrong_end_more check octets more wrong)))
  line_breaks_more check octets more (inr (inr (inr fails))) = inr (inr (inr (fails_more check fault.Line octets more fails)))

  -- a record that breaks the octets breaks them whatever follows
  pub breaks_more : (f : RecordFault) (h : List Item) (octets more : List ℕ) → BreaksRecord format f h octets → BreaksRecord format f h (octets ++ more)
  breaks_more fault.Message h octets more none =
      record { line = none.line; message = none.message; len = none.len; framed = framed_more (line_fault h) octets more none.line none.message none.len none.framed; none = none.none }
  breaks_more fault.Line h octets more b = line_breaks_more (line_fault h) octets more b
  breaks_more fault.Opening h octets more b = fails_more (line_fault h) fault.Opening octets more b
  breaks_more fault.Torn h octets more b = fails_more (line_fault h) fault.Torn octets more b
  breaks_more fault.MomentBack h octets more b = fails_more (line_fault h) fault.MomentBack octets more b
  breaks_more fault.Number h octets more b = fails_more (line_fault h) fault.Number octets more b
  breaks_more fault.NothingOpen h octets more b = fails_more (line_fault h) fault.NothingOpen octets more b
  breaks_more fault.TooLong h octets more b = fails_more (line_fault h) fault.TooLong octets more b
  breaks_more fault.Memory h octets more b = fails_more (line_fault h) fault.Memory octets more b
  breaks_more fault.Cause h octets more b = fails_more (line_fault h) fault.Cause octets more b
