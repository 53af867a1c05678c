-- What a reader of records keeps, from call to call.
use Rattle.std.proofs.Common.{◌≡◌, ◌≢◌, ℕ, ◌+◌, Bool, true, false, ◌-◌, List, [], ◌∷◌, ◌++◌, length, take, drop, Option, Some, None, refl, sym, ap, subst, ◌∙◌, arith, inl, inr, append_assoc, length-append, length-drop, ◌<◌, ◌≤◌}
use Rattle.std.proofs.Math.Seq.{drop-append_seam, take-append_seam}
use Rattle.std.proofs.lemmas.List.{append-nil, drop-append-le, take-append-le}
use Rattle.std.proofs.lemmas.Slice.Eq.{bytes_eq-Decides}
use Rattle.std.specs.Prelude.{◌||◌, bytes_eq, ◌==◌}
use Rattle.std.proofs.lemmas.Bool.{eqb-true, eqb-false}
use Rattle.hc_fields.specs.Views.{piece}
use Rattle.hc_transcript.specs.declared.fault.RecordFault.{RecordFault}
use Rattle.hc_transcript.specs.declared.fault.RecordFault.TheVariants as fault
use Rattle.hc_transcript.specs.declared.format.Format.{Format}
use Rattle.hc_transcript.specs.declared.format.Format.TheVariants as form
use Rattle.hc_transcript.specs.declared.line.Line.{Line}
use Rattle.hc_transcript.specs.declared.line.ToldCause.{ToldCause}
use Rattle.hc_transcript.specs.declared.line.ToldCause.TheVariants.{Untold, NoExchange, Exchange}
use Rattle.hc_transcript.specs.declared.open_numbers.Standing.{Standing}
use Rattle.hc_transcript.specs.declared.reader.Lent.{Lent}
use Rattle.hc_transcript.specs.declared.reader.RecordReader.{RecordReader}
use Rattle.hc_transcript.specs.declared.line.Kind.{Kind}
use Rattle.hc_transcript.specs.declared.line.Kind.TheVariants as kind
use Rattle.hc_transcript.specs.declared.places.RecordPlaces.{RecordPlaces}
use Rattle.hc_transcript.specs.declared.record.Passed.{Passed}
use Rattle.hc_transcript.specs.declared.record.Passed.TheVariants as passed
use Rattle.hc_transcript.specs.declared.record.Record.{Record}
use Rattle.hc_transcript.specs.Limits.{longest_unfinished}
use Rattle.hc_transcript.specs.Items.{Item}
use Rattle.hc_transcript.specs.History.{next_position}
use Rattle.hc_transcript.specs.Records.{opening, line_has_cause, exchange_told, line_text, passed_kind, passed_octets, passed_cause, told, told_cause, CanTell, line_of, message_of, record_text, records_text}
use Rattle.hc_transcript.specs.Lines.{WritesCause, IsEnd}
use Rattle.hc_transcript.specs.Checks.{line_fault, has_right_length}
use Rattle.hc_transcript.specs.Transcript.{is_to_head, IsItemOf, IsReadAs, Splits, IsTranscript}
use Rattle.hc_transcript.specs.Reading.{Refuses, item_at}
use Rattle.hc_transcript.specs.Standing.{StandsAs, standing_fault}
use Rattle.hc_transcript.specs.Malformed.{IsFramed, IsUnfinished, BreaksLine, IsNoMessage, HasNoMessage, BreaksRecord, IsUnfinishedOpening}
use Rattle.hc_transcript.specs.Reader.{ReadsTo, Agrees, waiting, unread, WaitsBy, Waits, MeetsFault, Advances, position_by, reader_position, HasUnreadBy}
use Rattle.hc_transcript.specs.Lending.{lent_len, lent_end, lent_item}
use Rattle.hc_transcript.specs.ReaderParts.{is_whole_by, KeepsRead}
use Rattle.hc_transcript.proofs.CheckLemmas.{standing_fault_is, no_message_check, order_kept}

-- the checks by what the reader keeps are those after the history
checks_same : (r : RecordReader) (octets : List ℕ) (records : List Record) (h : List Item) → Agrees r octets records h → standing_fault r.standing ≡ line_fault h
checks_same r octets records h agrees = λ i. λ l. standing_fault_is r.standing h l agrees.stands i

-- all octets that are held wait where none are lent
held_waits : (r : RecordReader) → r.lent ≡ None → r.held ≡ waiting r
held_waits r none = ap (λ (o : Option Lent). drop (lent_len o) r.held) (sym none)

opened : (r : RecordReader) (format : Format) (octets : List ℕ) (records : List Record) (h : List Item) → r.format ≡ Some format → r.lent ≡ None → Agrees r octets records h
    → Splits format octets records h r.held
opened r format octets records h is none agrees =
    subst (λ (o : Option Format). ReadsTo o octets records h r.held) is (subst (λ (held : List ℕ). ReadsTo r.format octets records h held) (sym (held_waits r none)) agrees.reads)

position_of : (r : RecordReader) (format : Format) (h : List Item) → r.format ≡ Some format → StandsAs r.standing h → reader_position r ≡ next_position h
position_of r format h is stands = ap (λ (o : Option Format). position_by o r.standing.records) is ∙ ap (λ (n : ℕ). n + 1) stands.records

-- a line that fails a check breaks the record
pub record_breaks : (format : Format) (f : RecordFault) (h : List Item) (octets : List ℕ) → BreaksLine format (line_fault h) f octets → BreaksRecord format f h octets
record_breaks format fault.Message h octets b = absurd (no_message_check b.line _ _ _ _ _ _ b.fails)
record_breaks format fault.Opening h octets b = b
record_breaks format fault.Line h octets b = b
record_breaks format fault.Torn h octets b = b
record_breaks format fault.MomentBack h octets b = b
record_breaks format fault.Number h octets b = b
record_breaks format fault.NothingOpen h octets b = b
record_breaks format fault.TooLong h octets b = b
record_breaks format fault.Memory h octets b = b
record_breaks format fault.Cause h octets b = b

pub stops_by_line : (r : RecordReader) (format : Format) (octets : List ℕ) (records : List Record) (h : List Item) (f : RecordFault) → r.format ≡ Some format → r.lent ≡ None → Agrees r octets records h
    → BreaksLine format (standing_fault r.standing) f r.held → MeetsFault r octets h f
stops_by_line r format octets records h f is lacks agrees breaks =
    let b : BreaksLine format (line_fault h) f r.held =
    subst (λ (check : Line → Option RecordFault). BreaksLine format check f r.held) (checks_same r octets records h agrees) breaks in
    inr (record {
      format = format;
      format_is = is;
      breaks = record { records = records; rest = r.held; splits = opened r format octets records h is lacks agrees; breaks = record_breaks format f h r.held b };
      position_is = position_of r format h is agrees.stands;
    })

-- octets that are no message break the record
pub item_breaks : (format : Format) (f : RecordFault) (h : List Item) (octets : List ℕ) (Nothing : Type 0) → (Nothing → HasNoMessage format h octets) → Refuses f Nothing → f ≢ fault.Memory → BreaksRecord format f h octets
item_breaks format fault.Message h octets Nothing so refuses other = so refuses
item_breaks format fault.Memory h octets Nothing so refuses other = absurd (other refl)
item_breaks format fault.Opening h octets Nothing so refuses other = absurd refuses
item_breaks format fault.Line h octets Nothing so refuses other = absurd refuses
item_breaks format fault.Torn h octets Nothing so refuses other = absurd refuses
item_breaks format fault.MomentBack h octets Nothing so refuses other = absurd refuses
item_breaks format fault.Number h octets Nothing so refuses other = absurd refuses
item_breaks format fault.NothingOpen h octets Nothing so refuses other = absurd refuses
item_breaks format fault.TooLong h octets Nothing so refuses other = absurd refuses
item_breaks format fault.Cause h octets Nothing so refuses other = absurd refuses

pub stops_by_item : (r : RecordReader) (format : Format) (octets : List ℕ) (records : List Record) (h : List Item) (f : RecordFault) (l : Line) (message : List ℕ) (len : ℕ) (to_head : Bool)
    → r.format ≡ Some format → r.lent ≡ None → Agrees r octets records h → IsFramed format (standing_fault r.standing) r.held l message len → to_head ≡ is_to_head l.kind l.number h
    → Refuses f (IsNoMessage l.kind to_head message) → f ≢ fault.Memory → MeetsFault r octets h f
stops_by_item r format octets records h f l message len to_head is lacks agrees framed head-is refuses other =
    let framed' : IsFramed format (line_fault h) r.held l message len =
    subst (λ (check : Line → Option RecordFault). IsFramed format check r.held l message len) (checks_same r octets records h agrees) framed in
    let none : IsNoMessage l.kind to_head message → HasNoMessage format h r.held =
    λ none. record { line = l; message = message; len = len; framed = framed'; none = subst (λ (b : Bool). IsNoMessage l.kind b message) head-is none } in
    inr (record {
      format = format;
      format_is = is;
      breaks = record { records = records; rest = r.held; splits = opened r format octets records h is lacks agrees; breaks = item_breaks format f h r.held _ none refuses other };
      position_is = position_of r format h is agrees.stands;
    })

pub waits_on : (r : RecordReader) (format : Format) (octets : List ℕ) (records : List Record) (h : List Item) → r.format ≡ Some format → r.lent ≡ None → Agrees r octets records h
    → IsUnfinished format (standing_fault r.standing) r.held → Waits r h
waits_on r format octets records h is lacks agrees waits =
    subst (λ (held : List ℕ). WaitsBy r.format h held) (held_waits r lacks)
    (subst (λ (o : Option Format). WaitsBy o h r.held) (sym is)
    (subst (λ (check : Line → Option RecordFault). IsUnfinished format check r.held) (checks_same r octets records h agrees) waits))

-- ---- the record of a line and a message

abbrev pub passed_as : Kind → ToldCause → List ℕ → Passed
passed_as kind.ClientRequest cause message = passed.ClientRequest message
passed_as kind.OriginRequest cause message = passed.OriginRequest message (exchange_told cause)
passed_as kind.OriginResponse cause message = passed.OriginResponse message
passed_as kind.OriginFailure cause message = passed.OriginFailure
passed_as kind.ClientReply cause message = passed.ClientReply message

kind_as : (k : Kind) (cause : ToldCause) (message : List ℕ) → passed_kind (passed_as k cause message) ≡ k
kind_as kind.ClientRequest cause message = refl
kind_as kind.OriginRequest cause message = refl
kind_as kind.OriginResponse cause message = refl
kind_as kind.OriginFailure cause message = refl
kind_as kind.ClientReply cause message = refl

empty_of : (held : List ℕ) → (length held == 0) ≡ true → held ≡ []
empty_of [] e = refl
empty_of (b ∷ held) e = absurd (omega (arith, eqb-true (length (b ∷ held)) 0 e))

pub octets_as : (k : Kind) (cause : ToldCause) (message : List ℕ) → has_right_length k (length message) ≡ true → passed_octets (passed_as k cause message) ≡ message
octets_as kind.ClientRequest cause message right = refl
octets_as kind.OriginRequest cause message right = refl
octets_as kind.OriginResponse cause message right = refl
octets_as kind.OriginFailure cause message right = sym (empty_of message right)
octets_as kind.ClientReply cause message right = refl

-- a cause that is told is told again
told_again : (cause : ToldCause) (text : List ℕ) → WritesCause text cause → told (exchange_told cause) ≡ cause
told_again Untold text tells = absurd tells
told_again NoExchange text tells = refl
told_again (Exchange n) text tells = refl

end_told : (text : List ℕ) (size : ℕ) (cause : ToldCause) → IsEnd true text size cause → told (exchange_told cause) ≡ cause
end_told text size cause is = told_again cause is.behind is.writes_cause

cause_as : (format : Format) (k : Kind) (cause : ToldCause) (message end : List ℕ) (size : ℕ) → IsEnd (line_has_cause format k) end size cause → told_cause format (passed_as k cause message) ≡ cause
cause_as form.Second kind.OriginRequest cause message end size is = end_told end size cause is
cause_as form.First kind.OriginRequest cause message end size is = sym is.1
cause_as form.First kind.ClientRequest cause message end size is = sym is.1
cause_as form.First kind.OriginResponse cause message end size is = sym is.1
cause_as form.First kind.OriginFailure cause message end size is = sym is.1
cause_as form.First kind.ClientReply cause message end size is = sym is.1
cause_as form.Second kind.ClientRequest cause message end size is = sym is.1
cause_as form.Second kind.OriginResponse cause message end size is = sym is.1
cause_as form.Second kind.OriginFailure cause message end size is = sym is.1
cause_as form.Second kind.ClientReply cause message end size is = sym is.1

untold : (k : Kind) (cause : ToldCause) (message : List ℕ) → cause ≡ Untold → passed_cause (passed_as k cause message) ≡ None
untold kind.ClientRequest cause message is = refl
untold kind.OriginRequest cause message is = ap exchange_told is
untold kind.OriginResponse cause message is = refl
untold kind.OriginFailure cause message is = refl
untold kind.ClientReply cause message is = refl

abbrev pub record_as : Line → List ℕ → Record
record_as l message = record { number = l.number; moment = l.moment; of = passed_as l.kind l.cause message }

-- a record that was read may stand in its format
pub can_tell : (format : Format) (l : Line) (message end : List ℕ) → IsEnd (line_has_cause format l.kind) end l.size l.cause → CanTell format (record_as l message)
can_tell form.First l message end is = untold l.kind l.cause message is.1
can_tell form.Second l message end is = tt

pub line_as : (format : Format) (l : Line) (message end : List ℕ) → IsEnd (line_has_cause format l.kind) end l.size l.cause → length message ≡ l.size → message_of (record_as l message) ≡ message
    → line_of format (record_as l message) ≡ l
line_as format l message end ends size-is message-is =
    let size : length (message_of (record_as l message)) ≡ l.size = ap length message-is ∙ size-is in
    let cause = cause_as format l.kind l.cause message end l.size ends in
    λ i. record { kind = kind_as l.kind l.cause message i; number = l.number; moment = l.moment; size = size i; cause = cause i }

pub right_length : (s : Standing) (l : Line) → standing_fault s l ≡ None → has_right_length l.kind l.size ≡ true
right_length s l none = (order_kept s l none).right_length

-- the text of a record, as it stands in the octets
text_is : (format : Format) (one : Record) (l : Line) (message rest : List ℕ) → line_of format one ≡ l → message_of one ≡ message → line_text l ++ 10 ∷ (message ++ 10 ∷ rest) ≡ record_text format one ++ rest
text_is format one l message rest line-is message-is =
    ap (λ (k : Line). line_text k ++ 10 ∷ (message ++ 10 ∷ rest)) (sym line-is) ∙ ap (λ (m : List ℕ). line_text (line_of format one) ++ 10 ∷ (m ++ 10 ∷ rest)) (sym message-is)
    ∙ sym (append_assoc (line_text (line_of format one)) (10 ∷ (message_of one ++ 10 ∷ [])) rest ∙ ap (λ (t : List ℕ). line_text (line_of format one) ++ 10 ∷ t) (append_assoc (message_of one) (10 ∷ []) rest))

record_len : (format : Format) (one : Record) (l : Line) (message : List ℕ) (len : ℕ) → line_of format one ≡ l → message_of one ≡ message → length message ≡ l.size → len ≡ length (line_text l) + l.size + 2
    → len ≡ length (record_text format one)
record_len format one l message len line-is message-is size-is len-is =
    omega (arith, len-is, size-is, ap (λ (k : Line). length (line_text k)) line-is, ap length message-is, length-append (line_text (line_of format one)) (10 ∷ (message_of one ++ 10 ∷ [])), length-append (message_of one) (10 ∷ []))

-- one record more was read off the octets
pub splits_next : (format : Format) (octets : List ℕ) (records : List Record) (h : List Item) (held : List ℕ) (l : Line) (message : List ℕ) (len : ℕ) (one : Record) (item : Item)
    → Splits format octets records h held → IsFramed format (line_fault h) held l message len → IsItemOf l.kind l.cause l.number l.moment (is_to_head l.kind l.number h) message item
    → CanTell format one → line_of format one ≡ l → message_of one ≡ message → Splits format octets (one ∷ records) (item ∷ h) (drop len held)
splits_next format octets records h held l message len one item splits framed reads can line-is message-is =
    let text : held ≡ record_text format one ++ framed.rest = framed.octets_are ∙ text_is format one l message framed.rest line-is message-is in
    let len-is : len ≡ length (record_text format one) = record_len format one l message len line-is message-is framed.size_is framed.len_is in
    let rest : drop len held ≡ framed.rest = ap (drop len) text ∙ ap (λ (k : ℕ). drop k (record_text format one ++ framed.rest)) len-is ∙ drop-append_seam (record_text format one) framed.rest in
    let octets-are : octets ≡ opening format ++ (records_text format (one ∷ records) ++ drop len held) =
    splits.octets_are ∙ ap (λ (t : List ℕ). opening format ++ (records_text format records ++ t)) text ∙ ap (λ (t : List ℕ). opening format ++ t) (sym (append_assoc (records_text format records) (record_text format one) framed.rest))
    ∙ ap (λ (t : List ℕ). opening format ++ (records_text format (one ∷ records) ++ t)) (sym rest) in
    let reads-one : IsReadAs format h one item =
    subst (λ (k : Line). IsItemOf k.kind k.cause k.number k.moment (is_to_head k.kind k.number h) (message_of one) item) (sym line-is)
    (subst (λ (m : List ℕ). IsItemOf l.kind l.cause l.number l.moment (is_to_head l.kind l.number h) m item) (sym message-is) reads) in
    record { octets_are = octets-are; are_read = (splits.are_read, record { told = can; keeps = ap (line_fault h) line-is ∙ framed.keeps; reads = reads-one }) }

-- the message stands behind the line
message_there : (format : Format) (check : Line → Option RecordFault) (held : List ℕ) (l : Line) (message : List ℕ) (len : ℕ) → IsFramed format check held l message len
    → piece held (len - l.size - 1) l.size ≡ message
message_there format check held l message len framed =
    let front : List ℕ = line_text l ++ 10 ∷ [] in
    let held-is : held ≡ front ++ (message ++ 10 ∷ framed.rest) = framed.octets_are ∙ sym (append_assoc (line_text l) (10 ∷ []) (message ++ 10 ∷ framed.rest)) in
    let start-is : len - l.size - 1 ≡ length front = omega (arith, framed.len_is, length-append (line_text l) (10 ∷ [])) in
    (λ i. take l.size (drop (start-is i) (held-is i)))
    ∙ ap (take l.size) (drop-append_seam front (message ++ 10 ∷ framed.rest))
    ∙ ap (λ (n : ℕ). take n (message ++ 10 ∷ framed.rest)) (sym framed.size_is)
    ∙ take-append_seam message (10 ∷ framed.rest)

pub advances : (old new : RecordReader) (format : Format) (octets : List ℕ) (records : List Record) (h : List Item) (l : Line) (message : List ℕ) (len : ℕ) (to_head : Bool)
    → old.format ≡ Some format → old.lent ≡ None → Agrees old octets records h → IsFramed format (standing_fault old.standing) old.held l message len → to_head ≡ is_to_head l.kind l.number h
    → IsItemOf l.kind l.cause l.number l.moment to_head message (item_at new.places l message) → new.held ≡ old.held
    → new.lent ≡ Some (record { line = l; start = len - l.size - 1; len = len }) → new.format ≡ Some format → new.fault ≡ old.fault
    → StandsAs new.standing (item_at new.places l message ∷ h) → Advances new octets records h
advances old new format octets records h l message len to_head is lacks agrees framed head-is read held-is lent-is is' fault-is stands =
    let item : Item = item_at new.places l message in
    let one = record_as l message in
    let message-is : message_of one ≡ message =
    octets_as l.kind l.cause message (ap (has_right_length l.kind) framed.size_is ∙ right_length old.standing l framed.keeps) in
    let line-is : line_of format one ≡ l = line_as format l message framed.is.end framed.is.ends framed.size_is message-is in
    let framed' : IsFramed format (line_fault h) old.held l message len = subst (λ (check : Line → Option RecordFault). IsFramed format check old.held l message len) (checks_same old octets records h agrees) framed in
    let reads : IsItemOf l.kind l.cause l.number l.moment (is_to_head l.kind l.number h) message item =
    subst (λ (b : Bool). IsItemOf l.kind l.cause l.number l.moment b message item) head-is read in
    let behind : waiting new ≡ drop len old.held = (λ i. drop (lent_len (lent-is i)) (held-is i)) in
    let whole : Splits format octets (one ∷ records) (item ∷ h) (waiting new) =
    subst (λ (rest : List ℕ). Splits format octets (one ∷ records) (item ∷ h) rest) (sym behind)
    (splits_next format octets records h old.held l message len one item (opened old format octets records h is lacks agrees) framed' reads (can_tell format l message framed.is.end framed.is.ends) line-is message-is) in
    record {
      one = one;
      item = item;
      format = format;
      format_is = is';
      text_is =
          (λ i. take (lent_len (lent-is i)) (held-is i))
          ∙ (λ i. take (record_len format one l message len line-is message-is framed.size_is framed.len_is i) ((framed.octets_are ∙ text_is format one l message framed.rest line-is message-is) i))
          ∙ take-append_seam (record_text format one) framed.rest;
      agrees = record {
        unfailed = fault-is ∙ agrees.unfailed;
        reads = subst (λ (o : Option Format). ReadsTo o octets (one ∷ records) (item ∷ h) (waiting new)) (sym is') whole;
        stands = stands;
      };
      lends =
          (λ i. lent_item new.places (held-is i) (lent-is i))
          ∙ ap (λ (m : List ℕ). Some (item_at new.places l m)) (message_there format (standing_fault old.standing) old.held l message len framed);
    }

-- what is given up changes nothing of what was read
pub given_up : (old new : RecordReader) (octets : List ℕ) (records : List Record) (h : List Item) → Agrees old octets records h
    → new.held ≡ waiting old → new.lent ≡ None → KeepsRead old new → Agrees new octets records h
given_up old new octets records h agrees held-is lent-is keeps =
    let behind : waiting new ≡ waiting old = (λ i. drop (lent_len (lent-is i)) (held-is i)) in
    record {
      unfailed = keeps.fault ∙ agrees.unfailed;
      reads = subst (λ (held : List ℕ). ReadsTo new.format octets records h held) (sym behind) (subst (λ (o : Option Format). ReadsTo o octets records h (waiting old)) (sym keeps.format) agrees.reads);
      stands = subst (λ (s : Standing). StandsAs s h) (sym keeps.standing) agrees.stands;
    }

piece_stays : (front more : List ℕ) (s l : ℕ) → s + l ≤ length front → piece (front ++ more) s l ≡ piece front s l
piece_stays front more s l within =
    ap (λ (o : List ℕ). take l o) (drop-append-le s front more (omega (arith, within)))
    ∙ take-append-le l (drop s front) more (omega (arith, within, length-drop s front))

-- a piece more waits behind what is lent
pub waits_more : (held piece : List ℕ) (o : Option Lent) → lent_len o ≤ length held → drop (lent_len o) (held ++ piece) ≡ drop (lent_len o) held ++ piece
waits_more held piece o within = drop-append-le (lent_len o) held piece within

-- and what is lent stays
pub lent_stays : (places : RecordPlaces) (held more : List ℕ) (o : Option Lent) → lent_len o ≤ length held → lent_end o ≤ lent_len o → lent_item places (held ++ more) o ≡ lent_item places held o
lent_stays places held more None within inside = refl
lent_stays places held more (Some l) within inside =
    ap (λ (m : List ℕ). Some (item_at places l.line m)) (piece_stays held more l.start l.line.size (omega (arith, within, inside)))

-- a record takes octets
pub shrinks : (format : Format) (check : Line → Option RecordFault) (held : List ℕ) (l : Line) (message : List ℕ) (len : ℕ) → IsFramed format check held l message len → length (drop len held) < length held
shrinks format check held l message len framed =
    omega (arith, framed.len_is, length-drop len held, ap length framed.octets_are, length-append (line_text l) (10 ∷ (message ++ 10 ∷ framed.rest)), length-append message (10 ∷ framed.rest))

pub shrinks_from : (old : RecordReader) → old.lent ≡ None → (n : ℕ) → n < length old.held → n < unread old
shrinks_from old lacks n less = omega (arith, less, ap length (held_waits old lacks))

-- ---- what is left

-- less than a record is left where none is whole
pub unfinished_is_short : (format : Format) (s : Standing) (octets : List ℕ) → IsUnfinished format (standing_fault s) octets → length octets ≤ longest_unfinished
unfinished_is_short format s octets (inl line) = omega (arith, line.short)
unfinished_is_short format s octets (inr rest) =
    let o = order_kept s rest.line rest.keeps in
    omega (arith, rest.short, rest.has.begins.short, o.size_fits)

opening_length : (format : Format) → length (opening format) ≡ 5
opening_length form.First = refl
opening_length form.Second = refl

pub unfinished_opening_is_short : (octets : List ℕ) → IsUnfinishedOpening octets → length octets ≤ longest_unfinished
unfinished_opening_is_short octets u = omega (arith, ap length u.2, length-append octets u.1, opening_length u.0)

-- ---- the end

not_empty_of : (held : List ℕ) → (length held == 0) ≡ false → held ≢ []
not_empty_of held e is = eqb-false (length held) 0 e (ap length is)

no_opening_there : (a b : Bool) → (a || b) ≡ false → (a ≡ false) × (b ≡ false)
no_opening_there true b e = absurd cc
no_opening_there false b e = (refl, e)

not_both : true ≡ false → ⊥
not_both e = cc

opened_whole : (format : Format) (octets held : List ℕ) (records : List Record) (h : List Item) → ReadsTo None octets records h held → held ≡ opening format → IsTranscript format octets records h
opened_whole format octets held records h reads is =
    let octets-are : octets ≡ opening format ++ ([] ++ []) = reads.1.1 ∙ is ∙ sym (append-nil (opening format)) in
    subst (λ (rs : List Record). Splits format octets rs h []) (sym reads.0)
    (subst (λ (k : List Item). Splits format octets [] k []) (sym reads.1.0) (record { octets_are = octets-are; are_read = tt }))

pub whole_is : (r : RecordReader) (octets : List ℕ) (records : List Record) (h : List Item) → Agrees r octets records h → is_whole_by r.format (waiting r) ≡ true
    → (format : Format) × IsTranscript format octets records h
whole_is r octets records h agrees whole = go r.format agrees.reads whole
  where
    which : (b : Bool) → ReadsTo None octets records h (waiting r) → bytes_eq (waiting r) (opening form.First) ≡ b → (b || bytes_eq (waiting r) (opening form.Second)) ≡ true
        → (format : Format) × IsTranscript format octets records h
    which true reads first whole = (form.First, opened_whole form.First octets (waiting r) records h reads ((bytes_eq-Decides (waiting r) (opening form.First)).0 first))
    which false reads first whole = (form.Second, opened_whole form.Second octets (waiting r) records h reads ((bytes_eq-Decides (waiting r) (opening form.Second)).0 whole))

    go : (o : Option Format) → ReadsTo o octets records h (waiting r) → is_whole_by o (waiting r) ≡ true → (format : Format) × IsTranscript format octets records h
    go (Some format) reads whole = (format, subst (λ (rest : List ℕ). Splits format octets records h rest) (empty_of (waiting r) whole) reads)
    go None reads whole = which (bytes_eq (waiting r) (opening form.First)) reads refl whole

pub unread_left : (o : Option Format) (held : List ℕ) → is_whole_by o held ≡ false → HasUnreadBy o held
unread_left (Some format) held e = not_empty_of held e
unread_left None held e = none (no_opening_there (bytes_eq held (opening form.First)) (bytes_eq held (opening form.Second)) e)
  where
    none : ((bytes_eq held (opening form.First) ≡ false) × (bytes_eq held (opening form.Second) ≡ false)) → (format : Format) → held ≢ opening format
    none lacks form.First is = not_both (sym ((bytes_eq-Decides held (opening form.First)).1 is) ∙ lacks.0)
    none lacks form.Second is = not_both (sym ((bytes_eq-Decides held (opening form.Second)).1 is) ∙ lacks.1)
