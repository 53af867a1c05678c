-- A transcript is converted a record at a time.
use Rattle.std.proofs.Common.{◌≡◌, ◌≢◌, ℕ, suc, ◌+◌, ◌<◌, ◌≤◌, Bool, true, false, not, List, [], ◌∷◌, ◌++◌, length, drop, map, Option, Some, None, Result, Ok, Err, IfErr, refl, sym, ap, subst, ◌∙◌, arith, inl, inr, append_assoc, append-nil, length-append}
use Rattle.std.specs.Prelude.{is_some, if◌then◌else◌}
use Rattle.std.specs.Result.{IsErrAnd}
use Rattle.std.proofs.Math.Seq.{drop-append_seam}
use Rattle.hc_transcript.specs.declared.converting.ConvertFault.{ConvertFault}
use Rattle.hc_transcript.specs.declared.converting.ConvertFault.TheVariants.{Malformed}
use Rattle.hc_transcript.specs.declared.fault.RecordFault.{RecordFault}
use Rattle.hc_transcript.specs.declared.fault.RecordFault.TheVariants as fault
use Rattle.hc_transcript.specs.declared.format.Format.{Format}
use Rattle.hc_transcript.specs.declared.format.Format.TheVariants as form
use Rattle.hc_transcript.specs.declared.line.Line.{Line}
use Rattle.hc_transcript.specs.declared.line.ToldCause.TheVariants.{Untold}
use Rattle.hc_transcript.specs.declared.open_numbers.Standing.{Standing}
use Rattle.hc_transcript.specs.declared.record.Passed.{Passed}
use Rattle.hc_transcript.specs.declared.record.Passed.TheVariants.{ClientRequest, OriginRequest, OriginResponse, OriginFailure, ClientReply}
use Rattle.hc_transcript.specs.declared.record.Record.{Record}
use Rattle.hc_transcript.specs.Records.{opening, line_text, passed_kind, passed_octets, passed_cause, CanTell, line_of, message_of, record_text, records_text}
use Rattle.hc_transcript.specs.Items.{Item, Exchange, Forward, exchange_is_head, forward_is_head}
use Rattle.hc_transcript.specs.Items as items
use Rattle.hc_transcript.specs.History.{next_position, exchange_of, exchange_after, forward_of, forward_after, last_moment, last_exchange, last_forward}
use Rattle.hc_transcript.specs.Checks.{line_fault, first_fault, cause_is_open, has_right_length}
use Rattle.hc_transcript.specs.Transcript.{is_to_head, ReadsResponse, IsItemOf, Follows, AreReadAs, Splits, IsTranscript}
use Rattle.hc_transcript.specs.Reading.{Refuses}
use Rattle.hc_transcript.specs.Standing.{StandsAs, standing_fault}
use Rattle.hc_transcript.specs.Malformed.{IsFramed, IsUnfinished, BreaksLine, BreaksRecord, IsNoMessage, HasNoMessage}
use Rattle.hc_transcript.specs.Converting.{passed_without_cause, without_cause, item_without_cause, converted, IsMalformed, FailsBy, line_without_cause, malformed_at, ReadsOne}
use Rattle.hc_transcript.proofs.CheckLemmas.{standing_fault_is}
use Rattle.hc_transcript.proofs.ReaderLemmas.{record_breaks, item_breaks, record_as, octets_as, line_as, can_tell, right_length, splits_next}

-- ---- what breaks

same_checks : (s : Standing) (h : List Item) → StandsAs s h → standing_fault s ≡ line_fault h
same_checks s h stands = λ i. λ l. standing_fault_is s h l stands i

position_behind : (s : Standing) (h : List Item) (position : ℕ) → StandsAs s h → position ≡ s.records + 1 → position ≡ next_position h
position_behind s h position stands is = is ∙ ap (λ (n : ℕ). n + 1) stands.records

broken_there : (format : Format) (octets : List ℕ) (records : List Record) (h : List Item) (rest : List ℕ) (position : ℕ) (f : RecordFault) → Splits format octets records h rest
    → position ≡ next_position h → BreaksRecord format f h rest → IsMalformed octets position f
broken_there format octets records h rest position f splits at breaks =
    inr (format, h, at, inl (record { records = records; rest = rest; splits = splits; breaks = breaks }))

-- a fault that isn't memory
fails_at : (octets : List ℕ) (position : ℕ) (f : RecordFault) → (f ≢ fault.Memory → IsMalformed octets position f) → FailsBy octets (malformed_at position f)
fails_at octets position fault.Memory is = tt
fails_at octets position fault.Opening is = is (λ e. cc)
fails_at octets position fault.Line is = is (λ e. cc)
fails_at octets position fault.Torn is = is (λ e. cc)
fails_at octets position fault.MomentBack is = is (λ e. cc)
fails_at octets position fault.Number is = is (λ e. cc)
fails_at octets position fault.NothingOpen is = is (λ e. cc)
fails_at octets position fault.Message is = is (λ e. cc)
fails_at octets position fault.TooLong is = is (λ e. cc)
fails_at octets position fault.Cause is = is (λ e. cc)

pub fails_by_line : (format : Format) (octets : List ℕ) (records : List Record) (h : List Item) (rest : List ℕ) (s : Standing) (position : ℕ) (f : RecordFault)
    → Splits format octets records h rest → StandsAs s h → position ≡ s.records + 1 → BreaksLine format (standing_fault s) f rest → FailsBy octets (malformed_at position f)
fails_by_line format octets records h rest s position f splits stands at breaks =
    fails_at octets position f (λ other. broken_there format octets records h rest position f splits (position_behind s h position stands at)
    (record_breaks format f h rest (subst (λ (check : Line → Option RecordFault). BreaksLine format check f rest) (same_checks s h stands) breaks)))

pub fails_torn : (format : Format) (octets : List ℕ) (records : List Record) (h : List Item) (rest : List ℕ) (s : Standing) (position : ℕ)
    → Splits format octets records h rest → StandsAs s h → position ≡ s.records + 1 → rest ≢ [] → IsUnfinished format (standing_fault s) rest → FailsBy octets (Malformed position fault.Torn)
fails_torn format octets records h rest s position splits stands at some torn =
    inr (
      format,
      h,
      position_behind s h position stands at,
      inr (
        refl,
        record {
          records = records;
          rest = rest;
          splits = splits;
          some = some;
          torn = subst (λ (check : Line → Option RecordFault). IsUnfinished format check rest) (same_checks s h stands) torn;
        },
      ),
    )

framed_after : (format : Format) (s : Standing) (h : List Item) (rest : List ℕ) (l : Line) (message : List ℕ) (len : ℕ) → StandsAs s h
    → IsFramed format (standing_fault s) rest l message len → IsFramed format (line_fault h) rest l message len
framed_after format s h rest l message len stands framed =
    subst (λ (check : Line → Option RecordFault). IsFramed format check rest l message len) (same_checks s h stands) framed

pub fails_by_item : (format : Format) (octets : List ℕ) (records : List Record) (h : List Item) (rest : List ℕ) (s : Standing) (position : ℕ) (f : RecordFault) (l : Line) (message : List ℕ)
    (len : ℕ) (to_head : Bool) → Splits format octets records h rest → StandsAs s h → position ≡ s.records + 1 → IsFramed format (standing_fault s) rest l message len
    → to_head ≡ is_to_head l.kind l.number h → Refuses f (IsNoMessage l.kind to_head message) → FailsBy octets (malformed_at position f)
fails_by_item format octets records h rest s position f l message len to_head splits stands at framed head-is refuses =
    let none : IsNoMessage l.kind to_head message → HasNoMessage format h rest =
    λ none. record {
      line = l;
      message = message;
      len = len;
      framed = framed_after format s h rest l message len stands framed;
      none = subst (λ (b : Bool). IsNoMessage l.kind b message) head-is none;
    } in
    fails_at octets position f (λ other. broken_there format octets records h rest position f splits (position_behind s h position stands at)
    (item_breaks format f h rest _ none refuses other))

-- ---- one record

pub reads_one : (format : Format) (octets : List ℕ) (records : List Record) (h : List Item) (rest : List ℕ) (s new : Standing) (l : Line) (message : List ℕ) (len : ℕ) (to_head : Bool)
    (item : Item) → Splits format octets records h rest → StandsAs s h → IsFramed format (standing_fault s) rest l message len → to_head ≡ is_to_head l.kind l.number h
    → IsItemOf l.kind l.cause l.number l.moment to_head message item → StandsAs new (item ∷ h) → ReadsOne format octets records h (drop len rest) l message new
reads_one format octets records h rest s new l message len to_head item splits stands framed head-is read stands-new =
    let one = record_as l message in
    let message-is : message_of one ≡ message = octets_as l.kind l.cause message (ap (has_right_length l.kind) framed.size_is ∙ right_length s l framed.keeps) in
    let line-is : line_of format one ≡ l = line_as format l message framed.is.end framed.is.ends framed.size_is message-is in
    let reads : IsItemOf l.kind l.cause l.number l.moment (is_to_head l.kind l.number h) message item =
    subst (λ (b : Bool). IsItemOf l.kind l.cause l.number l.moment b message item) head-is read in
    record {
      one = one;
      item = item;
      splits = splits_next format octets records h rest l message len one item splits (framed_after format s h rest l message len stands framed) reads
          (can_tell format l message framed.is.end framed.is.ends) line-is message-is;
      stands = stands-new;
      line_is = line-is;
      message_is = message-is;
    }

-- a record has octets, and no more than there are
pub frame_fits : (format : Format) (check : Line → Option RecordFault) (rest : List ℕ) (l : Line) (message : List ℕ) (len : ℕ) → IsFramed format check rest l message len
    → (0 < len) × (len ≤ length rest)
frame_fits format check rest l message len framed = (
  omega (arith, framed.len_is),
  omega (arith, framed.len_is, framed.size_is, ap length framed.octets_are, length-append (line_text l) (10 ∷ (message ++ 10 ∷ framed.rest)), length-append message (10 ∷ framed.rest)),
)

-- an error that is handed on
pub fails_from : {T : Type 0} (octets : List ℕ) (f : ConvertFault) (answer : Result T ConvertFault) → IsErrAnd answer (λ g. g ≡ f) → FailsBy octets f → IfErr answer (FailsBy octets)
fails_from octets f (Ok x) is fails = absurd is
fails_from octets f (Err g) is fails = subst (FailsBy octets) (sym is) fails

-- ---- the text

kind_without : (p : Passed) → passed_kind (passed_without_cause p) ≡ passed_kind p
kind_without (ClientRequest m) = refl
kind_without (OriginRequest m c) = refl
kind_without (OriginResponse m) = refl
kind_without OriginFailure = refl
kind_without (ClientReply m) = refl

octets_without : (p : Passed) → passed_octets (passed_without_cause p) ≡ passed_octets p
octets_without (ClientRequest m) = refl
octets_without (OriginRequest m c) = refl
octets_without (OriginResponse m) = refl
octets_without OriginFailure = refl
octets_without (ClientReply m) = refl

line_without : (format : Format) (one : Record) → line_of form.First (without_cause one) ≡ line_without_cause (line_of format one)
line_without format one =
    λ i. record { kind = kind_without one.of i; number = one.number; moment = one.moment; size = length (octets_without one.of i); cause = Untold }

-- the text of one record more
pub converted_more : (format : Format) (records : List Record) (one : Record) (l : Line) (message before after : List ℕ) → line_of format one ≡ l → message_of one ≡ message
    → before ≡ converted records → after ≡ before ++ (line_text (line_without_cause l) ++ 10 ∷ (message ++ 10 ∷ [])) → after ≡ converted (one ∷ records)
converted_more format records one l message before after line-is message-is before-is after-is =
    let text : line_text (line_without_cause l) ++ 10 ∷ (message ++ 10 ∷ []) ≡ record_text form.First (without_cause one) =
    sym ((λ i. line_text (line_without format one i) ++ 10 ∷ (octets_without one.of i ++ 10 ∷ []))
    ∙ (λ i. line_text (line_without_cause (line-is i)) ++ 10 ∷ (message-is i ++ 10 ∷ []))) in
    after-is ∙ (λ i. before-is i ++ text i)
    ∙ append_assoc (opening form.First) (records_text form.First (map without_cause records)) (record_text form.First (without_cause one))

-- behind the opening nothing is read yet
pub opened_at : (format : Format) (octets rest behind : List ℕ) → octets ≡ opening format ++ rest → behind ≡ drop (length (opening format)) octets → Splits format octets [] [] behind
opened_at format octets rest behind is behind-is =
    let same : behind ≡ rest = behind-is ∙ ap (drop (length (opening format))) is ∙ drop-append_seam (opening format) rest in
    record { octets_are = is ∙ ap (λ (t : List ℕ). opening format ++ t) (sym same); are_read = tt }

-- ---- of the first format

passed_same : (p : Passed) → passed_cause p ≡ None → passed_without_cause p ≡ p
passed_same (ClientRequest m) none = refl
passed_same (OriginRequest m c) none = λ i. OriginRequest m (sym none i)
passed_same (OriginResponse m) none = refl
passed_same OriginFailure none = refl
passed_same (ClientReply m) none = refl

record_same : (r : Record) → CanTell form.First r → without_cause r ≡ r
record_same r can = λ i. record { number = r.number; moment = r.moment; of = passed_same r.of can i }

records_same : (records : List Record) (h : List Item) → AreReadAs form.First records h → map without_cause records ≡ records
records_same [] [] read = refl
records_same [] (item ∷ h) read = absurd read
records_same (r ∷ records) [] read = absurd read
records_same (r ∷ records) (item ∷ h) read = λ i. record_same r read.1.told i ∷ records_same records h read.0 i

pub converted_itself : (octets : List ℕ) (records : List Record) (h : List Item) → IsTranscript form.First octets records h → converted records ≡ octets
converted_itself octets records h t =
    ap (λ (rs : List Record). opening form.First ++ records_text form.First rs) (records_same records h t.are_read)
    ∙ ap (λ (text : List ℕ). opening form.First ++ text) (sym (append-nil (records_text form.First records)))
    ∙ sym t.octets_are

-- ---- what is open behind records without causes

pub same_length : (h : List Item) → length (map item_without_cause h) ≡ length h
same_length [] = refl
same_length (item ∷ h) = ap suc (same_length h)

pub same_exchange : (e : ℕ) (h : List Item) → exchange_of e (map item_without_cause h) ≡ exchange_of e h
same_exchange e [] = refl
same_exchange e (items.ClientRequest n t q g ∷ h) = λ i. exchange_after e (same_length h i + 1) (items.ClientRequest n t q g) (same_exchange e h i)
same_exchange e (items.OriginRequest n t q g c ∷ h) = same_exchange e h
same_exchange e (items.OriginResponse n t r ∷ h) = same_exchange e h
same_exchange e (items.OriginFailure n t ∷ h) = same_exchange e h
same_exchange e (items.ClientReply n t r ∷ h) = λ i. exchange_after e (same_length h i + 1) (items.ClientReply n t r) (same_exchange e h i)

pub same_forward : (f : ℕ) (h : List Item) → forward_of f (map item_without_cause h) ≡ forward_of f h
same_forward f [] = refl
same_forward f (items.ClientRequest n t q g ∷ h) = same_forward f h
same_forward f (items.OriginRequest n t q g c ∷ h) = ap (forward_after f (items.OriginRequest n t q g None)) (same_forward f h)
same_forward f (items.OriginResponse n t r ∷ h) = ap (forward_after f (items.OriginResponse n t r)) (same_forward f h)
same_forward f (items.OriginFailure n t ∷ h) = ap (forward_after f (items.OriginFailure n t)) (same_forward f h)
same_forward f (items.ClientReply n t r ∷ h) = same_forward f h

-- ---- and which checks they pass

same_moment : (h : List Item) → last_moment (map item_without_cause h) ≡ last_moment h
same_moment [] = refl
same_moment (items.ClientRequest n t q g ∷ h) = refl
same_moment (items.OriginRequest n t q g c ∷ h) = refl
same_moment (items.OriginResponse n t r ∷ h) = refl
same_moment (items.OriginFailure n t ∷ h) = refl
same_moment (items.ClientReply n t r ∷ h) = refl

same_last_exchange : (h : List Item) → last_exchange (map item_without_cause h) ≡ last_exchange h
same_last_exchange [] = refl
same_last_exchange (items.ClientRequest n t q g ∷ h) = refl
same_last_exchange (items.OriginRequest n t q g c ∷ h) = same_last_exchange h
same_last_exchange (items.OriginResponse n t r ∷ h) = same_last_exchange h
same_last_exchange (items.OriginFailure n t ∷ h) = same_last_exchange h
same_last_exchange (items.ClientReply n t r ∷ h) = same_last_exchange h

same_last_forward : (h : List Item) → last_forward (map item_without_cause h) ≡ last_forward h
same_last_forward [] = refl
same_last_forward (items.ClientRequest n t q g ∷ h) = same_last_forward h
same_last_forward (items.OriginRequest n t q g c ∷ h) = refl
same_last_forward (items.OriginResponse n t r ∷ h) = same_last_forward h
same_last_forward (items.OriginFailure n t ∷ h) = same_last_forward h
same_last_forward (items.ClientReply n t r ∷ h) = same_last_forward h

-- a line that passes every check passes all but that of its cause
skip : (a b c d e g : Bool)
    → (if not a then Some fault.Line
    else (if not b then Some fault.TooLong
    else (if c then Some fault.MomentBack
    else (if not d then Some fault.Number
    else (if not e then Some fault.Cause
    else (if not g then Some fault.NothingOpen
    else None)))))) ≡ None
    → (if not a then Some fault.Line
    else (if not b then Some fault.TooLong
    else (if c then Some fault.MomentBack
    else (if not d then Some fault.Number
    else (if not true then Some fault.Cause
    else (if not g then Some fault.NothingOpen
    else None)))))) ≡ None
skip false b c d e g keeps = keeps
skip true false c d e g keeps = keeps
skip true true true d e g keeps = keeps
skip true true false false e g keeps = keeps
skip true true false true true g keeps = keeps
skip true true false true false g keeps = absurd (cc)

still_keeps : (l : Line) (h : List Item)
    → first_fault l (last_moment h) (last_exchange h) (last_forward h) (cause_is_open l.cause h) (is_some (exchange_of l.number h)) (is_some (forward_of l.number h)) ≡ None
    → first_fault (line_without_cause l) (last_moment (map item_without_cause h)) (last_exchange (map item_without_cause h)) (last_forward (map item_without_cause h)) true
    (is_some (exchange_of l.number (map item_without_cause h))) (is_some (forward_of l.number (map item_without_cause h))) ≡ None
still_keeps l h keeps =
    (λ i. first_fault (line_without_cause l) (same_moment h i) (same_last_exchange h i) (same_last_forward h i) true
    (is_some (same_exchange l.number h i)) (is_some (same_forward l.number h i)))
    ∙ skip _ _ _ _ _ _ keeps

module _ (format : Format) where
  follows : (h : List Item) (number moment : ℕ) (p : Passed) (item : Item) → Follows format h (record { number = number; moment = moment; of = p }) item
      → Follows form.First (map item_without_cause h) (without_cause (record { number = number; moment = moment; of = p })) (item_without_cause item)
  follows h number moment (ClientRequest m) item f = record {
    told = refl;
    keeps = still_keeps (line_of format (record { number = number; moment = moment; of = ClientRequest m })) h f.keeps;
    reads = (f.reads.0, f.reads.1, f.reads.2, ap item_without_cause f.reads.3);
  }
  follows h number moment (OriginRequest m cause) item f = record {
    told = refl;
    keeps = still_keeps (line_of format (record { number = number; moment = moment; of = OriginRequest m cause })) h f.keeps;
    reads = (f.reads.0, f.reads.1, f.reads.2, ap item_without_cause f.reads.3);
  }
  follows h number moment (OriginResponse m) item f = record {
    told = refl;
    keeps = still_keeps (line_of format (record { number = number; moment = moment; of = OriginResponse m })) h f.keeps;
    reads = (
      f.reads.0,
      subst (λ (o : Option Forward). ReadsResponse (forward_is_head o) m f.reads.0) (sym (same_forward number h)) f.reads.1,
      ap item_without_cause f.reads.2,
    );
  }
  follows h number moment OriginFailure item f = record { told = refl; keeps = still_keeps (line_of format (record { number = number; moment = moment; of = OriginFailure })) h f.keeps; reads = ap item_without_cause f.reads }
  follows h number moment (ClientReply m) item f = record {
    told = refl;
    keeps = still_keeps (line_of format (record { number = number; moment = moment; of = ClientReply m })) h f.keeps;
    reads = (
      f.reads.0,
      subst (λ (o : Option Exchange). ReadsResponse (exchange_is_head o) m f.reads.0) (sym (same_exchange number h)) f.reads.1,
      ap item_without_cause f.reads.2,
    );
  }

  are_read : (records : List Record) (h : List Item) → AreReadAs format records h → AreReadAs form.First (map without_cause records) (map item_without_cause h)
  are_read [] [] read = tt
  are_read [] (item ∷ h) read = absurd read
  are_read (r ∷ records) [] read = absurd read
  are_read (r ∷ records) (item ∷ h) read = (are_read records h read.0, follows h r.number r.moment r.of item read.1)

-- the converted records are a transcript
pub converted_transcript : (format : Format) (octets : List ℕ) (records : List Record) (h : List Item) → IsTranscript format octets records h
    → IsTranscript form.First (converted records) (map without_cause records) (map item_without_cause h)
converted_transcript format octets records h t = record {
  octets_are = ap (λ (text : List ℕ). opening form.First ++ text) (sym (append-nil (records_text form.First (map without_cause records))));
  are_read = are_read format records h t.are_read;
}
