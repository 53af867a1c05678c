-- What is shown of octets that were read so far, and of those that end.
use Rattle.std.proofs.Common.{◌≡◌, ◌≢◌, ◌∙◌, ◌⊎◌, ◌+◌, ◌<◌, ◌≤◌, ◌++◌, ℕ, List, [], ◌∷◌, Option, Some, None, ap, arith, append_assoc, append-nil, inl, inr, length, refl, subst, sym}
use Rattle.hc_transcript.specs.declared.fault.RecordFault.{RecordFault}
use Rattle.hc_transcript.specs.declared.fault.RecordFault.TheVariants as fault
use Rattle.hc_transcript.specs.declared.format.Format.{Format}
use Rattle.hc_transcript.specs.declared.format.Format.TheVariants.{First, Second}
use Rattle.hc_transcript.specs.declared.reader.RecordReader.{RecordReader}
use Rattle.hc_transcript.specs.declared.record.Record.{Record}
use Rattle.hc_transcript.specs.Records.{opening}
use Rattle.hc_transcript.specs.Items.{Item}
use Rattle.hc_transcript.specs.History.{next_position}
use Rattle.hc_transcript.specs.Transcript.{IsTranscript}
use Rattle.hc_transcript.specs.Malformed.{IsUnfinishedOpening}
use Rattle.hc_transcript.specs.Reader.{Agrees, HasFailed, HasUnread, HasUnreadBy, MeetsFault, ReadsTo, Waits, WaitsBy, format_read, position_by, reader_position, records_read, waiting}
use Rattle.hc_shown.specs.declared.showing.Showing.{Showing}
use Rattle.hc_shown.specs.declared.span.Span.{Span}
use Rattle.hc_shown.specs.Shown.{AddsIf, AreShown, is_within}
use Rattle.hc_shown.specs.Showings.{HasShown, Shows, ShowsAll, ShowsBefore, ShowsFewer}

-- ---- nothing read yet

no_opening_yet : (format : Format) (rest : List ℕ) → [] ≡ opening format ++ rest → ⊥
no_opening_yet First rest e = cc
no_opening_yet Second rest e = cc

some_opening : opening First ≢ []
some_opening e = cc

pub fresh_waits : (r : RecordReader) → Agrees r [] [] [] → Waits r []
fresh_waits r agrees = go r.format agrees.reads
  where
    go : (o : Option Format) → ReadsTo o [] [] [] (waiting r) → WaitsBy o [] (waiting r)
    go None reads = subst (λ (held : List ℕ). IsUnfinishedOpening held) reads.1.1 (First, opening First, refl, some_opening)
    go (Some format) reads = absurd (no_opening_yet format _ reads.octets_are)

-- ---- one record more

-- the text of a history and that of one item more
pub shown_next : (span : Span) (h : List Item) (item : Item) (text old new : List ℕ) → AreShown span h text
    → AddsIf (is_within span (next_position h)) (next_position h) item old new → (own : List ℕ) × (new ≡ old ++ own) × AreShown span (item ∷ h) (text ++ own)
shown_next span h item text old new shown adds = (adds.0, adds.2, (text, adds.0, shown, adds.1, refl))

-- what is put behind what was put before
pub joined : (P : List ℕ → Type 0) (text old first mid new : List ℕ) → mid ≡ old ++ first → ((more : List ℕ) × (new ≡ mid ++ more) × P (text ++ first ++ more))
    → (all : List ℕ) × (new ≡ old ++ all) × P (text ++ all)
joined P text old first mid new is g = (
  first ++ g.0,
  g.1 ∙ ap (λ (l : List ℕ). l ++ g.0) is ∙ append_assoc old first g.0,
  subst P (append_assoc text first g.0) g.2,
)

-- and where nothing is
pub nothing_more : (P : List ℕ → Type 0) (text old : List ℕ) → P text → (more : List ℕ) × (old ≡ old ++ more) × P (text ++ more)
nothing_more P text old holds = ([], sym (append-nil old), subst P (sym (append-nil text)) holds)

-- ---- the last position

pub all_of : (s : Showing) (span : Span) (octets text : List ℕ) → HasShown s span octets text → span.last ≤ records_read s.reader → ShowsAll span octets text
all_of s span octets text has least = go s.reader.format has.agrees.reads
  where
    go : (o : Option Format) → ReadsTo o octets has.records has.history (waiting s.reader) → ShowsAll span octets text
    go None reads = absurd (omega (arith, has.agrees.stands.records, ap length reads.1.0, has.some, least))
    go (Some format) reads = record {
      format = format;
      records = has.records;
      history = has.history;
      rest = waiting s.reader;
      splits = reads;
      all = omega (arith, has.agrees.stands.records, has.no_more, least);
      shown = has.shown;
    }

-- ---- where the octets break

none_before : (o : Option Format) (octets held : List ℕ) (records : List Record) (h : List Item) → ReadsTo o octets records h held → o ≡ None → h ≡ []
none_before None octets held records h reads is = reads.1.0
none_before (Some format) octets held records h reads is = absurd cc

was_none : (old new : Option Format) → ((k : Format) → old ≡ Some k → new ≡ Some k) → new ≡ None → old ≡ None
was_none None new keeps none = refl
was_none (Some k) new keeps none = absurd (some_none k new (keeps k refl) none)
  where
    some_none : (k : Format) (o : Option Format) → o ≡ Some k → o ≡ None → ⊥
    some_none k o some none = cc

-- a fault that the reader has met
pub met_before : (r s : RecordReader) (span : Span) (octets text : List ℕ) (records : List Record) (h : List Item) (f : RecordFault) (position : ℕ) → Agrees r octets records h
    → ((k : Format) → format_read r ≡ Some k → format_read s ≡ Some k) → AreShown span h text → length h < span.last → MeetsFault s octets h f → position ≡ reader_position s
    → ShowsBefore span octets text position f
met_before r s span octets text records h f position agrees keeps shown fewer (inl begins) is = record {
  history = h;
  shown = shown;
  breaks = inl (is ∙ begins.1.1.1, (none_before (format_read r) octets (waiting r) records h agrees.reads (was_none (format_read r) (format_read s) keeps begins.1.1.0), inl (begins.0, begins.1.0)));
}
met_before r s span octets text records h f position agrees keeps shown fewer (inr behind) is = record {
  history = h;
  shown = shown;
  breaks = inr (behind.format, is ∙ behind.position_is, rw (is, behind.position_is) (omega (arith, fewer)), inl behind.breaks);
}

-- ---- the end

none_is_some : (o : Option RecordFault) (f : RecordFault) → o ≡ None → o ≡ Some f → ⊥
none_is_some o f none some = cc

pub whole_of : (s : Showing) (span : Span) (octets text : List ℕ) (shows : Shows s span octets text) → ((format : Format) × IsTranscript format octets shows.has.records shows.has.history)
    → ShowsFewer span octets text
whole_of s span octets text shows is = record {
  format = is.0;
  records = shows.has.records;
  history = shows.has.history;
  is_transcript = is.1;
  fewer = shows.fewer;
  shown = shows.has.shown;
}

torn_of : (r : RecordReader) (span : Span) (octets text : List ℕ) (records : List Record) (h : List Item) → Agrees r octets records h → Waits r h → HasUnread r
    → AreShown span h text → length h < span.last → ShowsBefore span octets text (reader_position r) fault.Torn
torn_of r span octets text records h agrees waits unread shown fewer = go r.format agrees.reads waits unread
  where
    go : (o : Option Format) → ReadsTo o octets records h (waiting r) → WaitsBy o h (waiting r) → HasUnreadBy o (waiting r)
        → ShowsBefore span octets text (position_by o r.standing.records) fault.Torn
    go None reads waits unread = record {
      history = h;
      shown = shown;
      breaks = inl (refl, (reads.1.0, inr (subst (λ (o : List ℕ). IsUnfinishedOpening o) (sym reads.1.1) waits, refl)));
    }
    go (Some format) reads waits unread = record {
      history = h;
      shown = shown;
      breaks = inr (
        format,
        ap (λ (n : ℕ). n + 1) agrees.stands.records,
        rw agrees.stands.records (omega (arith, fewer)),
        inr (refl, record { records = records; rest = waiting r; splits = reads; some = unread; torn = waits }),
      );
    }

pub end_of : (s : Showing) (span : Span) (octets text : List ℕ) (f : RecordFault) (position : ℕ) (shows : Shows s span octets text)
    → (f ≡ fault.Torn) ⊎ HasFailed s.reader f → HasUnread s.reader → position ≡ reader_position s.reader → ShowsBefore span octets text position f
end_of s span octets text f position shows (inl torn) unread is =
    let ends = torn_of s.reader span octets text shows.has.records shows.has.history shows.has.agrees shows.waits unread shows.has.shown shows.fewer in
    subst (λ (n : ℕ). ShowsBefore span octets text n f) (sym is) (subst (λ (g : RecordFault). ShowsBefore span octets text (reader_position s.reader) g) (sym torn) ends)
end_of s span octets text f position shows (inr failed) unread is = absurd (none_is_some s.reader.fault f shows.has.agrees.unfailed failed)
