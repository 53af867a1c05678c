-- Octets are read as records in one way, from the front.
use Rattle.std.proofs.Common.{◌≡◌, ◌≢◌, ℕ, zero, suc, ◌+◌, ◌-◌, ◌<◌, ◌≤◌, ◌⊎◌, List, [], ◌∷◌, ◌++◌, length, refl, sym, ap, subst, ◌∙◌, arith, inl, inr, append_assoc, length-append}
use Rattle.std.proofs.lemmas.Bool.{cases_lt}
use Rattle.std.proofs.lemmas.List.{append_cancel_left, append-nil}
use Rattle.hc_transcript.specs.declared.format.Format.{Format}
use Rattle.hc_transcript.specs.declared.format.Format.TheVariants as form
use Rattle.hc_transcript.specs.declared.fault.RecordFault.{RecordFault}
use Rattle.hc_transcript.specs.declared.record.Record.{Record}
use Rattle.hc_transcript.specs.Records.{opening, record_text, records_text}
use Rattle.hc_transcript.specs.Items.{Item}
use Rattle.hc_transcript.specs.Checks.{line_fault}
use Rattle.hc_transcript.specs.Transcript.{Follows, AreReadAs, Splits, GoesOn, IsTranscript}
use Rattle.hc_transcript.specs.Malformed.{HasNoOpening, IsUnfinishedOpening, IsUnfinished, BreaksRecord, BreaksAfter}
use Rattle.hc_transcript.proofs.FormatLemmas.{one_format}
use Rattle.hc_transcript.proofs.FrontLemmas.{one_record, one_fault, break_is_some, no_unfinished_break, HasNoRecord, no_record_broken, no_record_unfinished, no_record_empty, breaks_more}

module _ (format : Format) where
  -- as many records are the same
  as_many : (records others : List Record) (h g : List Item) (rest tail : List ℕ) → length records ≡ length others → AreReadAs format records h → AreReadAs format others g
      → records_text format records ++ rest ≡ records_text format others ++ tail → (records ≡ others) × (h ≡ g) × (rest ≡ tail)
  as_many [] [] [] [] rest tail long a b e = (refl, refl, e)
  as_many [] [] [] (j ∷ g) rest tail long a b e = absurd b
  as_many [] [] (i ∷ h) g rest tail long a b e = absurd a
  as_many [] (o ∷ others) h g rest tail long a b e = absurd (omega (arith, long))
  as_many (r ∷ records) [] h g rest tail long a b e = absurd (omega (arith, long))
  as_many (r ∷ records) (o ∷ others) [] g rest tail long a b e = absurd a
  as_many (r ∷ records) (o ∷ others) (i ∷ h) [] rest tail long a b e = absurd b
  as_many (r ∷ records) (o ∷ others) (i ∷ h) (j ∷ g) rest tail long a b e =
      let before =
      as_many records others h g (record_text format r ++ rest) (record_text format o ++ tail) (omega (arith, long)) a.0 b.0
      (sym (append_assoc (records_text format records) (record_text format r) rest) ∙ e ∙ append_assoc (records_text format others) (record_text format o) tail) in
      let next = one_record format h r o i j rest tail a.1 (subst (λ (k : List Item). Follows format k o j) (sym before.1) b.1) before.2 in
      ((λ n. next.0 n ∷ before.0 n), (λ n. next.1 n ∷ before.1 n), next.2)

  -- more records go on from fewer
  ahead : (k : ℕ) (records others : List Record) (h g : List Item) (rest tail : List ℕ) → length others ≡ length records + k → AreReadAs format records h → AreReadAs format others g
      → records_text format records ++ rest ≡ records_text format others ++ tail → GoesOn format records h rest others g tail
  ahead zero records others h g rest tail long a b e =
      let same = as_many records others h g rest tail (omega (arith, long)) a b e in
      record { more = []; items = []; records_are = sym same.0; items_are = sym same.1; rest_is = same.2 }
  ahead (suc k) records [] h g rest tail long a b e = absurd (omega (arith, long))
  ahead (suc k) records (o ∷ others) h [] rest tail long a b e = absurd b
  ahead (suc k) records (o ∷ others) h (j ∷ g) rest tail long a b e =
      let before = ahead k records others h g rest (record_text format o ++ tail) (omega (arith, long)) a b.0 (e ∙ append_assoc (records_text format others) (record_text format o) tail) in
      record {
        more = o ∷ before.more;
        items = j ∷ before.items;
        records_are = ap (λ (t : List Record). o ∷ t) before.records_are;
        items_are = ap (λ (t : List Item). j ∷ t) before.items_are;
        rest_is = before.rest_is ∙ sym (append_assoc (records_text format before.more) (record_text format o) tail);
      }

  -- no records are ahead where none begins the rest
  none_ahead : (k : ℕ) (records others : List Record) (h g : List Item) (rest tail : List ℕ) → HasNoRecord format h rest → length others ≡ length records + k → AreReadAs format records h → AreReadAs format others g
      → records_text format records ++ rest ≡ records_text format others ++ tail → k ≡ 0
  none_ahead zero records others h g rest tail none long a b e = refl
  none_ahead (suc k) records [] h g rest tail none long a b e = absurd (omega (arith, long))
  none_ahead (suc k) records (o ∷ others) h [] rest tail none long a b e = absurd b
  none_ahead (suc k) records (o ∷ others) h (j ∷ g) rest tail none long a b e =
      let e' : records_text format records ++ rest ≡ records_text format others ++ (record_text format o ++ tail) = e ∙ append_assoc (records_text format others) (record_text format o) tail in
      let k-is = none_ahead k records others h g rest (record_text format o ++ tail) none (omega (arith, long)) a b.0 e' in
      let same = as_many records others h g rest (record_text format o ++ tail) (omega (arith, long, k-is)) a b.0 e' in
      absurd (none o j tail (subst (λ (n : List Item). Follows format n o j) (sym same.1) b.1) same.2)

  not_longer : (records others : List Record) (h g : List Item) (rest tail : List ℕ) → HasNoRecord format h rest → AreReadAs format records h → AreReadAs format others g
      → records_text format records ++ rest ≡ records_text format others ++ tail → length others ≤ length records
  not_longer records others h g rest tail none a b e = go (cases_lt (length records) (length others))
    where
      go : (length records < length others) ⊎ (length others ≤ length records) → length others ≤ length records
      go (inl lt) =
          let k = length others - length records in
          omega (arith, lt, none_ahead k records others h g rest tail none (omega (arith, lt)) a b e)
      go (inr le) = le

  -- ---- the same of octets behind the opening

  behind_opening : (octets : List ℕ) (records others : List Record) (h g : List Item) (rest tail : List ℕ) → Splits format octets records h rest → Splits format octets others g tail
      → records_text format records ++ rest ≡ records_text format others ++ tail
  behind_opening octets records others h g rest tail s t =
      append_cancel_left (opening format) (records_text format records ++ rest) (records_text format others ++ tail) (sym s.octets_are ∙ t.octets_are)

  -- of two readings one goes on from the other
  pub front : (octets : List ℕ) (records others : List Record) (h g : List Item) (rest behind : List ℕ) → Splits format octets records h rest → Splits format octets others g behind
      → GoesOn format records h rest others g behind ⊎ GoesOn format others g behind records h rest
  front octets records others h g rest tail s t = go (cases_lt (length records) (length others))
    where
      e : records_text format records ++ rest ≡ records_text format others ++ tail
      e = behind_opening octets records others h g rest tail s t

      go : (length records < length others) ⊎ (length others ≤ length records) → GoesOn format records h rest others g tail ⊎ GoesOn format others g tail records h rest
      go (inl lt) = inl (ahead (length others - length records) records others h g rest tail (omega (arith, lt)) s.are_read t.are_read e)
      go (inr le) = inr (ahead (length records - length others) others records g h tail rest (omega (arith, le)) t.are_read s.are_read (sym e))

  -- a reading behind which no record stands goes on from every other
  last : (octets : List ℕ) (records others : List Record) (h g : List Item) (rest behind : List ℕ) → HasNoRecord format h rest → Splits format octets records h rest → Splits format octets others g behind
      → GoesOn format others g behind records h rest
  last octets records others h g rest tail none s t =
      let e = behind_opening octets records others h g rest tail s t in
      let le = not_longer records others h g rest tail none s.are_read t.are_read e in
      ahead (length records - length others) others records g h tail rest (omega (arith, le)) t.are_read s.are_read (sym e)

  -- there is one such reading
  one_last : (octets : List ℕ) (records others : List Record) (h g : List Item) (rest behind : List ℕ) → HasNoRecord format h rest → HasNoRecord format g behind
      → Splits format octets records h rest → Splits format octets others g behind → (records ≡ others) × (h ≡ g) × (rest ≡ behind)
  one_last octets records others h g rest tail none lacks s t =
      let e = behind_opening octets records others h g rest tail s t in
      let le = not_longer records others h g rest tail none s.are_read t.are_read e in
      let ge = not_longer others records g h tail rest lacks t.are_read s.are_read (sym e) in
      as_many records others h g rest tail (omega (arith, le, ge)) s.are_read t.are_read e

  -- octets are one transcript at most
  pub one : (octets : List ℕ) (records others : List Record) (h g : List Item) → IsTranscript format octets records h → IsTranscript format octets others g → (records ≡ others) × (h ≡ g)
  one octets records others h g s t =
      let same = one_last octets records others h g [] [] (no_record_empty format h) (no_record_empty format g) s t in
      (same.0, same.1)

  -- ---- more octets behind

  pub splits_more : (octets more : List ℕ) (records : List Record) (h : List Item) (rest : List ℕ) → Splits format octets records h rest → Splits format (octets ++ more) records h (rest ++ more)
  splits_more octets more records h rest s = record {
    octets_are =
        ap (λ (o : List ℕ). o ++ more) s.octets_are ∙ append_assoc (opening format) (records_text format records ++ rest) more ∙ ap (λ (t : List ℕ). opening format ++ t) (append_assoc (records_text format records) rest more);
    are_read = s.are_read;
  }

  -- ---- one record more

  pub one_more : (octets : List ℕ) (records : List Record) (h : List Item) (r : Record) (item : Item) → IsTranscript format octets records h → Follows format h r item
      → IsTranscript format (octets ++ record_text format r) (r ∷ records) (item ∷ h)
  one_more octets records h r item t f = record {
    octets_are =
        ap (λ (o : List ℕ). o ++ record_text format r) t.octets_are ∙ append_assoc (opening format) (records_text format records ++ []) (record_text format r)
        ∙ ap (λ (x : List ℕ). opening format ++ (x ++ record_text format r)) (append-nil (records_text format records)) ∙ ap (λ (x : List ℕ). opening format ++ x) (sym (append-nil (records_text format records ++ record_text format r)));
    are_read = (t.are_read, f);
  }

-- ---- one format

pub one_opening : (octets : List ℕ) (format other : Format) (records others : List Record) (h g : List Item) (rest behind : List ℕ) → Splits format octets records h rest
    → Splits other octets others g behind → format ≡ other
one_opening octets format other records others h g rest tail s t =
    one_format octets format other (records_text format records ++ rest) (records_text other others ++ tail) s.octets_are t.octets_are

-- a reading in another format is one in this
pub same_format : (octets : List ℕ) (format other : Format) (records others : List Record) (h g : List Item) (rest behind : List ℕ) → Splits format octets records h rest
    → Splits other octets others g behind → Splits format octets others g behind
same_format octets format other records others h g rest tail s t =
    subst (λ (f : Format). Splits f octets others g tail) (sym (one_opening octets format other records others h g rest tail s t)) t

-- ---- where the octets break

break_without_record : (format : Format) (octets : List ℕ) (h : List Item) (f : RecordFault) (b : BreaksAfter format octets h f) → HasNoRecord format h b.rest
break_without_record format octets h f b = no_record_broken format f h b.rest b.breaks

pub one_break : (format other : Format) (octets : List ℕ) (h g : List Item) (f e : RecordFault) → BreaksAfter format octets h f → BreaksAfter other octets g e
    → (format ≡ other) × (h ≡ g) × (f ≡ e)
one_break format other octets h g f e b c =
    let same-format : other ≡ format = one_opening octets other format c.records b.records g h c.rest b.rest c.splits b.splits in
    let splits = same_format octets format other b.records c.records h g b.rest c.rest b.splits c.splits in
    let breaks : BreaksRecord format e g c.rest = subst (λ (k : Format). BreaksRecord k e g c.rest) same-format c.breaks in
    let same = one_last format octets b.records c.records h g b.rest c.rest (break_without_record format octets h f b) (no_record_broken format e g c.rest breaks) b.splits splits in
    let here : BreaksRecord format e h b.rest =
    subst (λ (k : List Item). BreaksRecord format e k b.rest) (sym same.1) (subst (λ (t : List ℕ). BreaksRecord format e g t) (sym same.2) breaks) in
    (sym same-format, same.1, one_fault format f e h b.rest b.breaks here)

pub break_last : (format other : Format) (octets : List ℕ) (h : List Item) (f : RecordFault) (records : List Record) (g : List Item) (rest : List ℕ) → BreaksAfter format octets h f
    → Splits other octets records g rest → (items : List Item) × (h ≡ items ++ g)
break_last format other octets h f records g rest b s =
    let splits = same_format octets format other b.records records h g b.rest rest b.splits s in
    let on = last format octets b.records records h g b.rest rest (break_without_record format octets h f b) b.splits splits in
    (on.items, on.items_are)

pub broken_is_no_transcript : (format other : Format) (octets : List ℕ) (h : List Item) (f : RecordFault) (records : List Record) (g : List Item) → BreaksAfter format octets h f
    → ¬ (IsTranscript other octets records g)
broken_is_no_transcript format other octets h f records g b t =
    let splits = same_format octets format other b.records records h g b.rest [] b.splits t in
    let same = one_last format octets b.records records h g b.rest [] (break_without_record format octets h f b) (no_record_empty format g) b.splits splits in
    break_is_some format f h b.rest b.breaks same.2

-- ---- where a record is unfinished

pub one_unfinished : (format other : Format) (octets : List ℕ) (records others : List Record) (h g : List Item) (rest behind : List ℕ) → Splits format octets records h rest
    → IsUnfinished format (line_fault h) rest → Splits other octets others g behind → IsUnfinished other (line_fault g) behind → (records ≡ others) × (h ≡ g) × (rest ≡ behind)
one_unfinished format other octets records others h g rest tail s u t v =
    let same-format : other ≡ format = one_opening octets other format others records g h tail rest t s in
    let unfinished : IsUnfinished format (line_fault g) tail = subst (λ (k : Format). IsUnfinished k (line_fault g) tail) same-format v in
    one_last format octets records others h g rest tail (no_record_unfinished format h rest u) (no_record_unfinished format g tail unfinished) s
    (same_format octets format other records others h g rest tail s t)

pub unfinished_last : (format other : Format) (octets : List ℕ) (records others : List Record) (h g : List Item) (rest behind : List ℕ) → Splits format octets records h rest
    → IsUnfinished format (line_fault h) rest → Splits other octets others g behind → (items : List Item) × (h ≡ items ++ g)
unfinished_last format other octets records others h g rest tail s u t =
    let on = last format octets records others h g rest tail (no_record_unfinished format h rest u) s (same_format octets format other records others h g rest tail s t) in
    (on.items, on.items_are)

pub unfinished_is_no_transcript : (format other : Format) (octets : List ℕ) (records others : List Record) (h g : List Item) (rest : List ℕ) → Splits format octets records h rest → rest ≢ []
    → IsUnfinished format (line_fault h) rest → ¬ (IsTranscript other octets others g)
unfinished_is_no_transcript format other octets records others h g rest s some u t =
    some (one_last format octets records others h g rest [] (no_record_unfinished format h rest u) (no_record_empty format g) s
    (same_format octets format other records others h g rest [] s t)).2

pub unfinished_is_unbroken : (format other : Format) (octets : List ℕ) (records : List Record) (h g : List Item) (rest : List ℕ) (f : RecordFault) → Splits format octets records h rest
    → IsUnfinished format (line_fault h) rest → ¬ (BreaksAfter other octets g f)
unfinished_is_unbroken format other octets records h g rest f s u b =
    let same-format : format ≡ other = one_opening octets format other records b.records h g rest b.rest s b.splits in
    let splits = same_format octets other format b.records records g h b.rest rest b.splits s in
    let unfinished : IsUnfinished other (line_fault h) rest = subst (λ (k : Format). IsUnfinished k (line_fault h) rest) same-format u in
    let same = one_last other octets b.records records g h b.rest rest (break_without_record other octets g f b) (no_record_unfinished other h rest unfinished) b.splits splits in
    let here : IsUnfinished other (line_fault g) b.rest =
    subst (λ (k : List Item). IsUnfinished other (line_fault k) b.rest) (sym same.1) (subst (λ (t : List ℕ). IsUnfinished other (line_fault h) t) (sym same.2) unfinished) in
    no_unfinished_break other f g b.rest b.breaks here

-- ---- the opening

pub no_opening_no_records : (octets : List ℕ) (format : Format) (records : List Record) (h : List Item) (rest : List ℕ) → HasNoOpening octets → ¬ (Splits format octets records h rest)
no_opening_no_records octets format records h rest none s = none format [] (records_text format records ++ rest) (append-nil octets ∙ s.octets_are)

pub no_opening_is_hopeless : (octets : List ℕ) → HasNoOpening octets → ¬ (IsUnfinishedOpening octets)
no_opening_is_hopeless octets none u = none u.0 u.1 [] (sym u.2 ∙ sym (append-nil (opening u.0)))

empty : (t : List ℕ) → length t ≡ 0 → t ≡ []
empty [] e = refl
empty (b ∷ t) e = absurd (omega (arith, e))

opening_length : (format : Format) → length (opening format) ≡ 5
opening_length form.First = refl
opening_length form.Second = refl

pub unfinished_opening_no_records : (format : Format) (octets : List ℕ) (records : List Record) (h : List Item) (rest : List ℕ) → IsUnfinishedOpening octets
    → ¬ (Splits format octets records h rest)
unfinished_opening_no_records format octets records h rest u s =
    u.3 (empty u.1 (omega (
      arith,
      ap length u.2,
      length-append octets u.1,
      ap length s.octets_are,
      length-append (opening format) (records_text format records ++ rest),
      opening_length format,
      opening_length u.0,
    )))

-- ---- broken octets, and more behind them

pub broken_more : (format : Format) (octets more : List ℕ) (h : List Item) (f : RecordFault) → BreaksAfter format octets h f → BreaksAfter format (octets ++ more) h f
broken_more format octets more h f b =
    record { records = b.records; rest = b.rest ++ more; splits = splits_more format octets more b.records h b.rest b.splits; breaks = breaks_more format f h b.rest more b.breaks }

pub no_opening_more : (octets more : List ℕ) → HasNoOpening octets → HasNoOpening (octets ++ more)
no_opening_more octets more none format behind rest e = none format (more ++ behind) rest (sym (append_assoc octets more behind) ∙ e)
