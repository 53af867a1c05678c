-- Octets are read as a script in one way, and break in one.
use Rattle.std.proofs.Common.{◌≡◌, ◌≢◌, ℕ, ◌⊎◌, Bool, true, false, cond, List, [], ◌∷◌, ◌++◌, length, get_or, drop, take, Result, Ok, Err, refl, sym, ap, subst, ◌∙◌, arith, inl, inr, append_assoc, append-nil, length-append}
use Rattle.std.specs.Prelude.{MatchResult, IfOk, IfErr}
use Rattle.std.specs.List.{list_any, AllByRecursion}
use Rattle.std.proofs.Math.Seq.{take-append_seam, drop-append_seam, get_or-append_seam}
use Rattle.std.proofs.lemmas.List.{append_cancel_left}
use Rattle.hc_service.specs.declared.event.Event.{Event}
use Rattle.hc_service.specs.declared.event.Happening.{Happening}
use Rattle.hc_service.specs.declared.event.Happening.TheVariants.{ClientOpened, ClientBytes, ClientEnd, OriginBytes, OriginEnd, OriginFailed, Stopping}
use Rattle.hc_transcript.specs.Limits.{longest_line}
use Rattle.hc_transcript.specs.Lines.{is_feed, HasLongLine}
use Rattle.hc_transcript.proofs.MarkLemmas.{first_mark_unique, mark_within}
use Rattle.hc_scripts.specs.declared.event_line.EventLine.{EventLine}
use Rattle.hc_scripts.specs.declared.fault.ScriptFault.{ScriptFault}
use Rattle.hc_scripts.specs.declared.fault.ScriptFault.TheVariants as fault
use Rattle.hc_scripts.specs.declared.kind.EventKind.{EventKind}
use Rattle.hc_scripts.specs.declared.script.Script.{Script}
use Rattle.hc_scripts.specs.Scripts.{has_octets, line_text, IsEventLine, IsSettingsLine, IsTold, kind_of, number_of, octets_of, line_of, octets_text, event_text, events_text, EventFits, opening, settings_text, Splits, IsScript}
use Rattle.hc_scripts.specs.ScriptFaults.{OpeningBreaks, BeginsLine, LineBreaks, IsLineOfEvent, IsLineOfSettings, HasLine, OctetsBreak, EventBreaks, ScriptBreaks}
use Rattle.hc_scripts.specs.ScriptParts.{BeginsSettings, happening_with}
use Rattle.hc_scripts.proofs.ScriptNumeralLemmas.{unsplit}
use Rattle.hc_scripts.proofs.ScriptLineLemmas.{one_line, one_settings, begun, settings_begun}

-- ---- lines

false_is_no_true : true ≡ false → ⊥
false_is_no_true e = cc

-- one text begins the octets as their first line
one_text : (octets text other behind rest : List ℕ) → BeginsLine octets text behind → BeginsLine octets other rest → (text ≡ other) × (behind ≡ rest)
one_text octets text other behind rest a b = first_mark_unique is_feed text other behind rest 10 10 refl refl a.no_feed b.no_feed (sym a.octets_are ∙ b.octets_are)

-- no line begins octets that lack one
long_has_no_line : (octets text behind : List ℕ) → HasLongLine octets → BeginsLine octets text behind → ⊥
long_has_no_line octets text behind long b =
    false_is_no_true (sym (ap (λ (o : List ℕ). list_any is_feed (take longest_line o)) b.octets_are ∙ mark_within is_feed text behind 10 longest_line refl b.short) ∙ long.no_feed)

-- where the octets begin with such a line that line doesn't break them
line_unbroken : (IsLine : List ℕ → Type 0) (f : ScriptFault) (octets text behind : List ℕ) → BeginsLine octets text behind → IsLine text → LineBreaks IsLine f octets → ⊥
line_unbroken IsLine fault.Line octets text behind b is (inl long) = long_has_no_line octets text behind long b
line_unbroken IsLine fault.Line octets text behind b is (inr other) =
    other.none (subst IsLine (one_text octets text other.text behind other.behind b other.begins).0 is)
line_unbroken IsLine fault.Torn octets text behind b is line = unsplit is_feed octets text 10 behind refl line.no_feed b.octets_are
line_unbroken IsLine fault.Opening octets text behind b is none = none
line_unbroken IsLine fault.Memory octets text behind b is none = none
line_unbroken IsLine fault.Settings octets text behind b is none = none

-- what breaks a line is no line that may go on
broken_is_ended : (IsLine : List ℕ → Type 0) (octets : List ℕ) → LineBreaks IsLine fault.Line octets → LineBreaks IsLine fault.Torn octets → ⊥
broken_is_ended IsLine octets (inl long) line = omega (arith, long.long, line.short)
broken_is_ended IsLine octets (inr other) line = unsplit is_feed octets other.text 10 other.behind refl line.no_feed other.begins.octets_are

-- a line breaks the octets by one fault
one_line_fault : (IsLine : List ℕ → Type 0) (f e : ScriptFault) (octets : List ℕ) → LineBreaks IsLine f octets → LineBreaks IsLine e octets → f ≡ e
one_line_fault IsLine fault.Line fault.Line octets a b = refl
one_line_fault IsLine fault.Torn fault.Torn octets a b = refl
one_line_fault IsLine fault.Line fault.Torn octets a b = absurd (broken_is_ended IsLine octets a b)
one_line_fault IsLine fault.Torn fault.Line octets a b = absurd (broken_is_ended IsLine octets b a)
one_line_fault IsLine f fault.Opening octets a b = absurd b
one_line_fault IsLine f fault.Memory octets a b = absurd b
one_line_fault IsLine f fault.Settings octets a b = absurd b
one_line_fault IsLine fault.Opening e octets a b = absurd a
one_line_fault IsLine fault.Memory e octets a b = absurd a
one_line_fault IsLine fault.Settings e octets a b = absurd a

-- ---- events

happening_is : (of : Happening) → IsTold of → happening_with (kind_of of) (number_of of) (octets_of of) ≡ of
happening_is (ClientOpened c) told = refl
happening_is (ClientBytes c octets) told = refl
happening_is (ClientEnd c) told = refl
happening_is (OriginBytes f octets) told = refl
happening_is (OriginEnd f) told = refl
happening_is (OriginFailed f) told = refl
happening_is Stopping told = absurd told

octets_none : (of : Happening) → has_octets (kind_of of) ≡ false → octets_of of ≡ []
octets_none (ClientOpened c) none = refl
octets_none (ClientBytes c octets) none = absurd (false_is_no_true none)
octets_none (ClientEnd c) none = refl
octets_none (OriginBytes f octets) none = absurd (false_is_no_true none)
octets_none (OriginEnd f) none = refl
octets_none (OriginFailed f) none = refl
octets_none Stopping none = refl

-- an event is its line and its octets
one_line_and_octets : (e g : Event) → IsTold e.of → IsTold g.of → line_of e ≡ line_of g → octets_of e.of ≡ octets_of g.of → e ≡ g
one_line_and_octets e g told other line octets =
    let of-is : e.of ≡ g.of = sym (happening_is e.of told) ∙ (λ i. happening_with (line i).kind (line i).number (octets i)) ∙ happening_is g.of other in
    λ i. record { moment = (line i).moment; of = of-is i }

-- the text of an event, and octets behind it
abbrev behind_event : Event → List ℕ → List ℕ
behind_event e rest = octets_text (kind_of e.of) (octets_of e.of) ++ rest

text_behind : (e : Event) (rest : List ℕ) → event_text e ++ rest ≡ line_text (line_of e) ++ 10 ∷ behind_event e rest
text_behind e rest = append_assoc (line_text (line_of e)) (10 ∷ octets_text (kind_of e.of) (octets_of e.of)) rest

event_line : (e : Event) (octets rest : List ℕ) → EventFits e → octets ≡ event_text e ++ rest → HasLine octets (line_of e) (behind_event e rest)
event_line e octets rest fits so = record { octets_are = so ∙ text_behind e rest; fits = fits.line }

own_line : (l : EventLine) (octets behind : List ℕ) → HasLine octets l behind → IsEventLine (line_text l) l
own_line l octets behind has = record { text_is = refl; fits = has.fits }

-- the octets begin with one line of an event
one_line_there : (octets : List ℕ) (l k : EventLine) (behind rest : List ℕ) → HasLine octets l behind → HasLine octets k rest → (l ≡ k) × (behind ≡ rest)
one_line_there octets l k behind rest a b =
    let same = one_text octets (line_text l) (line_text k) behind rest (begun octets l behind a) (begun octets k rest b) in
    let too : IsEventLine (line_text l) k = record { text_is = same.0; fits = b.fits } in
    (one_line (line_text l) l k (own_line l octets behind a) too, same.1)

octets_with : (k : EventKind) (octets rest : List ℕ) → has_octets k ≡ true → octets_text k octets ++ rest ≡ octets ++ 10 ∷ rest
octets_with k octets rest is = ap (λ (b : Bool). cond b (octets ++ 10 ∷ []) [] ++ rest) is ∙ append_assoc octets (10 ∷ []) rest

octets_without : (k : EventKind) (octets rest : List ℕ) → has_octets k ≡ false → octets_text k octets ++ rest ≡ rest
octets_without k octets rest is = ap (λ (b : Bool). cond b (octets ++ 10 ∷ []) [] ++ rest) is

-- as many octets and a line feed are the same
as_many : (m n rest tail : List ℕ) → length m ≡ length n → m ++ 10 ∷ rest ≡ n ++ 10 ∷ tail → (m ≡ n) × (rest ≡ tail)
as_many m n rest tail long e =
    let front : m ≡ n = sym (take-append_seam m (10 ∷ rest)) ∙ (λ i. take (long i) (e i)) ∙ take-append_seam n (10 ∷ tail) in
    let back : 10 ∷ rest ≡ 10 ∷ tail = sym (drop-append_seam m (10 ∷ rest)) ∙ (λ i. drop (long i) (e i)) ∙ drop-append_seam n (10 ∷ tail) in
    (front, ap (drop 1) back)

-- one event begins the octets
one_event : (e g : Event) (rest tail : List ℕ) → EventFits e → EventFits g → event_text e ++ rest ≡ event_text g ++ tail → (e ≡ g) × (rest ≡ tail)
one_event e g rest tail a b so = go (has_octets (kind_of e.of)) refl
  where
    same : (line_of e ≡ line_of g) × (behind_event e rest ≡ behind_event g tail)
    same = one_line_there (event_text e ++ rest) (line_of e) (line_of g) (behind_event e rest) (behind_event g tail) (event_line e (event_text e ++ rest) rest a refl)
        (event_line g (event_text e ++ rest) tail b so)

    kind_is : kind_of e.of ≡ kind_of g.of
    kind_is = ap (λ (l : EventLine). l.kind) same.0

    go : (has : Bool) → has_octets (kind_of e.of) ≡ has → (e ≡ g) × (rest ≡ tail)
    go true is =
        let too : has_octets (kind_of g.of) ≡ true = sym (ap has_octets kind_is) ∙ is in
        let parts =
        as_many (octets_of e.of) (octets_of g.of) rest tail (ap (λ (l : EventLine). l.size) same.0)
        (sym (octets_with (kind_of e.of) (octets_of e.of) rest is) ∙ same.1 ∙ octets_with (kind_of g.of) (octets_of g.of) tail too) in
        (one_line_and_octets e g a.told b.told same.0 parts.0, parts.1)
    go false is =
        let too : has_octets (kind_of g.of) ≡ false = sym (ap has_octets kind_is) ∙ is in (
          one_line_and_octets e g a.told b.told same.0 (octets_none e.of is ∙ sym (octets_none g.of too)),
          sym (octets_without (kind_of e.of) (octets_of e.of) rest is) ∙ same.1 ∙ octets_without (kind_of g.of) (octets_of g.of) tail too,
        )

-- ---- where no event stands

-- no event begins the octets
abbrev HasNoEvent : List ℕ → Type 0
HasNoEvent octets = (e : Event) (rest : List ℕ) → EventFits e → octets ≡ event_text e ++ rest → ⊥

no_event_empty : HasNoEvent []
no_event_empty e rest fits so =
    omega (arith, ap length (so ∙ text_behind e rest), length-append (line_text (line_of e)) (10 ∷ behind_event e rest))

line_of_event_unbroken : (f : ScriptFault) (octets : List ℕ) (l : EventLine) (behind : List ℕ) → HasLine octets l behind → LineBreaks IsLineOfEvent f octets → ⊥
line_of_event_unbroken f octets l behind has b = line_unbroken IsLineOfEvent f octets (line_text l) behind (begun octets l behind has) (l, own_line l octets behind has) b

-- octets with a line feed behind them aren't broken
octets_unbroken : (f : ScriptFault) (octets rest : List ℕ) (size : ℕ) (behind : List ℕ) → size ≡ length octets → behind ≡ octets ++ 10 ∷ rest → OctetsBreak f size behind → ⊥
octets_unbroken fault.Line octets rest size behind long so b = b.1 ((λ i. get_or (so i) (long i) 0) ∙ get_or-append_seam octets 10 rest 0)
octets_unbroken fault.Torn octets rest size behind long so b = omega (arith, b, long, ap length so, length-append octets (10 ∷ rest))
octets_unbroken fault.Opening octets rest size behind long so b = b
octets_unbroken fault.Memory octets rest size behind long so b = b
octets_unbroken fault.Settings octets rest size behind long so b = b

no_event_broken : (f : ScriptFault) (octets : List ℕ) → EventBreaks f octets → HasNoEvent octets
no_event_broken f octets (inl b) e rest fits so = line_of_event_unbroken f octets (line_of e) (behind_event e rest) (event_line e octets rest fits so) b
no_event_broken f octets (inr b) e rest fits so =
    let same = one_line_there octets b.line (line_of e) b.behind (behind_event e rest) b.has (event_line e octets rest fits so) in
    let brings : has_octets (kind_of e.of) ≡ true = sym (ap (λ (l : EventLine). has_octets l.kind) same.0) ∙ b.brings in
    octets_unbroken f (octets_of e.of) rest b.line.size b.behind (ap (λ (l : EventLine). l.size) same.0) (same.1 ∙ octets_with (kind_of e.of) (octets_of e.of) rest brings) b.breaks

-- ---- one fault of an event

one_octets_fault : (f e : ScriptFault) (size : ℕ) (octets : List ℕ) → OctetsBreak f size octets → OctetsBreak e size octets → f ≡ e
one_octets_fault fault.Line fault.Line size octets a b = refl
one_octets_fault fault.Torn fault.Torn size octets a b = refl
one_octets_fault fault.Line fault.Torn size octets a b = absurd (omega (arith, a.0, b))
one_octets_fault fault.Torn fault.Line size octets a b = absurd (omega (arith, a, b.0))
one_octets_fault f fault.Opening size octets a b = absurd b
one_octets_fault f fault.Memory size octets a b = absurd b
one_octets_fault f fault.Settings size octets a b = absurd b
one_octets_fault fault.Opening e size octets a b = absurd a
one_octets_fault fault.Memory e size octets a b = absurd a
one_octets_fault fault.Settings e size octets a b = absurd a

one_event_fault : (f e : ScriptFault) (octets : List ℕ) → EventBreaks f octets → EventBreaks e octets → f ≡ e
one_event_fault f e octets (inl a) (inl b) = one_line_fault IsLineOfEvent f e octets a b
one_event_fault f e octets (inl a) (inr b) = absurd (line_of_event_unbroken f octets b.line b.behind b.has a)
one_event_fault f e octets (inr a) (inl b) = absurd (line_of_event_unbroken e octets a.line a.behind a.has b)
one_event_fault f e octets (inr a) (inr b) =
    let same = one_line_there octets a.line b.line a.behind b.behind a.has b.has in
    let size : b.line.size ≡ a.line.size = ap (λ (l : EventLine). l.size) (sym same.0) in
    let there = subst (λ (n : ℕ). OctetsBreak e n b.behind) size b.breaks in
    one_octets_fault f e a.line.size a.behind a.breaks (subst (λ (o : List ℕ). OctetsBreak e a.line.size o) (sym same.1) there)

-- ---- events, one behind the other

one_events : (events others : List Event) (rest tail : List ℕ) → AllByRecursion EventFits events → AllByRecursion EventFits others → HasNoEvent rest → HasNoEvent tail
    → events_text events ++ rest ≡ events_text others ++ tail → (events ≡ others) × (rest ≡ tail)
one_events [] [] rest tail a b none lacks so = (refl, so)
one_events [] (g ∷ others) rest tail a b none lacks so =
    absurd (none g (events_text others ++ tail) b.0 (so ∙ append_assoc (event_text g) (events_text others) tail))
one_events (e ∷ events) [] rest tail a b none lacks so =
    absurd (lacks e (events_text events ++ rest) a.0 (sym so ∙ append_assoc (event_text e) (events_text events) rest))
one_events (e ∷ events) (g ∷ others) rest tail a b none lacks so =
    let first =
    one_event e g (events_text events ++ rest) (events_text others ++ tail) a.0 b.0
    (sym (append_assoc (event_text e) (events_text events) rest) ∙ so ∙ append_assoc (event_text g) (events_text others) tail) in
    let more = one_events events others rest tail a.1 b.1 none lacks first.1 in
    ((λ i. first.0 i ∷ more.0 i), more.1)

-- ---- the script

-- what stands behind the opening begins with the settings
settings_of : (octets rest : List ℕ) (keys bytes : ℕ) (events : List Event) (behind : List ℕ) → octets ≡ opening ++ rest → Splits octets keys bytes events behind
    → BeginsSettings rest keys bytes (events_text events ++ behind)
settings_of octets rest keys bytes events behind so s =
    record { octets_are = append_cancel_left opening _ _ (sym so ∙ s.octets_are); keys_fit = s.keys_fit; bytes_fit = s.bytes_fit }

settings_unbroken : (f : ScriptFault) (octets : List ℕ) (keys bytes : ℕ) (behind : List ℕ) → BeginsSettings octets keys bytes behind → LineBreaks IsLineOfSettings f octets → ⊥
settings_unbroken f octets keys bytes behind s b =
    let own : IsSettingsLine (settings_text keys bytes) keys bytes = record { text_is = refl; keys_fit = s.keys_fit; bytes_fit = s.bytes_fit } in
    line_unbroken IsLineOfSettings f octets (settings_text keys bytes) behind (settings_begun octets keys bytes behind s) (keys, bytes, own) b

-- of two readings behind which no event stands both are the same
record IsSame (keys bytes k b : ℕ) (events others : List Event) (rest tail : List ℕ) : Type 0 where
  pub keys_are : keys ≡ k
  pub bytes_are : bytes ≡ b
  pub events_are : events ≡ others
  pub rest_is : rest ≡ tail

one_split : (octets : List ℕ) (keys bytes k b : ℕ) (events others : List Event) (rest tail : List ℕ) → HasNoEvent rest → HasNoEvent tail → Splits octets keys bytes events rest
    → Splits octets k b others tail → IsSame keys bytes k b events others rest tail
one_split octets keys bytes k b events others rest tail none lacks s t =
    let text = settings_text keys bytes ++ 10 ∷ (events_text events ++ rest) in
    let first : BeginsSettings text keys bytes (events_text events ++ rest) = record { octets_are = refl; keys_fit = s.keys_fit; bytes_fit = s.bytes_fit } in
    let second : BeginsSettings text k b (events_text others ++ tail) = settings_of octets text k b others tail s.octets_are t in
    let line = one_text text (settings_text keys bytes) (settings_text k b) _ _ (settings_begun text keys bytes _ first) (settings_begun text k b _ second) in
    let own : IsSettingsLine (settings_text keys bytes) keys bytes = record { text_is = refl; keys_fit = s.keys_fit; bytes_fit = s.bytes_fit } in
    let too : IsSettingsLine (settings_text keys bytes) k b = record { text_is = line.0; keys_fit = t.keys_fit; bytes_fit = t.bytes_fit } in
    let numbers = one_settings (settings_text keys bytes) keys bytes k b own too in
    let same = one_events events others rest tail s.events_fit t.events_fit none lacks line.1 in
    record { keys_are = numbers.0; bytes_are = numbers.1; events_are = same.0; rest_is = same.1 }

-- a script leaves no rest
whole_splits : (octets : List ℕ) (keys bytes : ℕ) (events : List Event) → IsScript octets keys bytes events → Splits octets keys bytes events []
whole_splits octets keys bytes events s = record {
  octets_are = s.octets_are ∙ ap (λ (t : List ℕ). opening ++ (settings_text keys bytes ++ 10 ∷ t)) (sym (append-nil (events_text events)));
  keys_fit = s.keys_fit;
  bytes_fit = s.bytes_fit;
  events_fit = s.events_fit;
}

pub one : (octets : List ℕ) (keys bytes k b : ℕ) (events others : List Event) → IsScript octets keys bytes events → IsScript octets k b others
    → (keys ≡ k) × (bytes ≡ b) × (events ≡ others)
one octets keys bytes k b events others s t =
    let same = one_split octets keys bytes k b events others [] [] no_event_empty no_event_empty (whole_splits octets keys bytes events s) (whole_splits octets k b others t) in
    (same.keys_are, same.bytes_are, same.events_are)

empty : (t : List ℕ) → length t ≡ 0 → t ≡ []
empty [] e = refl
empty (b ∷ t) e = absurd (omega (arith, e))

-- where the opening is there it doesn't break the octets
opening_unbroken : (f : ScriptFault) (octets rest : List ℕ) → octets ≡ opening ++ rest → OpeningBreaks f octets → ⊥
opening_unbroken fault.Opening octets rest so none = none [] rest (append-nil octets ∙ so)
opening_unbroken fault.Torn octets rest so u =
    u.2 (empty u.0 (omega (arith, ap length u.1, length-append octets u.0, ap length so, length-append opening rest)))
opening_unbroken fault.Line octets rest so b = b
opening_unbroken fault.Memory octets rest so b = b
opening_unbroken fault.Settings octets rest so b = b

one_opening_fault : (f e : ScriptFault) (octets : List ℕ) → OpeningBreaks f octets → OpeningBreaks e octets → f ≡ e
one_opening_fault fault.Opening fault.Opening octets a b = refl
one_opening_fault fault.Torn fault.Torn octets a b = refl
one_opening_fault fault.Opening fault.Torn octets a b = absurd (a b.0 [] (sym b.1 ∙ sym (append-nil opening)))
one_opening_fault fault.Torn fault.Opening octets a b = absurd (b a.0 [] (sym a.1 ∙ sym (append-nil opening)))
one_opening_fault f fault.Line octets a b = absurd b
one_opening_fault f fault.Memory octets a b = absurd b
one_opening_fault f fault.Settings octets a b = absurd b
one_opening_fault fault.Line e octets a b = absurd a
one_opening_fault fault.Memory e octets a b = absurd a
one_opening_fault fault.Settings e octets a b = absurd a

pub broken : (octets : List ℕ) (f : ScriptFault) (keys bytes : ℕ) (events : List Event) → ScriptBreaks octets f → ¬ (IsScript octets keys bytes events)
broken octets f keys bytes events (inl b) s = opening_unbroken f octets _ s.octets_are b
broken octets f keys bytes events (inr (inl b)) s =
    settings_unbroken f b.rest keys bytes _ (settings_of octets b.rest keys bytes events [] b.octets_are (whole_splits octets keys bytes events s)) b.breaks
broken octets f keys bytes events (inr (inr b)) s =
    let same =
    one_split octets b.keys b.bytes keys bytes b.events events b.rest [] (no_event_broken f b.rest b.breaks) no_event_empty b.splits (whole_splits octets keys bytes events s) in
    b.some same.rest_is

pub one_fault : (octets : List ℕ) (f e : ScriptFault) → ScriptBreaks octets f → ScriptBreaks octets e → f ≡ e
one_fault octets f e (inl a) (inl b) = one_opening_fault f e octets a b
one_fault octets f e (inl a) (inr (inl b)) = absurd (opening_unbroken f octets b.rest b.octets_are a)
one_fault octets f e (inl a) (inr (inr b)) = absurd (opening_unbroken f octets _ b.splits.octets_are a)
one_fault octets f e (inr (inl a)) (inl b) = absurd (opening_unbroken e octets a.rest a.octets_are b)
one_fault octets f e (inr (inr a)) (inl b) = absurd (opening_unbroken e octets _ a.splits.octets_are b)
one_fault octets f e (inr (inl a)) (inr (inl b)) =
    let same : b.rest ≡ a.rest = append_cancel_left opening b.rest a.rest (sym b.octets_are ∙ a.octets_are) in
    one_line_fault IsLineOfSettings f e a.rest a.breaks (subst (λ (o : List ℕ). LineBreaks IsLineOfSettings e o) same b.breaks)
one_fault octets f e (inr (inl a)) (inr (inr b)) =
    absurd (settings_unbroken f a.rest b.keys b.bytes _ (settings_of octets a.rest b.keys b.bytes b.events b.rest a.octets_are b.splits) a.breaks)
one_fault octets f e (inr (inr a)) (inr (inl b)) =
    absurd (settings_unbroken e b.rest a.keys a.bytes _ (settings_of octets b.rest a.keys a.bytes a.events a.rest b.octets_are a.splits) b.breaks)
one_fault octets f e (inr (inr a)) (inr (inr b)) =
    let same =
    one_split octets a.keys a.bytes b.keys b.bytes a.events b.events a.rest b.rest (no_event_broken f a.rest a.breaks) (no_event_broken e b.rest b.breaks) a.splits b.splits in
    one_event_fault f e a.rest a.breaks (subst (λ (o : List ℕ). EventBreaks e o) (sym same.rest_is) b.breaks)

-- no octets break by a fault that isn't theirs
pub no_memory : (octets : List ℕ) → ¬ (ScriptBreaks octets fault.Memory)
no_memory octets (inl b) = b
no_memory octets (inr (inl b)) = b.breaks
no_memory octets (inr (inr b)) = go b.breaks
  where
    go : EventBreaks fault.Memory b.rest → ⊥
    go (inl none) = none
    go (inr octets) = octets.breaks

pub no_settings : (octets : List ℕ) → ¬ (ScriptBreaks octets fault.Settings)
no_settings octets (inl b) = b
no_settings octets (inr (inl b)) = b.breaks
no_settings octets (inr (inr b)) = go b.breaks
  where
    go : EventBreaks fault.Settings b.rest → ⊥
    go (inl none) = none
    go (inr octets) = octets.breaks

-- ---- what is read

-- the answer is that script, unless memory was refused
pub found : (octets : List ℕ) (answer : Result Script ScriptFault) → IfOk answer (λ s. IsScript octets s.keys s.bytes s.events.items)
    → IfErr answer (λ f. f ≢ fault.Memory → ScriptBreaks octets f) → (keys bytes : ℕ) (events : List Event) → IsScript octets keys bytes events
    → MatchResult answer (λ s. (s.keys ≡ keys) × (s.bytes ≡ bytes) × (s.events.items ≡ events)) (λ f. f ≡ fault.Memory)
found octets (Ok s) is breaks keys bytes events script = one octets s.keys s.bytes keys bytes s.events.items events is script
found octets (Err f) is breaks keys bytes events script = unless_memory f (λ other. broken octets f keys bytes events (breaks other) script)
  where
    unless_memory : (f : ScriptFault) → (f ≢ fault.Memory → ⊥) → f ≡ fault.Memory
    unless_memory fault.Memory none = refl
    unless_memory fault.Opening none = absurd (none (λ e. cc))
    unless_memory fault.Line none = absurd (none (λ e. cc))
    unless_memory fault.Torn none = absurd (none (λ e. cc))
    unless_memory fault.Settings none = absurd (none (λ e. cc))

-- the answer is that fault, unless memory was refused
pub refused : (octets : List ℕ) (answer : Result Script ScriptFault) → IfOk answer (λ s. IsScript octets s.keys s.bytes s.events.items)
    → IfErr answer (λ f. f ≢ fault.Memory → ScriptBreaks octets f) → (f : ScriptFault) → ScriptBreaks octets f
    → MatchResult answer (λ s. ⊥) (λ e. (e ≡ f) ⊎ (e ≡ fault.Memory))
refused octets (Ok s) is breaks f b = broken octets f s.keys s.bytes s.events.items b is
refused octets (Err e) is breaks f b = either e (λ other. one_fault octets e f (breaks other) b)
  where
    either : (e : ScriptFault) → (e ≢ fault.Memory → e ≡ f) → (e ≡ f) ⊎ (e ≡ fault.Memory)
    either fault.Memory same = inr refl
    either fault.Opening same = inl (same (λ e. cc))
    either fault.Line same = inl (same (λ e. cc))
    either fault.Torn same = inl (same (λ e. cc))
    either fault.Settings same = inl (same (λ e. cc))
