-- Connections of clients, one after another.
use Rattle.std.proofs.Common.{◌≡◌, ◌⊎◌, ◌∙◌, ℕ, suc, ◌+◌, ◌<◌, ◌≤◌, nat_lt, zero, List, [], ◌∷◌, ◌++◌, Bool, true, false, length, Option, Some, None, Result, Ok, Err, ap, append_assoc, append-nil, arith, length-append, inl, inr, refl, subst, sym}
use Rattle.std.specs.Prelude.{is_some}
use Rattle.std.specs.BTreeMap.{BTreeMap}
use Rattle.std.specs.FinMap.{empty_of_len, get, len}
use Rattle.std.proofs.lemmas.Bool.Decides.{nat_tests}
use Rattle.hc_transcript.specs.declared.record.Record.{Record}
use Rattle.hc_transcript.specs.Limits.{greatest_number}
use Rattle.hc_transcript.specs.Records.{opening}
use Rattle.hc_service.specs.declared.event.Event.{Event}
use Rattle.hc_service.specs.declared.event.Happening.{Happening}
use Rattle.hc_service.specs.declared.event.Happening.TheVariants.{ClientOpened, ClientBytes, ClientEnd, OriginBytes, OriginEnd, OriginFailed, Stopping}
use Rattle.hc_service.specs.declared.action.Action.{Action}
use Rattle.hc_service.specs.declared.action.Action.TheVariants as action
use Rattle.hc_service.specs.declared.fault.StepFault.{StepFault}
use Rattle.hc_service.specs.declared.fault.StepFault.TheVariants.{Memory, MomentTooLarge, UnknownNumber, TooManyConnections, Failed}
use Rattle.hc_service.specs.declared.settings.CoreOptions.{CoreOptions}
use Rattle.hc_service.specs.declared.settings.CoreSettings.{CoreSettings}
use Rattle.hc_service.specs.Agreement.{Agrees, History}
use Rattle.hc_service.specs.Numbers.{is_later}
use Rattle.hc_service.specs.Runs.{IsJudgedRight, Runs, RunsOn, StepResult, nothing_yet, records_given}
use Rattle.hc_service.specs.Sending.{recorded_format}
use Rattle.hc_service.specs.Settings.{AreGood}
use Rattle.hc_service.specs.State.{State, Table, new_state, new_state_with, usual_options}
use Rattle.hc_service.specs.Follows.{last_by}
use Rattle.hc_service.proofs.TableLemmas.{get_none}
use Rattle.hc_core.specs.Steps.{Cache, StandsFor}
use Rattle.hc_order.specs.declared.occurrence.Occurrence.{Occurrence}
use Rattle.hc_order.specs.declared.receiver.Receiver.TheVariants.{Client, Origin}
use Rattle.hc_order.specs.Mirrors.{Mirrors, last_opened}
use Rattle.hc_order.specs.Log.{Beginning, Move, carried}
use Rattle.hc_order.specs.Log.Move.{Before, Closed, Heard, Sent}
use Rattle.hc_order.specs.Passed.{AreServed, IsUsual, events_of, passed}
use Rattle.hc_order.specs.Resting.{IsAtRest}
use Rattle.hc_connection.specs.declared.client_side.ClientSide.{ClientSide}
use Rattle.hc_links.specs.Clients.{HandsBack, IsFresh, ServedLink}
use Rattle.hc_connection.specs.Connections.{HasPassed}
use Rattle.hc_connection.specs.Forwards.{AreKept, NoneOpen}
use Rattle.hc_links.specs.Links.{IsBeginning}
use Rattle.hc_connection.specs.Moves.{AreMoments, AreOf, HaveReasons, IsOf, earlier_or, failures_before, first_in, given_in, sent_in}
use Rattle.hc_connection.specs.Sides.{CountsFailed, Opens, Tells}
use Rattle.hc_drive.specs.declared.fault.DriveFault.{DriveFault}
use Rattle.hc_drive.specs.declared.fault.DriveFault.TheVariants as drive
use Rattle.hc_drive.specs.declared.fault.ServingFault.{ServingFault}
use Rattle.hc_drive.specs.declared.fault.ServingFault.TheVariants as fault
use Rattle.hc_drive.specs.Clients.{BreaksBefore, BreaksNext, ComeSince, Connections, CountsServing, EndsBefore, GivesNext, GivesServing, GivesTranscript, GivesUpLateBehind, HoldsBeginning, HoldsTranscript, IsConnection, IsExpected, IsExpectedOfNew, IsOwn, IsUsualBehind, KeepsIdle, LeadsToNext, LeftSince, ServesNext, Serving, beginning_of, log_of, number_before, unserved}
use Rattle.hc_drive.specs.Drives.{AreRounds, BreakOff, BreaksAsUsual, EndStands, GivesUp, GivesUpLate, IsLeftIdle, Leads, LeadsTo, answers_by, occurrences_by, texts_given}
use Rattle.hc_drive.specs.Rounds.{Break, IsToldBy, StopsAt, stage}
use Rattle.hc_drive.specs.Rounds.Break.{AtAnswer, BeforeEvent, Carrying}
use Rattle.hc_drive.proofs.DriveLemmas.{RunsAreCounted, events_append, fewer, front_at, given_append, never_none, served_append, texts_given_append}

-- ---- what laws say

abbrev pub RunsGoOn : Type 0
RunsGoOn = (settings : CoreSettings) (events : List Event) (results : List StepResult) (s mid : State) (h : History) (records : List Record)
    → Runs settings s h events results records (Some mid) → RunsOn settings s h (record { events = events; results = results; records = records }) mid

abbrev pub RunsAreJudgedRight : Type 0
RunsAreJudgedRight = (settings : CoreSettings) (options : CoreOptions) (events : List Event) (results : List StepResult) (records : List Record) (end : Option State)
    → Runs settings (new_state_with settings options) nothing_yet events results records end → IsJudgedRight records

abbrev pub NewCacheAgrees : Type 0
NewCacheAgrees = (settings : CoreSettings) (options : CoreOptions) → Agrees (new_state_with settings options) nothing_yet

abbrev pub NewCacheMirrors : Type 0
NewCacheMirrors = (options : CoreOptions) (settings : CoreSettings) (beginning : Beginning) → beginning.last ≡ None
    → Mirrors options.connections (new_state_with settings options) (Before beginning ∷ [])

abbrev pub MirrorsAtRest : Type 0
MirrorsAtRest = (room : ℕ) (s : State) (beginning : Beginning) → Mirrors room s (Before beginning ∷ []) → IsAtRest s

-- ---- what more moves leave

of_carried : (c : ℕ) (actions : List Action) (log : List Move) → AreOf c (carried actions log) → AreOf c log
of_carried c [] log own = own
of_carried c (action.Record r ∷ actions) log own = of_carried c actions log own
of_carried c (action.ToClient d octets ∷ actions) log own = of_carried c actions (Sent (Client d) octets ∷ log) own
of_carried c (action.CloseClient d ∷ actions) log own = of_carried c actions (Closed (Client d) ∷ log) own
of_carried c (action.Forward f octets ∷ actions) log own = of_carried c actions (Sent (Origin f) octets ∷ log) own
of_carried c (action.CloseForward f ∷ actions) log own = of_carried c actions (Closed (Origin f) ∷ log) own

of_passed : (c : ℕ) (occurrences : List Occurrence) (results : List StepResult) (log : List Move) → AreOf c (passed occurrences results log) → AreOf c log
of_passed c [] results log own = own
of_passed c (occurrence ∷ occurrences) [] log own = own
of_passed c (occurrence ∷ occurrences) (Ok actions ∷ results) log own =
    (of_carried c actions.items (Heard occurrence ∷ log) (of_passed c occurrences results (carried actions.items (Heard occurrence ∷ log)) own)).1
of_passed c (occurrence ∷ occurrences) (Err step ∷ results) log own = (of_passed c occurrences results (Heard occurrence ∷ log) own).1

failures_carried : (actions : List Action) (log : List Move) → failures_before (carried actions log) ≡ failures_before log
failures_carried [] log = refl
failures_carried (action.Record r ∷ actions) log = failures_carried actions log
failures_carried (action.ToClient d octets ∷ actions) log = failures_carried actions (Sent (Client d) octets ∷ log)
failures_carried (action.CloseClient d ∷ actions) log = failures_carried actions (Closed (Client d) ∷ log)
failures_carried (action.Forward f octets ∷ actions) log = failures_carried actions (Sent (Origin f) octets ∷ log)
failures_carried (action.CloseForward f ∷ actions) log = failures_carried actions (Closed (Origin f) ∷ log)

failures_passed : (occurrences : List Occurrence) (results : List StepResult) (log : List Move) → failures_before (passed occurrences results log) ≡ failures_before log
failures_passed [] results log = refl
failures_passed (occurrence ∷ occurrences) [] log = refl
failures_passed (occurrence ∷ occurrences) (Ok actions ∷ results) log =
    failures_passed occurrences results (carried actions.items (Heard occurrence ∷ log)) ∙ failures_carried actions.items (Heard occurrence ∷ log)
failures_passed (occurrence ∷ occurrences) (Err step ∷ results) log = failures_passed occurrences results (Heard occurrence ∷ log)

-- what a clock may tell another may, too
moments_still : (P Q : ℕ → Type 0) → ((moment : ℕ) → P moment → Q moment) → (log : List Move) → AreMoments P log → AreMoments Q log
moments_still P Q may [] moments = tt
moments_still P Q may (Before beginning ∷ log) moments = moments_still P Q may log moments
moments_still P Q may (Heard occurrence ∷ log) moments = (may occurrence.event.moment moments.0, moments_still P Q may log moments.1)
moments_still P Q may (Sent to octets ∷ log) moments = moments_still P Q may log moments
moments_still P Q may (Closed link ∷ log) moments = moments_still P Q may log moments

-- ---- one connection

-- the number of a connection is greater than that of the one before
later_before : (n : ℕ) → is_later n (number_before n) ≡ true
later_before zero = refl
later_before (suc zero) = refl
later_before (suc (suc n)) = less (suc n) (suc (suc n)) (omega arith)
  where
    less : (m k : ℕ) → m < k → nat_lt m k ≡ true
    less m k it = grind (arith, nat_tests)

module _ {C L : Type 0} (client_gave client_got : C → List ℕ → Type 0) (was_read : C → ℕ → Type 0) (count : C → ℕ) (origin_gave origin_got : L → List ℕ → Type 0) (may_tell : ℕ → Type 0) where
  abbrev pub HasPassedAt : Bool → ClientSide C → BTreeMap ℕ (Option L) → List Move → Type 0
  HasPassedAt opened side links log = HasPassed client_gave client_got was_read count origin_gave origin_got may_tell opened side links log

  -- nothing has passed at a fresh link
  pub nothing_passed : (n : ℕ) (link : C) (opened : Bool) (side : ClientSide C) (links : BTreeMap ℕ (Option L)) → IsFresh client_gave client_got was_read count link
      → ((last : Option ℕ) (given got : List ℕ) (reads : ℕ) → client_gave link given → client_got link got → was_read link reads
      → Tells client_gave client_got was_read count side (Before (record { last = last; number = n; given = given; got = got; reads = reads; failures = count link }) ∷ []))
      → opened ≡ false → ((log : List Move) → NoneOpen log → AreKept origin_gave origin_got links log) → HasPassedAt opened side links (unserved n)
  nothing_passed n link opened side links fresh tells unopened kept = (
    subst (λ (failures : ℕ). Tells client_gave client_got was_read count side (Before (record { last = number_before n; number = n; given = []; got = []; reads = 0; failures = failures }) ∷ [])) fresh.3 (tells (number_before n) [] [] 0 fresh.0 fresh.1 fresh.2),
    subst (λ (o : Bool). Opens o side.number (unserved n)) (sym unopened) (refl, ap (λ (k : ℕ). is_later k (number_before n)) (sym (tells (number_before n) [] [] 0 fresh.0 fresh.1 fresh.2).own) ∙ later_before n),
    tt,
    kept (unserved n) (λ f. refl),
    tt,
  )

  never_failed : (failed : Bool) (before after : ℕ) → CountsFailed failed before after → before ≡ 0 → after ≡ 0 → failed ≡ false
  never_failed false before after counts none still = refl
  never_failed true before after (inl one) none still = absurd (omega (arith, one, still))
  never_failed true before after (inr many) none still = absurd (omega (arith, many.0, none))

  -- it was served to its end
  module _ (n : ℕ) (side : ClientSide C) (opened : Bool) (links : BTreeMap ℕ (Option L)) (occurrences : List Occurrence) (results : List StepResult) (told : HasPassedAt opened side links (log_of n occurrences results)) where
    its_number : n ≡ side.number
    its_number = of_passed side.number occurrences results (unserved n) told.0.own

    abbrev pub served_link : ServedLink
    served_link = record { given = given_in (log_of n occurrences results); got = told.0.got; failures = count side.link }

    abbrev pub At : ℕ → Type 0
    At c = HaveReasons c (log_of n occurrences results) × (AreOf c (log_of n occurrences results)) × IsBeginning told.0.got (sent_in c (log_of n occurrences results))
        × (side.failed ≡ false → told.0.got ≡ sent_in c (log_of n occurrences results)) × Opens opened c (log_of n occurrences results)

    at_number : At n
    at_number = subst At (sym its_number) (told.0.reasons, told.0.own, told.0.begins, told.0.whole, told.1)

    pub is_connection : (may : ℕ → Type 0) → ((moment : ℕ) → may_tell moment → may moment) → opened ≡ true → IsConnection may n occurrences results served_link
    is_connection may still was_opened = record {
      opened = subst (λ (o : Bool). Opens o n (log_of n occurrences results)) was_opened at_number.4;
      own = at_number.1;
      given = refl;
      got = at_number.2;
      moments = moments_still may_tell may still (log_of n occurrences results) told.2;
      reasons = at_number.0;
      whole = λ none. at_number.3 (never_failed side.failed _ _ told.0.counted (failures_passed occurrences results (unserved n)) none);
    }

  -- what passed at a connection that may have broken off
  pub its_own : (may : ℕ → Type 0) → ((moment : ℕ) → may_tell moment → may moment) → (opened : Bool) (side : ClientSide C) (links : BTreeMap ℕ (Option L)) (log : List Move)
      → HasPassedAt opened side links log → IsOwn may side.number log
  its_own may still true side links log told = (told.0.own, moments_still may_tell may still log told.2, told.0.reasons, inr told.1)
  its_own may still false side links log told = (told.0.own, moments_still may_tell may still log told.2, told.0.reasons, inl told.1.0)

module _ (T T' : List Move → Type 0) (H : List ℕ → Type 0) (still : (log : List Move) → T log → T' log) where
  stops_still : (break : Break) (log : List Move) (text : List ℕ) → StopsAt break T H log text → StopsAt break T' H log text
  stops_still BeforeEvent log text stops = (still log stops.0, stops.1)
  stops_still (AtAnswer occurrence step) log text stops = (still (Heard occurrence ∷ log) stops.0, stops.1)
  stops_still (Carrying occurrence actions) log text stops = record {
    done = stops.done;
    last = stops.last;
    left = stops.left;
    actions_are = stops.actions_are;
    told = still _ stops.told;
    front = stops.front;
    begins = stops.begins;
    held = stops.held;
  }

  gives_up_still : (break : Break) (why : DriveFault) (rests : Type 0) (new : Cache) (rounds : ℕ) → IsToldBy break why ⊎ GivesUp break why new rests rounds
      → IsToldBy break why ⊎ GivesUp break why new (Unit {0}) rounds
  gives_up_still break why rests new rounds (inl told) = inl told
  gives_up_still break why rests new rounds (inr (before, is, inl all)) = inr (before, is, inl all)
  gives_up_still break why rests new rounds (inr (before, is, inr (busy, rest))) = inr (before, is, inr (busy, tt))

  breaks_still : (why : DriveFault) (rests : Type 0) (old new : Cache) (log : List Move) (text : List ℕ) → BreakOff 1 why T H rests (stage old log text) new → BreakOff 1 why T' H (Unit {0}) (stage old log text) new
  breaks_still why rests old new log text b = record {
    occurrences = b.occurrences;
    results = b.results;
    break = b.break;
    told_by = gives_up_still b.break why rests new (length b.occurrences) b.told_by;
    orderly = b.orderly;
    leads = b.leads;
    usual = b.usual;
    late = b.late;
    served = b.served;
    stops = stops_still b.break (passed b.occurrences b.results log) (text ++ texts_given b.results) b.stops;
  }

-- its number is told by what passed
module _ (may : ℕ → Type 0) (H : List ℕ → Type 0) (c n : ℕ) where
  number_at : (break : Break) (occurrences : List Occurrence) (results : List StepResult) (text : List ℕ) → StopsAt break (IsOwn may c) H (log_of n occurrences results) text → n ≡ c
  number_at BeforeEvent occurrences results text stops = of_passed c occurrences results (unserved n) stops.0.0
  number_at (AtAnswer occurrence step) occurrences results text stops = of_passed c occurrences results (unserved n) stops.0.0.1
  number_at (Carrying occurrence actions) occurrences results text stops =
      of_passed c occurrences results (unserved n) (of_carried c stops.done (Heard occurrence ∷ log_of n occurrences results) stops.told.0).1

pub broken_off : (may : ℕ → Type 0) (T : List Move → Type 0) (H : List ℕ → Type 0) (c n : ℕ) → ((log : List Move) → T log → IsOwn may c log)
    → (why : DriveFault) (rests : Type 0) (old new : Cache) (text : List ℕ) → BreakOff 1 why T H rests (stage old (unserved n) text) new → BreakOff 1 why (IsOwn may n) H (Unit {0}) (stage old (unserved n) text) new
broken_off may T H c n own why rests old new text b =
    let broken = breaks_still T (IsOwn may c) H own why rests old new (unserved n) text b in
    let is = number_at may H c n broken.break broken.occurrences broken.results (text ++ texts_given broken.results) broken.stops in
    subst (λ (m : ℕ). BreakOff 1 why (IsOwn may m) H (Unit {0}) (stage old (unserved n) text) new) (sym is) broken

-- ---- what is open between connections

-- what was opened first, and nothing else, was opened last
last_is : (n : ℕ) (log : List Move) → first_in log ≡ Some (ClientOpened n) → AreOf n log → last_opened log ≡ Some n
last_is n [] first own = absurd (cc)
last_is n (Before beginning ∷ log) first own = absurd (cc)
last_is n (Heard occurrence ∷ log) first own = by occurrence.event.of (first_in log) (λ earlier. last_is n log earlier own.1) first own.0
  where
    by : (of : Happening) (o : Option Happening) → (o ≡ Some (ClientOpened n) → last_opened log ≡ Some n) → earlier_or o of ≡ Some (ClientOpened n) → IsOf n of
        → last_by of (last_opened log) ≡ Some n
    by (ClientOpened d) o before first its = ap (λ (k : ℕ). Some k) its
    by (ClientBytes d octets) (Some earlier) before first its = before first
    by (ClientBytes d octets) None before first its = absurd (cc)
    by (ClientEnd d) (Some earlier) before first its = before first
    by (ClientEnd d) None before first its = absurd (cc)
    by (OriginBytes f octets) (Some earlier) before first its = before first
    by (OriginBytes f octets) None before first its = absurd (cc)
    by (OriginEnd f) (Some earlier) before first its = before first
    by (OriginEnd f) None before first its = absurd (cc)
    by (OriginFailed f) (Some earlier) before first its = before first
    by (OriginFailed f) None before first its = absurd (cc)
    by Stopping o before first its = absurd its
last_is n (Sent to octets ∷ log) first own = last_is n log first own
last_is n (Closed link ∷ log) first own = last_is n log first own

before_next : (n : ℕ) → 0 < n → number_before (suc n) ≡ Some n
before_next zero some = absurd (omega (arith, some))
before_next (suc n) some = refl

none_there : {X : Type 0} (t : Table X) → len t ≡ 0 → (k : ℕ) → is_some (get t k) ≡ false
none_there {X = X} t none k = ap is_some (ap (λ (t : Table X). get t k) (empty_of_len t none) ∙ get_none k)

-- an idle cache mirrors the log before the next connection
idle_mirrors : (room : ℕ) (s : State) (n : ℕ) (log : List Move) → 0 < n → Mirrors room s log → IsAtRest s → last_opened log ≡ Some n → Mirrors room s (unserved (suc n))
idle_mirrors room s n log some m idle last = record {
  connections = none_there s.connections idle.0;
  forwards = none_there s.forwards idle.1;
  count = let none = idle.0 in omega (arith, none);
  last = m.last ∙ last ∙ sym (before_next n some);
  fresh = λ d later. refl;
  has_room = m.has_room;
}

-- one connection behind others
next_on : (old mid new : Cache) (n next : ℕ) (results answers : List StepResult) → LeadsToNext 1 n old mid results → LeadsToNext n next mid new answers
    → LeadsToNext 1 next old new (results ++ answers)
next_on old mid new n next results answers first second room settings s h good stands agrees few m =
    let led = first room settings s h good stands agrees (fewer results answers s.numbers.records few) m in
    let counts = led.counted in
    let all = ap (λ (rs : List Record). length rs) (given_append results answers) in
    let sums = length-append (records_given results) (records_given answers) in
    let more = second room settings led.state led.later good led.stands led.agrees (omega (arith, few, counts, all, sums)) led.mirrors in
    let more_counts = more.counted in record {
      state = more.state;
      stands = more.stands;
      mirrors = more.mirrors;
      later = more.later;
      agrees = more.agrees;
      counted = omega (arith, counts, more_counts, all, sums);
    }

-- ---- what clients tell

pub still_few : (n : ℕ) → n ≤ greatest_number → 0 + n ≤ greatest_number
still_few n few = omega (arith, few)

none_is : (n : ℕ) → n ≡ 0 + n
none_is n = omega arith

none_more : (A : ℕ → ℕ → Type 0) (n misses : ℕ) → A n misses → A n (0 + misses)
none_more A n misses had = subst (A n) (none_is misses) had

pub none_came : (B M : ℕ → ℕ → Type 0) → ((n misses : ℕ) → B n misses → M n misses) → ComeSince B M 0 0
none_came B M stay = λ earlier missed had. subst (λ (n : ℕ). M n (0 + missed)) (none_is earlier) (none_more M earlier missed (stay earlier missed had))

pub one_came : (B M A : ℕ → ℕ → Type 0) → ((n misses : ℕ) → B n misses → M (1 + n) misses) → ((n misses : ℕ) → M n misses → A n misses) → ComeSince B A 1 0
one_came B M A comes stay = λ earlier missed had. none_more A (1 + earlier) missed (stay (1 + earlier) missed (comes earlier missed had))

pub one_missed : (B M : ℕ → ℕ → Type 0) → ((n misses : ℕ) → B n misses → M n (1 + misses)) → ComeSince B M 0 1
one_missed B M misses = λ earlier missed had. subst (λ (n : ℕ). M n (1 + missed)) (none_is earlier) (misses earlier missed had)

pub none_left : (B M : List ServedLink → Type 0) → ((links : List ServedLink) → B links → M links) → LeftSince B M []
none_left B M stay = λ earlier had. stay earlier had

more_together : (k n earlier : ℕ) → k + (n + earlier) ≡ (k + n) + earlier
more_together k n earlier = omega arith

pub more_came : (B M A : ℕ → ℕ → Type 0) (n misses k more : ℕ) → ComeSince B M n misses → ComeSince M A k more → ComeSince B A (k + n) (more + misses)
more_came B M A n misses k more first second = λ earlier missed had.
    subst (λ (all : ℕ). A all ((more + misses) + missed)) (more_together k n earlier)
    (subst (λ (none : ℕ). A (k + (n + earlier)) none) (more_together more misses missed) (second (n + earlier) (misses + missed) (first earlier missed had)))

pub more_left : (B M A : List ServedLink → Type 0) (links more : List ServedLink) → LeftSince B M links → LeftSince M A more → LeftSince B A (more ++ links)
more_left B M A links more first second = λ earlier had. subst A (sym (append_assoc more links earlier)) (second (links ++ earlier) (first earlier had))

-- ---- the next connection

-- a clock that tells no more than another tells no more than one that is the same
pub clock_still : {K : Type 0} (tells : K → ℕ → Type 0) (made given : K) → made ≡ given → (P : ℕ → Type 0) → ((moment : ℕ) → P moment → tells made moment) → (moment : ℕ) → P moment
    → tells given moment
clock_still {K = K} tells made given same P may moment had = subst (λ (clock : K). tells clock moment) same (may moment had)

module _ {C L : Type 0} (client_gave client_got : C → List ℕ → Type 0) (was_read : C → ℕ → Type 0) (count : C → ℕ) (origin_gave origin_got : L → List ℕ → Type 0) (may_tell may : ℕ → Type 0)
    (still : (moment : ℕ) → may_tell moment → may moment) (BC MC AC : ℕ → ℕ → Type 0) (BL ML AL : List ServedLink → Type 0) (H : List ℕ → Type 0) (old new : Cache) (n : ℕ)
    (side : ClientSide C) (opened : Bool) (links : BTreeMap ℕ (Option L)) (text : List ℕ) (comes : (n misses : ℕ) → BC n misses → MC (1 + n) misses)
    (stays : (links : List ServedLink) → BL links → ML links) where
  abbrev pub PassesAt : List Move → Type 0
  PassesAt log = HasPassed client_gave client_got was_read count origin_gave origin_got may_tell opened side links log

  -- it was served, and its link was handed back
  pub serves_next : AreRounds 1 PassesAt H (stage old (unserved n) text) new → IsLeftIdle new → opened ≡ true → (link : C) → link ≡ side.link → ((n misses : ℕ) → MC n misses → AC n misses)
      → HandsBack client_gave client_got count link ML AL → ServesNext may (ComeSince BC AC) (LeftSince BL AL) H n old new text
  serves_next rounds idle was_opened link same stay back =
      let is = is_connection client_gave client_got was_read count origin_gave origin_got may_tell n side opened links rounds.occurrences rounds.results rounds.told may still was_opened in
      let hands = subst (λ (link : C). HandsBack client_gave client_got count link ML AL) same back in record {
        occurrences = rounds.occurrences;
        results = rounds.results;
        link = record { given = given_in (log_of n rounds.occurrences rounds.results); got = rounds.told.0.got; failures = count side.link };
        is_connection = is;
        served = rounds.served;
        leads = rounds.leads;
        mirrors = λ some room settings s h good stands agrees few m.
            let led = rounds.mirrors room settings s h good stands agrees few m in record {
              state = led.state;
              stands = led.stands;
              mirrors = idle_mirrors room led.state n (log_of n rounds.occurrences rounds.results) some led.mirrors (idle.1 settings led.state led.stands)
                  (last_is n (log_of n rounds.occurrences rounds.results) is.opened is.own);
              later = led.later;
              agrees = led.agrees;
              counted = led.counted;
            };
        come_one = one_came BC MC AC comes stay;
        left_one = λ earlier had. hands earlier (given_in (log_of n rounds.occurrences rounds.results)) rounds.told.0.got rounds.told.0.given rounds.told.0.has_it (stays earlier had);
        held = rounds.held;
      }

  -- it broke off
  pub breaks_next : (why : DriveFault) (rests : Type 0) → BreakOff 1 why PassesAt H rests (stage old (unserved n) text) new → BreaksNext may (ComeSince BC MC) (LeftSince BL ML) H why n old new text
  breaks_next why rests broken = record {
    come_one = one_came BC MC MC comes (λ n misses had. had);
    left_none = none_left BL ML stays;
    broken = broken_off may PassesAt H side.number n (its_own client_gave client_got was_read count origin_gave origin_got may_tell may still opened side links) why rests old new text broken;
  }

-- ---- connections, one after another

-- none was served yet
abbrev none_served : (may : ℕ → Type 0) (cache : Cache) → Connections may 0 cache cache
none_served may cache = record {
  occurrences = [];
  results = [];
  links = [];
  numbered = (refl, refl, refl);
  served = tt;
  leads = λ settings s h good stands agrees few. record { end = Some s; stands = stands; runs = (agrees, refl, refl) };
  mirrors = λ room settings s h good stands agrees few m. record { state = s; stands = stands; mirrors = m; later = h; agrees = agrees; counted = omega arith };
}

pub serving_begins : (may : ℕ → Type 0) (B : ℕ → ℕ → Type 0) (L : List ServedLink → Type 0) (H : List ℕ → Type 0) (cache : Cache) (text : List ℕ) → H text → Serving may (ComeSince B B) (LeftSince L L) H 0 0 cache cache text
serving_begins may B L H cache text held = record {
  all = none_served may cache;
  come_all = none_came B B (λ n misses had. had);
  left_all = none_left L L (λ links had. had);
  held = subst H (sym (append-nil text)) held;
}

one_is : (n : ℕ) → suc n ≡ 1 + n
one_is n = omega arith

-- what a fault leaves of a cache that was idle, and of the recorder's count
pub idle_behind : (T : Type 0) (why : ServingFault) (old mid new : Cache) → (IsLeftIdle old → IsLeftIdle mid) → KeepsIdle {T = T} (Err why) mid new → KeepsIdle {T = T} (Err why) old new
idle_behind T fault.Clients old mid new before keeps = λ idle. keeps (before idle)
idle_behind T fault.Recorder old mid new before keeps = tt
idle_behind T (fault.Core step) old mid new before keeps = tt

pub counted_from : (T : Type 0) (why : ServingFault) (old mid new : ℕ) → mid ≡ old → CountsServing {T = T} (Err why) mid new → CountsServing {T = T} (Err why) old new
counted_from T why old mid new same counts = subst (λ (n : ℕ). CountsServing {T = T} (Err why) n new) same counts

-- ---- why the next connection broke off

-- what is given further is in range where all is
further_few : (before more : List StepResult) (a b : ℕ) → b ≡ a + length (records_given before) → a + length (records_given (before ++ more)) ≤ greatest_number
    → b + length (records_given more) ≤ greatest_number
further_few before more a b counts few =
    let all = ap (λ (rs : List Record). length rs) (given_append before more) in
    let sums = length-append (records_given before) (records_given more) in
    omega (arith, counts, few, all, sums)

-- what was told, as usual and late, is expected
is_expected : (why : DriveFault) (break : Break) (new : Cache) (rounds : ℕ) → IsToldBy break why ⊎ GivesUp break why new (Unit {0}) rounds → BreaksAsUsual break → GivesUpLate break why rounds
    → IsExpected why break rounds
is_expected why break new rounds told usual late = by break told usual late
  where
    at_answer : (occurrence : Occurrence) (step : StepFault) → IsUsual occurrence.event step → IsExpected (drive.Core step) (AtAnswer occurrence step) rounds
    at_answer occurrence Memory usual = tt
    at_answer occurrence MomentTooLarge usual = (occurrence, refl, usual)
    at_answer occurrence UnknownNumber usual = absurd usual
    at_answer occurrence TooManyConnections usual = absurd usual
    at_answer occurrence Failed usual = absurd usual

    by : (break : Break) → IsToldBy break why ⊎ GivesUp break why new (Unit {0}) rounds → BreaksAsUsual break → GivesUpLate break why rounds → IsExpected why break rounds
    by BeforeEvent (inl is) usual late = subst (λ (why : DriveFault). IsExpected why BeforeEvent rounds) (sym is) tt
    by BeforeEvent (inr gives) usual late = subst (λ (why : DriveFault). IsExpected why BeforeEvent rounds) (sym gives.1) (late refl gives.1)
    by (AtAnswer occurrence step) (inl is) usual late = subst (λ (why : DriveFault). IsExpected why (AtAnswer occurrence step) rounds) (sym is) (at_answer occurrence step usual)
    by (AtAnswer occurrence step) (inr gives) usual late = absurd (apart gives.0)
      where
        apart : AtAnswer occurrence step ≡ BeforeEvent → ⊥
        apart e = cc
    by (Carrying occurrence actions) (inl (inl is)) usual late = subst (λ (why : DriveFault). IsExpected why (Carrying occurrence actions) rounds) (sym is) tt
    by (Carrying occurrence actions) (inl (inr is)) usual late = subst (λ (why : DriveFault). IsExpected why (Carrying occurrence actions) rounds) (sym is) tt
    by (Carrying occurrence actions) (inr gives) usual late = absurd (apart gives.0)
      where
        apart : Carrying occurrence actions ≡ BeforeEvent → ⊥
        apart e = cc

module _ (begins : NewCacheAgrees) (new_mirrors : NewCacheMirrors) (at_rest : MirrorsAtRest) (may : ℕ → Type 0) (old mid new : Cache) (n : ℕ) (why : DriveFault) (T : List Move → Type 0) (H : List ℕ → Type 0)
    (text : List ℕ) (all : Connections may n old mid) (b : BreakOff 1 why T H (Unit {0}) (stage mid (unserved (1 + n)) text) new) where
  abbrev given_behind : List StepResult
  given_behind = b.results ++ answers_by b.break

  usual_behind : IsUsualBehind old (all.results ++ given_behind) b.break
  usual_behind room settings s h good stands agrees few less_room m =
      let led = all.mirrors room settings s h good stands agrees (fewer all.results given_behind s.numbers.records few) m in
      b.usual room settings led.state led.later good led.stands led.agrees (further_few all.results given_behind s.numbers.records led.state.numbers.records led.counted few) less_room
      (subst (λ (m : ℕ). Mirrors room led.state (unserved m)) (one_is n) led.mirrors)

  late_behind : GivesUpLateBehind old (all.results ++ given_behind) b.break why (length b.occurrences)
  late_behind room settings s h good stands agrees few m =
      let led = all.mirrors room settings s h good stands agrees (fewer all.results given_behind s.numbers.records few) m in
      let there = subst (λ (m : ℕ). Mirrors room led.state (unserved m)) (one_is n) led.mirrors in
      b.late room settings led.state led.later good led.stands led.agrees
      (fewer b.results (answers_by b.break) led.state.numbers.records (further_few all.results given_behind s.numbers.records led.state.numbers.records led.counted few))
      (at_rest room led.state (beginning_of (1 + n)) there) there refl

  expected_of_new : IsExpectedOfNew old (all.results ++ given_behind) b.break why (length b.occurrences)
  expected_of_new settings good is_new few =
      let m = new_mirrors usual_options settings (beginning_of 1) refl in
      let agrees = begins settings usual_options in
      let in_range = still_few (length (records_given (all.results ++ given_behind))) few in
      is_expected why b.break new (length b.occurrences) b.told_by
      (usual_behind usual_options.connections settings (new_state settings) nothing_yet good is_new agrees in_range (omega arith) m)
      (late_behind usual_options.connections settings (new_state settings) nothing_yet good is_new agrees in_range m)

module _ (on : RunsGoOn) (counted : RunsAreCounted) where
  leads_on : (old mid new : Cache) (events others : List Event) (results answers : List StepResult) → AreServed results → Leads old mid events results → Leads mid new others answers
      → Leads old new (events ++ others) (results ++ answers)
  leads_on old mid new events others results answers served first second settings s h good stands agrees few =
      let led = first settings s h good stands agrees (fewer results answers s.numbers.records few) in by_end led.end led.stands led.runs
    where
      by_end : (end : Option State) → EndStands settings end mid → Runs settings s h events results (records_given results) end → LeadsTo settings s h new (events ++ others) (results ++ answers)
      by_end None fails runs = absurd (never_none settings events results s h (records_given results) served runs)
      by_end (Some between) works runs =
          let more = on settings events results s between h (records_given results) runs in
          let count = counted settings events results s between h (records_given results) runs in
          let all = ap (λ (rs : List Record). length rs) (given_append results answers) in
          let sums = length-append (records_given results) (records_given answers) in
          let led = second settings between more.later good works more.agrees (omega (arith, few, count, all, sums)) in
          record {
            end = led.end;
            stands = led.stands;
            runs = subst (λ (rs : List Record). Runs settings s h (events ++ others) (results ++ answers) rs led.end) (sym (given_append results answers))
                (more.goes_on others answers (records_given answers) led.end led.runs);
          }

  -- one more was served
  abbrev one_more : (may : ℕ → Type 0) (n : ℕ) (old mid new : Cache) (occurrences : List Occurrence) (results : List StepResult) (link : ServedLink) → Connections may n old mid → IsConnection may (suc n) occurrences results link → AreServed results
      → Leads mid new (events_of occurrences) results → LeadsToNext (suc n) (suc (suc n)) mid new results → Connections may (suc n) old new
  one_more may n old mid new occurrences results link all is served leads mirrors = record {
    occurrences = all.occurrences ++ occurrences;
    results = all.results ++ results;
    links = link ∷ all.links;
    numbered = record {
      before = all.occurrences;
      answered = all.results;
      others = all.links;
      own = occurrences;
      answers = results;
      link = link;
      occurrences_are = refl;
      results_are = refl;
      links_are = refl;
      are_earlier = all.numbered;
      is_connection = is;
    };
    served = served_append all.results results all.served served;
    leads = subst (λ (events : List Event). Leads old new events (all.results ++ results)) (sym (events_append all.occurrences occurrences))
        (leads_on old mid new (events_of all.occurrences) (events_of occurrences) all.results results all.served all.leads leads);
    mirrors = next_on old mid new (suc n) (suc (suc n)) all.results results all.mirrors mirrors;
  }

  module _ (may : ℕ → Type 0) (BC MC AC : ℕ → ℕ → Type 0) (BL ML AL : List ServedLink → Type 0) (MH AH : List ℕ → Type 0) (old mid new : Cache) (text : List ℕ) where
    goes_on_to : (n : ℕ) → (serving : Serving may (ComeSince BC MC) (LeftSince BL ML) MH n 0 old mid text)
        → ServesNext may (ComeSince MC AC) (LeftSince ML AL) AH (suc n) mid new (text ++ texts_given serving.all.results) → Serving may (ComeSince BC AC) (LeftSince BL AL) AH (suc n) 0 old new text
    goes_on_to n serving next = record {
      all = one_more may n old mid new next.occurrences next.results next.link serving.all next.is_connection next.served next.leads (next.mirrors (omega arith));
      come_all = subst (λ (m : ℕ). ComeSince BC AC m 0) (sym (one_is n)) (more_came BC MC AC n 0 1 0 serving.come_all next.come_one);
      left_all = more_left BL ML AL serving.all.links (next.link ∷ []) serving.left_all next.left_one;
      held = subst AH (append_assoc text (texts_given serving.all.results) (texts_given next.results)
          ∙ ap (λ (o : List ℕ). text ++ o) (sym (texts_given_append serving.all.results next.results))) next.held;
    }

    pub goes_on : (n k m : ℕ) → m ≡ suc n → k ≡ suc n → (serving : Serving may (ComeSince BC MC) (LeftSince BL ML) MH n 0 old mid text)
        → ServesNext may (ComeSince MC AC) (LeftSince ML AL) AH k mid new (text ++ texts_given serving.all.results) → Serving may (ComeSince BC AC) (LeftSince BL AL) AH m 0 old new text
    goes_on n k m is_next is_number serving next =
        subst (λ (m : ℕ). Serving may (ComeSince BC AC) (LeftSince BL AL) AH m 0 old new text) (sym is_next)
        (goes_on_to n serving (subst (λ (k : ℕ). ServesNext may (ComeSince MC AC) (LeftSince ML AL) AH k mid new (text ++ texts_given serving.all.results)) is_number next))

    -- no further client came
    pub ended_before : (n count : ℕ) → n < count → (serving : Serving may (ComeSince BC MC) (LeftSince BL ML) MH n 0 old mid text)
        → (new ≡ mid) × ComeSince MC AC 0 1 × LeftSince ML AL [] × AH (text ++ texts_given serving.all.results)
        → EndsBefore may (ComeSince BC AC) (LeftSince BL AL) AH count old new text
    ended_before n count less serving next =
        subst (λ (cache : Cache). EndsBefore may (ComeSince BC AC) (LeftSince BL AL) AH count old cache text) (sym next.0)
        (record {
          n = n;
          fewer = less;
          serving = record {
            all = serving.all;
            come_all = subst (λ (m : ℕ). ComeSince BC AC m 1) (sym (none_is n)) (more_came BC MC AC n 0 0 1 serving.come_all next.1);
            left_all = more_left BL ML AL serving.all.links [] serving.left_all next.2;
            held = next.3;
          };
        })

    -- the next one broke off
    pub broke_before : NewCacheAgrees → NewCacheMirrors → MirrorsAtRest → (why : DriveFault) (n k count : ℕ) → n < count → k ≡ suc n → (serving : Serving may (ComeSince BC MC) (LeftSince BL ML) MH n 0 old mid text)
        → BreaksNext may (ComeSince MC AC) (LeftSince ML AL) AH why k mid new (text ++ texts_given serving.all.results) → BreaksBefore may (ComeSince BC AC) (LeftSince BL AL) AH why count old new text
    broke_before begins new_mirrors at_rest why n k count less is_number serving next =
        let b : BreakOff 1 why (IsOwn may (1 + n)) AH (Unit {0}) (stage mid (unserved (1 + n)) (text ++ texts_given serving.all.results)) new =
        subst (λ (k : ℕ). BreakOff 1 why (IsOwn may k) AH (Unit {0}) (stage mid (unserved k) (text ++ texts_given serving.all.results)) new) (is_number ∙ one_is n) next.broken in record {
          n = n;
          fewer = less;
          between = mid;
          all = serving.all;
          come_all = more_came BC MC AC n 0 1 0 serving.come_all next.come_one;
          left_all = more_left BL ML AL serving.all.links [] serving.left_all next.left_none;
          broken = b;
          usual = usual_behind begins new_mirrors at_rest may old mid new n why (IsOwn may (1 + n)) AH (text ++ texts_given serving.all.results) serving.all b;
          late = late_behind begins new_mirrors at_rest may old mid new n why (IsOwn may (1 + n)) AH (text ++ texts_given serving.all.results) serving.all b;
          expected = expected_of_new begins new_mirrors at_rest may old mid new n why (IsOwn may (1 + n)) AH (text ++ texts_given serving.all.results) serving.all b;
        }

    -- any fault of the next one
    pub at_fault : NewCacheAgrees → NewCacheMirrors → MirrorsAtRest → (T : Type 0) (why : ServingFault) (n k count : ℕ) → n < count → k ≡ suc n → (serving : Serving may (ComeSince BC MC) (LeftSince BL ML) MH n 0 old mid text)
        → GivesNext may (ComeSince MC AC) (LeftSince ML AL) AH {T = T} (Err why) k mid new (text ++ texts_given serving.all.results)
        → GivesServing may (ComeSince BC AC) (LeftSince BL AL) AH {T = T} (Err why) count old new text
    at_fault begins new_mirrors at_rest T fault.Clients n k count less is_number serving next = ended_before n count less serving next
    at_fault begins new_mirrors at_rest T fault.Recorder n k count less is_number serving next = broke_before begins new_mirrors at_rest drive.Recorder n k count less is_number serving next
    at_fault begins new_mirrors at_rest T (fault.Core step) n k count less is_number serving next = broke_before begins new_mirrors at_rest (drive.Core step) n k count less is_number serving next

  -- ---- the recording

  texts_of_three : (text : List ℕ) (a b c : List StepResult) → text ++ texts_given (a ++ (b ++ c)) ≡ ((text ++ texts_given a) ++ texts_given b) ++ texts_given c
  texts_of_three text a b c =
      ap (λ (o : List ℕ). text ++ o) (texts_given_append a (b ++ c) ∙ ap (λ (o : List ℕ). texts_given a ++ o) (texts_given_append b c))
      ∙ sym (append_assoc text (texts_given a) (texts_given b ++ texts_given c)) ∙ sym (append_assoc (text ++ texts_given a) (texts_given b) (texts_given c))

  module _ (judged : RunsAreJudgedRight) (begins : NewCacheAgrees) (settings : CoreSettings) (good : AreGood settings) (old : Cache) (is_new : StandsFor settings old (new_state settings)) where
    right : (new : Cache) (events : List Event) (results : List StepResult) → Leads old new events results → length (records_given results) ≤ greatest_number → IsJudgedRight (records_given results)
    right new events results leads few =
        let led = leads settings (new_state settings) nothing_yet good is_new (begins settings usual_options) (still_few (length (records_given results)) few) in judged settings usual_options events results (records_given results) led.end led.runs

    pub holds_all : (may : ℕ → Type 0) (n misses : ℕ) (come : ℕ → ℕ → Type 0) (left : List ServedLink → Type 0) (H : List ℕ → Type 0) (new : Cache) → Serving may come left H n misses old new (opening recorded_format) → HoldsTranscript H
    holds_all may n misses come left H new serving = record {
      records = records_given serving.all.results;
      held = serving.held;
      right = right new (events_of serving.all.occurrences) serving.all.results serving.all.leads;
    }

    pub holds_front : (may : ℕ → Type 0) (why : DriveFault) (count : ℕ) (come : ℕ → ℕ → Type 0) (left : List ServedLink → Type 0) (H : List ℕ → Type 0) (new : Cache) → BreaksBefore may come left H why count old new (opening recorded_format)
        → HoldsBeginning H
    holds_front may why count come left H new breaks =
        let all = breaks.all in
        let b = breaks.broken in
        let events = events_of all.occurrences ++ events_of (b.occurrences ++ occurrences_by b.break) in
        let results = all.results ++ (b.results ++ answers_by b.break) in
        let f = front_at (IsOwn may (1 + breaks.n)) H b.break (log_of (1 + breaks.n) b.occurrences b.results) ((opening recorded_format ++ texts_given all.results) ++ texts_given b.results) b.stops in record {
          records = records_given results;
          front = f.0;
          begins = subst (IsBeginning f.0) (sym (texts_of_three (opening recorded_format) all.results b.results (answers_by b.break))) f.1;
          held = f.2;
          right = right new events results
              (leads_on old breaks.between new (events_of all.occurrences) (events_of (b.occurrences ++ occurrences_by b.break)) all.results (b.results ++ answers_by b.break) all.served all.leads b.leads);
        }

    pub holds_as : (T : Type 0) (may : ℕ → Type 0) (result : Result T ServingFault) (count : ℕ) (come : ℕ → ℕ → Type 0) (left : List ServedLink → Type 0) (H : List ℕ → Type 0) (new : Cache)
        → GivesServing may come left H result count old new (opening recorded_format) → GivesTranscript H result
    holds_as T may (Ok done) count come left H new gives = holds_all may count 0 come left H new gives
    holds_as T may (Err fault.Clients) count come left H new gives = holds_all may gives.n 1 come left H new gives.serving
    holds_as T may (Err fault.Recorder) count come left H new gives = holds_front may drive.Recorder count come left H new gives
    holds_as T may (Err (fault.Core step)) count come left H new gives = holds_front may (drive.Core step) count come left H new gives
