-- What is read of a client connection.
use Rattle.std.proofs.Common.{◌≡◌, ◌≢◌, ℕ, ◌+◌, ◌^◌, ◌<◌, true, false, List, [], ◌++◌, length, take, drop, Option, Some, None, Ok, Err, rules, refl, sym, ap, subst, ◌∙◌, append_assoc, append-nil, inl, inr}
use Rattle.std.specs.Option.{IsSome}
use Rattle.std.proofs.lemmas.List.{take-append-drop}
use Rattle.std.proofs.Math.Seq.{drop-append-add}
use Rattle.hc_incoming.specs.declared.troubles.Trouble.{Trouble}
use Rattle.hc_head.specs.declared.head.RequestHead.{RequestHead}
use Rattle.hc_head.specs.declared.head.Target.{Target}
use Rattle.hc_head.specs.declared.head.TheConstants.Room.{RECEIVED}
use Rattle.hc_head.specs.Heads.{BeginsRequestHead}
use Rattle.hc_framing.specs.declared.fault.FrameFault.{FrameFault}
use Rattle.hc_framing.specs.declared.fault.FrameFault.TheVariants as faults
use Rattle.hc_framing.specs.declared.kind.Kind.{Kind}
use Rattle.hc_framing.specs.declared.kind.Kind.TheVariants.{Request}
use Rattle.hc_head.specs.declared.head.Room.{Room}
use Rattle.hc_framing.specs.declared.progress.Progress.{Progress}
use Rattle.hc_framing.specs.declared.message.Message.{Message}
use Rattle.hc_framing.specs.declared.progress.Progress.TheVariants.{More, Whole}
use Rattle.hc_framing.specs.declared.reader.MessageReader.{MessageReader}
use Rattle.hc_framing.specs.Faults.{StandsIn, StandsAtEnd}
use Rattle.hc_framing.specs.FramingLaws.{request_laws}
use Rattle.hc_framing.specs.Messages.{request_form}
use Rattle.hc_framing.specs.Reader as framing
use Rattle.hc_framing.proofs.ReaderLemmas.{agreeing_in_time, agreeing_shows, ok_shows}
use Rattle.hc_incoming.proofs.BeginningLemmas.{begins_on, never_until_close}
use Rattle.hc_incoming.proofs.CountLemmas.{counted_all}
use Rattle.hc_incoming.specs.declared.arrival.RequestArrival.{RequestArrival}
use Rattle.hc_incoming.specs.declared.arrival.RequestArrival.TheVariants as arrivals
use Rattle.hc_incoming.specs.declared.requests.RequestReader.{RequestReader}
use Rattle.hc_incoming.specs.Arrivals.{is_more, refusal_of}
use Rattle.hc_incoming.specs.Refusals.{IsRefusedFor}
use Rattle.hc_incoming.specs.Troubles.{last_trouble, trouble_of}
use Rattle.hc_incoming.specs.Requests.{HasHead, IsServed, IsUnfinished, IsGivenUp, PassesTests}
use Rattle.hc_incoming.specs.RequestReading.{WasGiven, GivesEnd, GivesNext, HasPassed, HasRead, TakesRequest}
use Rattle.hc_incoming.specs.RequestParts.{MayPass, PassesWith, FailsWith, GivesTest, HasMet, HasGoneOn, HasEnded}

-- ---- the head that has come

-- one head has come at most
pub one_head : (octets : List ℕ) (a b : RequestHead) → HasHead octets a → HasHead octets b → a ≡ b
one_head octets a b p q =
    p.shown_is
    ∙ ap request_form.without_framing (request_laws.one_head octets [] p.head q.head p.len q.len p.begins.begins (subst (λ (o : List ℕ). BeginsRequestHead o q.head q.len) (sym (append-nil octets)) q.begins.begins)).0
    ∙ sym q.shown_is

-- what is shown of a reader that agrees passes the tests where its target is kept
pub passes_tests : (octets : List ℕ) (shown : Option RequestHead) (target : Option Target) → framing.ShowsHead request_form Request RECEIVED octets shown
    → HasPassed shown target → PassesTests octets
passes_tests octets None None shows passed = λ head has. absurd (shows head has)
passes_tests octets None (Some t) shows passed = absurd passed
passes_tests octets (Some h) None shows passed = absurd passed
passes_tests octets (Some h) (Some t) shows passed = λ head has.
    (t, subst (λ (x : RequestHead). IsServed x t) (one_head octets h head shows has) passed)

-- a head that fails a test is refused
pub fails_test : (octets : List ℕ) (shown : Option RequestHead) (target : Option Target) (trouble : Trouble) → framing.ShowsHead request_form Request RECEIVED octets shown
    → FailsWith shown target trouble → IsRefusedFor octets trouble
fails_test octets shown target trouble shows fails = inr (record {
  head = fails.failed;
  has_come = subst (framing.ShowsHead request_form Request RECEIVED octets) fails.has_come shows;
  unserved = fails.unserved;
})

-- a head that may pass has passed, once it was tested
pub has_passed : (shown : Option RequestHead) (target kept : Option Target) → MayPass shown target → PassesWith shown target kept → HasPassed shown kept
has_passed None None kept may passes = subst (HasPassed None) (sym passes) tt
has_passed None (Some t) kept may passes = absurd may
has_passed (Some h) None kept may passes = subst (HasPassed (Some h)) (sym passes.1) passes.2
has_passed (Some h) (Some t) kept may passes = subst (HasPassed (Some h)) (sym passes) may

-- a head that was there stays, and one that came may still have to be tested
pub may_pass : (old new : Option RequestHead) (target : Option Target) → HasPassed old target → (IsSome old → new ≡ old) → MayPass new target
may_pass None None None passed keeps = tt
may_pass None (Some h) None passed keeps = tt
may_pass None new (Some t) passed keeps = absurd passed
may_pass (Some h) new None passed keeps = absurd passed
may_pass (Some h) new (Some t) passed keeps = subst (λ (x : Option RequestHead). MayPass x (Some t)) (sym (keeps refl)) passed

-- ---- a fault

shown_after : (fault : FrameFault) (octets : List ℕ) (shown : Option RequestHead) → fault ≢ faults.Memory
    → framing.ShowsHeadAfter request_form (Err fault) Request RECEIVED octets shown → framing.ShowsHead request_form Request RECEIVED octets shown
shown_after (faults.Head f) octets shown not shows = shows
shown_after faults.BothLengths octets shown not shows = shows
shown_after faults.BadLength octets shown not shows = shows
shown_after faults.BadCoding octets shown not shows = shows
shown_after faults.BadChunk octets shown not shows = shows
shown_after faults.BodyTooLong octets shown not shows = shows
shown_after faults.Truncated octets shown not shows = shows
shown_after faults.Memory octets shown not shows = absurd (not refl)
shown_after faults.Failed octets shown not shows = shows

-- the tests come first
pub met_and_failed : (r s : RequestReader) (fault : FrameFault) (octets : List ℕ) (trouble : Trouble) → fault ≢ faults.Memory → HasMet r fault octets
    → GivesTest (Ok (Some trouble)) r s → IsRefusedFor octets trouble
met_and_failed r s fault octets trouble not met tested =
    fails_test octets r.reader.head r.target trouble (shown_after fault octets r.reader.head not met.shows) tested.1

pub met_and_passed : (r s : RequestReader) (fault found : FrameFault) (octets : List ℕ) (trouble : Trouble) → fault ≢ faults.Memory → found ≡ fault → trouble ≡ trouble_of found → HasMet r fault octets
    → GivesTest (Ok None) r s → IsRefusedFor octets trouble
met_and_passed r s fault found octets trouble not same is met tested = inl (record {
  fault = fault;
  not_memory = not;
  stands = met.stands;
  passes = passes_tests octets r.reader.head s.target (shown_after fault octets r.reader.head not met.shows) (has_passed r.reader.head r.target s.target met.may_pass tested.1);
  trouble_is = is ∙ ap trouble_of same;
})

-- ---- nothing yet

pub goes_on_and_failed : (r s : RequestReader) (octets : List ℕ) (trouble : Trouble) → HasGoneOn r octets → GivesTest (Ok (Some trouble)) r s → IsRefusedFor octets trouble
goes_on_and_failed r s octets trouble on tested =
    fails_test octets r.reader.head r.target trouble (agreeing_shows request_form request_laws Request RECEIVED r.reader octets on.reads) tested.1

pub goes_on : (r s : RequestReader) (octets : List ℕ) → HasGoneOn r octets → r.waits ≡ [] → GivesTest (Ok None) r s → IsUnfinished octets × HasRead s octets
goes_on r s octets on none tested =
    let passed = has_passed r.reader.head r.target s.target on.may_pass tested.1 in
    let waits : s.waits ≡ [] = tested.0.waits_are ∙ none in (
      record {
        in_time = agreeing_in_time request_form request_laws Request RECEIVED r.reader octets on.reads;
        passes = passes_tests octets r.reader.head s.target (agreeing_shows request_form request_laws Request RECEIVED r.reader octets on.reads) passed;
      },
      record {
        agrees = record {
          read = octets;
          reads = subst (λ (m : MessageReader RequestHead). framing.Agrees request_form Request RECEIVED m octets) (sym tested.0.reader_is) on.reads;
          passed = subst (λ (m : MessageReader RequestHead). HasPassed m.head s.target) (sym tested.0.reader_is) passed;
          all = sym (append-nil octets) ∙ ap (λ (o : List ℕ). octets ++ o) (sym waits);
          counted = tested.0.heard_is ∙ on.counted;
        };
        none_unread = waits;
      },
    )

-- ---- a whole request

-- the octets that a message ends in, and those behind it
whole_octets : (read waits octets : List ℕ) (used : ℕ) → octets ≡ read ++ waits → (read ++ take used waits) ++ drop used waits ≡ octets
whole_octets read waits octets used all =
    append_assoc read (take used waits) (drop used waits) ∙ ap (λ (o : List ℕ). read ++ o) (take-append-drop used waits) ∙ sym all

pub ends_and_failed : (r s : RequestReader) (used : ℕ) (octets : List ℕ) (trouble : Trouble) → HasEnded r used octets → GivesTest (Ok (Some trouble)) r s → IsRefusedFor octets trouble
ends_and_failed r s used octets trouble ends tested =
    fails_test octets r.reader.head r.target trouble
    (subst (λ (o : List ℕ). framing.ShowsHead request_form Request RECEIVED o r.reader.head) (sym ends.all)
    (ok_shows request_form request_laws Request RECEIVED r.reader ends.read r.waits (Whole used) ends.ends)) tested.1

pub takes : (r q s : RequestReader) (used : ℕ) (octets : List ℕ) (reader : MessageReader RequestHead) (message : Message RequestHead) (target : Target) → HasEnded r used octets
    → GivesTest (Ok None) r q → reader ≡ q.reader → q.target ≡ Some target → ((m : Message RequestHead) → framing.Holds reader m → message ≡ m)
    → framing.Agrees request_form Request RECEIVED s.reader [] → s.reader.head ≡ None → s.target ≡ None → s.waits ≡ drop used q.waits → s.heard ≡ length s.waits → s.heard < 2 ^ 64
    → TakesRequest s octets message target
takes r q s used octets reader message target ends tested reader-is target-is taken fresh no-head no-target waits-are heard-is few =
    let e = ends.ends in
    let same : message ≡ e.message = taken e.message (subst (λ (m : MessageReader RequestHead). framing.Holds m e.message) (sym (reader-is ∙ tested.0.reader_is)) e.holds) in
    let passed : HasPassed (Some e.message.head) (Some target) =
    subst (λ (x : Option RequestHead × Option Target). HasPassed x.0 x.1) (λ i. (e.holds.head_is i, target-is i)) (has_passed r.reader.head r.target q.target ends.may_pass tested.1) in
    let len = length ends.read + used in
    let begins : framing.BeginsIn request_form Request octets RECEIVED e.message len =
    subst (λ (o : List ℕ). framing.BeginsIn request_form Request o RECEIVED e.message len) (whole_octets ends.read r.waits octets used ends.all) (begins_on request_form request_laws Request RECEIVED (ends.read ++ take used r.waits) (drop used r.waits) e.message len e.begins) in
    let left : s.waits ≡ drop len octets =
    waits-are ∙ ap (drop used) tested.0.waits_are ∙ sym (drop-append-add ends.read r.waits used) ∙ ap (drop len) (sym ends.all) in
    record {
      len = len;
      is_request = record {
        begins = subst (λ (m : Message RequestHead). framing.BeginsIn request_form Request octets RECEIVED m len) (sym same) begins;
        served = subst (λ (m : Message RequestHead). IsServed m.head target) (sym same) passed;
      };
      behind = record {
        agrees = record {
          read = [];
          reads = fresh;
          passed = subst (λ (x : Option RequestHead × Option Target). HasPassed x.0 x.1) (λ i. (sym no-head i, sym no-target i)) tt;
          all = sym left;
          counted = counted_all s.heard (drop len octets) (heard-is ∙ ap length left) few;
        };
        all_unread = left;
      };
    }

-- ---- what a piece gives

-- a piece is all that waits
fed_all : (r : RequestReader) (piece octets : List ℕ) (a : WasGiven r octets) → piece ≡ r.waits → a.read ++ piece ≡ octets
fed_all r piece octets a is = ap (λ (o : List ℕ). a.read ++ o) is ∙ sym a.all

pub went_on : (r : RequestReader) (m : MessageReader RequestHead) (piece octets : List ℕ) (a : WasGiven r octets) → piece ≡ r.waits → (IsSome r.reader.head → m.head ≡ r.reader.head)
    → framing.Agrees request_form Request RECEIVED m (a.read ++ piece) → HasGoneOn (record r { reader = m }) octets
went_on r m piece octets a is keeps reads = record {
  reads = subst (framing.Agrees request_form Request RECEIVED m) (fed_all r piece octets a is) reads;
  may_pass = may_pass r.reader.head m.head r.target a.passed keeps;
  counted = a.counted;
}

pub has_met : (r : RequestReader) (m : MessageReader RequestHead) (fault : FrameFault) (piece octets : List ℕ) (a : WasGiven r octets) → piece ≡ r.waits → (IsSome r.reader.head → m.head ≡ r.reader.head)
    → StandsIn request_form Request fault (a.read ++ piece) RECEIVED → framing.ShowsHeadAfter request_form (Err fault) Request RECEIVED (a.read ++ piece) m.head
    → HasMet (record r { reader = m }) fault octets
has_met r m fault piece octets a is keeps stands shows = record {
  stands = subst (λ (o : List ℕ). StandsIn request_form Request fault o RECEIVED) (fed_all r piece octets a is) stands;
  shows = subst (λ (o : List ℕ). framing.ShowsHeadAfter request_form (Err fault) Request RECEIVED o m.head) (fed_all r piece octets a is) shows;
  may_pass = may_pass r.reader.head m.head r.target a.passed keeps;
}

pub has_ended : (r : RequestReader) (m : MessageReader RequestHead) (used : ℕ) (piece octets : List ℕ) (a : WasGiven r octets) → piece ≡ r.waits → (IsSome r.reader.head → m.head ≡ r.reader.head)
    → framing.EndsAfter request_form Request RECEIVED m a.read piece used → HasEnded (record r { reader = m }) used octets
has_ended r m used piece octets a is keeps ends = record {
  read = a.read;
  all = a.all;
  ends = subst (λ (o : List ℕ). framing.EndsAfter request_form Request RECEIVED m a.read o used) is ends;
  may_pass = may_pass r.reader.head m.head r.target a.passed keeps;
}

-- ---- the client's end

-- the octets of a reader that has read them all
all_read : (r : RequestReader) (octets : List ℕ) (h : HasRead r octets) → framing.Agrees request_form Request RECEIVED r.reader octets
all_read r octets h =
    subst (framing.Agrees request_form Request RECEIVED r.reader) (sym (h.agrees.all ∙ ap (λ (o : List ℕ). h.agrees.read ++ o) h.none_unread ∙ append-nil h.agrees.read)) h.agrees.reads

-- what has begun is cut off, where its body hasn't ended
cut_in_body : (octets : List ℕ) (m : MessageReader RequestHead) → IsUnfinished octets → framing.EndsHere request_form Request RECEIVED m octets → IsGivenUp octets
cut_in_body octets m unfinished ends = inr (record { cut = go unfinished.in_time; passes = unfinished.passes })
  where
    go : framing.IsInTime request_form Request RECEIVED octets → StandsAtEnd request_form Request faults.Truncated octets RECEIVED
    go (inl none) = absurd (none.0 ends.is.is.head ends.is.is.head_len ends.is.octets_fit ends.is.is.begins)
    go (inr a) = inr (a, never_until_close a.head a.frame a.framed)

-- the end of what was read
pub given_up : (r : RequestReader) (m : MessageReader RequestHead) (octets : List ℕ) (progress : Progress) → IsUnfinished octets → HasRead r octets
    → ((kind : Kind) (room : Room) (o : List ℕ) → framing.Agrees request_form kind room r.reader o → framing.EndGives request_form (Ok progress) kind room m o) → IsGivenUp octets
given_up r m octets progress unfinished read gives = go progress (gives Request RECEIVED octets (all_read r octets read))
  where
    go : (p : Progress) → framing.EndGives request_form (Ok p) Request RECEIVED m octets → IsGivenUp octets
    go More g = absurd g
    go (Whole used) g = cut_in_body octets m unfinished g.1

ends_by : (fault : FrameFault) (octets : List ℕ) → fault ≢ faults.Memory → IsUnfinished octets → StandsAtEnd request_form Request fault octets RECEIVED
    → GivesEnd (Ok (last_trouble fault)) octets
ends_by (faults.Head f) octets not unfinished stands = inl (record { fault = faults.Head f; not_memory = not; stands = stands; passes = unfinished.passes; trouble_is = refl })
ends_by faults.BothLengths octets not unfinished stands = absurd stands
ends_by faults.BadLength octets not unfinished stands = absurd stands
ends_by faults.BadCoding octets not unfinished stands = absurd stands
ends_by faults.BadChunk octets not unfinished stands = absurd stands
ends_by faults.BodyTooLong octets not unfinished stands = absurd stands
ends_by faults.Truncated octets not unfinished stands = inr (record { cut = stands; passes = unfinished.passes })
ends_by faults.Memory octets not unfinished stands = absurd (not refl)
ends_by faults.Failed octets not unfinished stands = absurd stands

-- the same where a fault is met
pub ended_by : (r : RequestReader) (m : MessageReader RequestHead) (octets : List ℕ) (fault met : FrameFault) (told : Option Trouble) → met ≡ fault → fault ≢ faults.Memory → told ≡ last_trouble met
    → IsUnfinished octets → HasRead r octets
    → ((kind : Kind) (room : Room) (o : List ℕ) → framing.Agrees request_form kind room r.reader o → framing.EndGives request_form (Err fault) kind room m o) → GivesEnd (Ok told) octets
ended_by r m octets fault met told same not is unfinished read gives =
    subst (λ (x : Option Trouble). GivesEnd (Ok x) octets) (sym (is ∙ ap last_trouble same)) (ends_by fault octets not unfinished (gives Request RECEIVED octets (all_read r octets read)))

-- ---- the answers to the client's end

-- the octets of a connection whose client has ended, by what they are
pub ends_with : (r : RequestReader) (octets : List ℕ) (arrival : RequestArrival) (told : Option Trouble) → is_more arrival ≡ false → told ≡ refusal_of arrival → GivesNext (Ok arrival) r octets
    → GivesEnd (Ok told) octets
ends_with r octets (arrivals.Request message target) told some is gives =
    subst (λ (x : Option Trouble). GivesEnd (Ok x) octets) (sym is) (inl (record { message = message; target = target; len = gives.len; is_request = gives.is_request }))
ends_with r octets (arrivals.Refused refusal) told some is gives = subst (λ (x : Option Trouble). GivesEnd (Ok x) octets) (sym is) gives
ends_with r octets arrivals.More told some is gives = absurd (search (rules, some))

-- nothing has come yet
pub none_came : (r : RequestReader) (octets : List ℕ) (arrival : RequestArrival) → is_more arrival ≡ true → GivesNext (Ok arrival) r octets
    → IsUnfinished octets × HasRead r octets
none_came r octets (arrivals.Request message target) more gives = absurd (search (rules, more))
none_came r octets (arrivals.Refused refusal) more gives = absurd (search (rules, more))
none_came r octets arrivals.More more gives = gives
