-- What is read of a forward's connection.
use Rattle.std.proofs.Common.{◌≡◌, ◌≢◌, ℕ, zero, suc, ◌+◌, ◌-◌, ◌^◌, ◌≤◌, ◌<◌, min, Bool, true, false, List, [], ◌++◌, length, take, drop, Result, Ok, Err, rules, refl, sym, ap, subst, ◌∙◌, arith, append_assoc, length-append, length-drop, length-take, inl, inr}
use Rattle.std.proofs.lemmas.Bool.Decides.{nat_tests}
use Rattle.std.proofs.lemmas.List.{drop-append-le, drop_all, take-append-drop}
use Rattle.std.proofs.Math.Seq.{take-add}
use Rattle.hc_incoming.specs.declared.troubles.Trouble.{Trouble}
use Rattle.hc_incoming.specs.declared.troubles.Trouble.TheVariants as troubles
use Rattle.hc_fields.specs.declared.fields.Field.{Field}
use Rattle.hc_head.specs.declared.head.ResponseHead.{ResponseHead}
use Rattle.hc_head.specs.declared.head.Room.{Room}
use Rattle.hc_head.specs.declared.head.TheConstants.Room.{RECEIVED}
use Rattle.hc_head.specs.declared.head.Version.{Version}
use Rattle.hc_head.specs.Statuses.{is_interim}
use Rattle.hc_framing.specs.declared.fault.FrameFault.{FrameFault}
use Rattle.hc_framing.specs.declared.fault.FrameFault.TheVariants as faults
use Rattle.hc_framing.specs.declared.framing.Framing.{Framing}
use Rattle.hc_framing.specs.declared.framing.Framing.TheVariants.{Nothing}
use Rattle.hc_framing.specs.declared.kind.Kind.{Kind}
use Rattle.hc_framing.specs.declared.kind.Kind.TheVariants.{Response}
use Rattle.hc_framing.specs.declared.message.Message.{Message}
use Rattle.hc_framing.specs.declared.progress.Progress.{Progress}
use Rattle.hc_framing.specs.declared.progress.Progress.TheVariants.{More, Whole}
use Rattle.hc_framing.specs.declared.reader.MessageReader.{MessageReader}
use Rattle.hc_framing.specs.Faults.{StandsIn, IsWholeResponse}
use Rattle.hc_framing.specs.Framing.{response_framing}
use Rattle.hc_framing.specs.FramingLaws.{response_laws}
use Rattle.hc_framing.specs.Messages.{IsWholeBody, response_form}
use Rattle.hc_framing.specs.Reader as framing
use Rattle.hc_framing.proofs.ReaderLemmas.{agreeing_has_none, agreeing_in_time}
use Rattle.hc_incoming.proofs.BeginningLemmas.{begins_on, begins_within, takes_some}
use Rattle.hc_incoming.proofs.CountLemmas.{counted_on, counted_front}
use Rattle.hc_incoming.specs.declared.responses.ResponseReader.{ResponseReader}
use Rattle.hc_incoming.specs.Responses.{most_interim, switching_protocols, Begins, BeginsInterim, AreInterimThen, Leaves, IsResponse, IsUnfinished, IsResponseAtEnd}
use Rattle.hc_incoming.specs.Failures.{IsFailureFor, IsFailureAtEndFor}
use Rattle.hc_incoming.specs.Troubles.{trouble_of}
use Rattle.hc_incoming.specs.ResponseReading.{WasGiven}
use Rattle.hc_incoming.specs.declared.responses.Part.{Part}
use Rattle.hc_incoming.specs.declared.responses.Part.TheVariants.{Interim, Last}
use Rattle.hc_incoming.specs.ResponseParts.{BeginsNext, HasEnded, IsDropped, TakesSome, TakesThose}

-- ---- interim responses

interim_on : (to_head : Bool) (octets more : List ℕ) (len : ℕ) → BeginsInterim to_head octets len → BeginsInterim to_head (octets ++ more) len
interim_on to_head octets more len b = record {
  message = b.message;
  begins = begins_on response_form response_laws (Response to_head) RECEIVED octets more b.message len b.begins;
  interim = b.interim;
  no_switch = b.no_switch;
}

-- those that have come stay, whatever follows
pub are_on : (to_head : Bool) (count : ℕ) (octets rest more : List ℕ) → AreInterimThen to_head count octets rest → AreInterimThen to_head count (octets ++ more) (rest ++ more)
are_on to_head zero octets rest more are = ap (λ (o : List ℕ). o ++ more) are
are_on to_head (suc count) octets rest more are =
    let within = begins_within response_form response_laws (Response to_head) RECEIVED octets are.1.message are.0 are.1.begins in (
      are.0,
      interim_on to_head octets more are.0 are.1,
      subst (λ (o : List ℕ). AreInterimThen to_head count o (rest ++ more)) (sym (drop-append-le are.0 octets more within)) (are_on to_head count (drop are.0 octets) rest more are.2),
    )

-- one more has come
pub one_more : (to_head : Bool) (count : ℕ) (octets rest : List ℕ) (len : ℕ) → AreInterimThen to_head count octets rest → BeginsInterim to_head rest len
    → AreInterimThen to_head (suc count) octets (drop len rest)
one_more to_head zero octets rest len are begins =
    (len, subst (λ (o : List ℕ). BeginsInterim to_head o len) (sym are) begins, ap (drop len) are)
one_more to_head (suc count) octets rest len are begins =
    (are.0, are.1, one_more to_head count (drop are.0 octets) rest len are.2 begins)

pub leaves_on : (to_head : Bool) (octets : List ℕ) (count : ℕ) (rest more : List ℕ) → Leaves to_head octets count rest → Leaves to_head (octets ++ more) count (rest ++ more)
leaves_on to_head octets count rest more leaves = record { are = are_on to_head count octets rest more leaves.are; few = leaves.few }

-- ---- what a piece gives

pub fails : (to_head : Bool) (r : ResponseReader) (octets piece : List ℕ) (fault met : FrameFault) (trouble : Trouble) (a : WasGiven to_head r octets) → fault ≢ faults.Memory → met ≡ fault → trouble ≡ trouble_of met
    → StandsIn response_form (Response to_head) fault (a.rest ++ piece) RECEIVED → IsFailureFor to_head (octets ++ piece) trouble
fails to_head r octets piece fault met trouble a not same is stands = record {
  failure = record {
    count = r.interim;
    rest = a.rest ++ piece;
    leaves = leaves_on to_head octets r.interim a.rest piece a.leaves;
    fails = inl (record { fault = fault; not_memory = not; stands = stands });
  };
  told = is ∙ ap trouble_of same;
}

pub goes_on : (to_head : Bool) (r : ResponseReader) (m : MessageReader ResponseHead) (heard : ℕ) (octets piece : List ℕ) (a : WasGiven to_head r octets)
    → heard ≡ min (r.heard + length piece) (2 ^ 64 - 1) → framing.Agrees response_form (Response to_head) RECEIVED m (a.rest ++ piece)
    → IsUnfinished to_head (octets ++ piece) × WasGiven to_head (record r { reader = m; heard = heard }) (octets ++ piece)
goes_on to_head r m heard octets piece a is reads =
    let leaves = leaves_on to_head octets r.interim a.rest piece a.leaves in (
      record { count = r.interim; rest = a.rest ++ piece; leaves = leaves; in_time = agreeing_in_time response_form response_laws (Response to_head) RECEIVED m (a.rest ++ piece) reads },
      record { to_head_is = a.to_head_is; rest = a.rest ++ piece; leaves = leaves; reads = reads; counted = is ∙ counted_on r.heard octets piece a.counted },
    )

pub takes_those : (part : Part) (used : ℕ) (piece : List ℕ) → (0 < used) × (used ≤ length piece) → TakesThose part used → TakesSome (Ok part) piece
takes_those (Interim taken) used piece some same = (omega (arith, same, some.0), omega (arith, same, some.1))
takes_those (Last heard) used piece some same = tt

pub has_ended : (to_head : Bool) (r : ResponseReader) (m : MessageReader ResponseHead) (octets piece : List ℕ) (used : ℕ) (a : WasGiven to_head r octets)
    → framing.EndsAfter response_form (Response to_head) RECEIVED m a.rest piece used → HasEnded to_head (record r { reader = m }) octets piece used
has_ended to_head r m octets piece used a ends = record {
  to_head_is = a.to_head_is;
  rest = a.rest;
  leaves = a.leaves;
  counted = a.counted;
  some = takes_some response_form response_laws (Response to_head) RECEIVED r.reader m a.rest piece used a.reads ends;
  ends = ends;
}

-- ---- a response that has ended

-- it begins what is left with the whole piece
begins_rest : (to_head : Bool) (r : ResponseReader) (octets piece : List ℕ) (used : ℕ) (message : Message ResponseHead) (e : HasEnded to_head r octets piece used) → message ≡ e.ends.message
    → Begins to_head (e.rest ++ piece) message (length e.rest + used)
begins_rest to_head r octets piece used message e same =
    let len = length e.rest + used in
    subst (λ (x : List ℕ × Message ResponseHead). Begins to_head x.0 x.1 len)
    (λ i. ((append_assoc e.rest (take used piece) (drop used piece) ∙ ap (λ (o : List ℕ). e.rest ++ o) (take-append-drop used piece)) i, sym same i))
    (begins_on response_form response_laws (Response to_head) RECEIVED (e.rest ++ take used piece) (drop used piece) e.ends.message len e.ends.begins)

-- no status is under 100
least_status : (to_head : Bool) (octets : List ℕ) (message : Message ResponseHead) (len : ℕ) → Begins to_head octets message len → 100 ≤ message.head.status
least_status to_head octets message len b = subst (λ (h : ResponseHead). 100 ≤ h.status) (sym b.begins.head_is) b.begins.begins.has_status

final_status : (status : ℕ) → 100 ≤ status → is_interim status ≡ false → 200 ≤ status
final_status status least not = grind (arith, nat_tests)

pub is_response : (to_head : Bool) (r : ResponseReader) (octets piece : List ℕ) (used : ℕ) (message : Message ResponseHead) → HasEnded to_head r octets piece used
    → ((m : Message ResponseHead) → framing.Holds r.reader m → message ≡ m) → is_interim message.head.status ≡ false → IsResponse to_head (octets ++ piece) message
is_response to_head r octets piece used message e taken not =
    let begins = begins_rest to_head r octets piece used message e (taken e.ends.message e.ends.holds) in
    record {
      count = r.interim;
      rest = e.rest ++ piece;
      leaves = leaves_on to_head octets r.interim e.rest piece e.leaves;
      len = length e.rest + used;
      begins = begins;
      final = final_status message.head.status (least_status to_head (e.rest ++ piece) message (length e.rest + used) begins) not;
    }

pub switches : (to_head : Bool) (r : ResponseReader) (octets piece : List ℕ) (used : ℕ) (message : Message ResponseHead) → HasEnded to_head r octets piece used
    → ((m : Message ResponseHead) → framing.Holds r.reader m → message ≡ m) → message.head.status ≡ switching_protocols → IsFailureFor to_head (octets ++ piece) troubles.SwitchesProtocol
switches to_head r octets piece used message e taken is = record {
  failure = record {
    count = r.interim;
    rest = e.rest ++ piece;
    leaves = leaves_on to_head octets r.interim e.rest piece e.leaves;
    fails = inr (inl (record { message = message; len = length e.rest + used; begins = begins_rest to_head r octets piece used message e (taken e.ends.message e.ends.holds); switches = is }));
  };
  told = refl;
}

pub too_many : (to_head : Bool) (r : ResponseReader) (octets piece : List ℕ) (used : ℕ) (message : Message ResponseHead) → HasEnded to_head r octets piece used
    → ((m : Message ResponseHead) → framing.Holds r.reader m → message ≡ m) → is_interim message.head.status ≡ true → message.head.status ≢ switching_protocols → most_interim ≤ r.interim
    → IsFailureFor to_head (octets ++ piece) troubles.TooManyInterim
too_many to_head r octets piece used message e taken interim not most = record {
  failure = record {
    count = r.interim;
    rest = e.rest ++ piece;
    leaves = leaves_on to_head octets r.interim e.rest piece e.leaves;
    fails = inr (inr (record {
      len = length e.rest + used;
      begins = record { message = message; begins = begins_rest to_head r octets piece used message e (taken e.ends.message e.ends.holds); interim = interim; no_switch = not };
      too_many = omega (arith, most, e.leaves.few);
    }));
  };
  told = refl;
}

pub is_dropped : (to_head : Bool) (r q s : ResponseReader) (octets piece : List ℕ) (used : ℕ) (message : Message ResponseHead) → HasEnded to_head r octets piece used
    → ((m : Message ResponseHead) → framing.Holds r.reader m → message ≡ m) → is_interim message.head.status ≡ true → message.head.status ≢ switching_protocols → q.interim < most_interim → BeginsNext r q
    → s.to_head ≡ q.to_head → s.interim ≡ q.interim + 1 → s.heard ≡ min (q.heard + used) (2 ^ 64 - 1) → s.reader ≡ q.reader → IsDropped to_head s octets piece used
is_dropped to_head r q s octets piece used message e taken interim not few next to-head-is interim-is heard-is reader-is =
    let same = taken e.ends.message e.ends.holds in
    let front = take used piece in
    let len = length e.rest + used in
    let begins : BeginsInterim to_head (e.rest ++ front) len =
    record { message = message; begins = subst (λ (m : Message ResponseHead). Begins to_head (e.rest ++ front) m len) (sym same) e.ends.begins; interim = interim; no_switch = not } in
    let none : drop len (e.rest ++ front) ≡ [] = drop_all len (e.rest ++ front) (omega (arith, length-append e.rest front, length-take used piece, e.ends.within)) in
    let count-is : suc r.interim ≡ s.interim = omega (arith, interim-is, next.interim_is) in
    record {
      some = e.some;
      within = e.ends.within;
      agrees = record {
        to_head_is = to-head-is ∙ next.to_head_is ∙ e.to_head_is;
        rest = [];
        leaves = record {
          are = subst (λ (x : ℕ × List ℕ). AreInterimThen to_head x.0 (octets ++ front) x.1) (λ i. (count-is i, none i))
              (one_more to_head r.interim (octets ++ front) (e.rest ++ front) len (are_on to_head r.interim octets e.rest front e.leaves.are) begins);
          few = omega (arith, interim-is, few);
        };
        reads = subst (λ (m : MessageReader ResponseHead). framing.Agrees response_form (Response to_head) RECEIVED m []) (sym reader-is)
            (subst (λ (h : Bool). framing.Agrees response_form (Response h) RECEIVED q.reader []) e.to_head_is next.reads);
        counted = heard-is ∙ ap (λ (n : ℕ). min (n + used) (2 ^ 64 - 1)) next.heard_is ∙ counted_front r.heard used octets piece e.counted e.ends.within;
      };
    }

-- ---- the origin's end

-- an interim response ends with its head
interim_frame : (to_head : Bool) (status : ℕ) (version : Version) (fields : List Field) (frame : Framing) → is_interim status ≡ true → response_framing to_head status version fields ≡ Ok frame
    → frame ≡ Nothing
interim_frame true status version fields frame interim framed = search (rules, framed)
interim_frame false status version fields frame interim framed = search (rules, interim, framed)

-- so none ends with the octets
never_interim : (to_head : Bool) (r : ResponseReader) (octets : List ℕ) (message : Message ResponseHead) (a : WasGiven to_head r octets) → IsWholeResponse to_head a.rest RECEIVED message
    → is_interim message.head.status ≡ true → ⊥
never_interim to_head r octets message a whole interim =
    let w = whole.is in
    let status : message.head.status ≡ w.head.status = ap (λ (h : ResponseHead). h.status) w.head_is in
    let nothing = interim_frame to_head w.head.status w.head.version w.head.fields w.frame (ap is_interim (sym status) ∙ interim) w.framed in
    let body : IsWholeBody Nothing (drop w.head_len a.rest) message.body = subst (λ (f : Framing). IsWholeBody f (drop w.head_len a.rest) message.body) nothing w.body in
    agreeing_has_none response_form response_laws (Response to_head) RECEIVED r.reader a.rest a.reads message (w.head_len + length (drop w.head_len a.rest)) (record {
      head = w.head;
      head_len = w.head_len;
      begins = w.begins;
      frame = Nothing;
      framed = w.framed ∙ ap (λ (f : Framing). as_framing f) nothing;
      body_len = length (drop w.head_len a.rest);
      body = body;
      head_is = w.head_is;
      len_is = refl;
    })
  where
    as_framing : Framing → Result Framing FrameFault
    as_framing f = Ok f

pub ends_with : (to_head : Bool) (r : ResponseReader) (m : MessageReader ResponseHead) (octets : List ℕ) (progress : Progress) (message : Message ResponseHead) → WasGiven to_head r octets
    → ((kind : Kind) (room : Room) (o : List ℕ) → framing.Agrees response_form kind room r.reader o → framing.EndGives response_form (Ok progress) kind room m o)
    → ((found : Message ResponseHead) → framing.Holds m found → message ≡ found) → IsResponseAtEnd to_head octets message
ends_with to_head r m octets progress message a gives taken = go progress (gives (Response to_head) RECEIVED a.rest a.reads)
  where
    final : IsWholeResponse to_head a.rest RECEIVED message → (interim : Bool) → is_interim message.head.status ≡ interim → 200 ≤ message.head.status
    final whole true is = absurd (never_interim to_head r octets message a whole is)
    final whole false is =
        final_status message.head.status (subst (λ (h : ResponseHead). 100 ≤ h.status) (sym whole.is.head_is) whole.is.begins.has_status) is

    go : (p : Progress) → framing.EndGives response_form (Ok p) (Response to_head) RECEIVED m a.rest → IsResponseAtEnd to_head octets message
    go More g = absurd g
    go (Whole used) g =
        let whole : IsWholeResponse to_head a.rest RECEIVED message = subst (IsWholeResponse to_head a.rest RECEIVED) (sym (taken g.1.message g.1.holds)) g.1.is in
        record { count = r.interim; rest = a.rest; leaves = a.leaves; is_whole = whole; final = final whole (is_interim message.head.status) refl }

pub fails_at_end : (to_head : Bool) (r : ResponseReader) (m : MessageReader ResponseHead) (octets : List ℕ) (fault met : FrameFault) (trouble : Trouble) → WasGiven to_head r octets → fault ≢ faults.Memory
    → met ≡ fault → trouble ≡ trouble_of met
    → ((kind : Kind) (room : Room) (o : List ℕ) → framing.Agrees response_form kind room r.reader o → framing.EndGives response_form (Err fault) kind room m o)
    → IsFailureAtEndFor to_head octets trouble
fails_at_end to_head r m octets fault met trouble a not same is gives = record {
  failure = record {
    count = r.interim;
    rest = a.rest;
    leaves = a.leaves;
    fault = fault;
    not_memory = not;
    stands = gives (Response to_head) RECEIVED a.rest a.reads;
  };
  told = is ∙ ap trouble_of same;
}

-- ---- the rest of a piece

pub taken_of_rest : (piece rest : List ℕ) (used taken : ℕ) → rest ≡ drop used piece → used ≤ length piece → (0 < taken) × (taken ≤ length rest) → used + taken ≤ length piece
taken_of_rest piece rest used taken is within some = omega (arith, some.1, ap length is, length-drop used piece, within)

pub front_of_rest : (octets piece rest : List ℕ) (used taken : ℕ) → rest ≡ drop used piece → (octets ++ take used piece) ++ take taken rest ≡ octets ++ take (used + taken) piece
front_of_rest octets piece rest used taken is =
    append_assoc octets (take used piece) (take taken rest) ∙ ap (λ (o : List ℕ). octets ++ (take used piece ++ take taken o)) is ∙ ap (λ (o : List ℕ). octets ++ o) (sym (take-add used taken piece))

pub all_of_rest : (octets piece rest : List ℕ) (used : ℕ) → rest ≡ drop used piece → (octets ++ take used piece) ++ rest ≡ octets ++ piece
all_of_rest octets piece rest used is =
    append_assoc octets (take used piece) rest ∙ ap (λ (o : List ℕ). octets ++ (take used piece ++ o)) is ∙ ap (λ (o : List ℕ). octets ++ o) (take-append-drop used piece)
