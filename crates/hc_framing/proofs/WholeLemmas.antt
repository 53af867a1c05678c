-- Octets that are to be one message, read at once.
use Rattle.std.proofs.Common.{◌≡◌, ℕ, ◌+◌, ◌<◌, ◌==◌, false, List, [], ◌∷◌, length, take, drop, Result, Ok, Err, rules, refl, sym, subst, arith, length-drop, inl, inr}
use Rattle.std.proofs.lemmas.List.{take-append-drop}
use Rattle.hc_head.specs.declared.head.Room.{Room}
use Rattle.hc_head.specs.Reading.{IsWholeHead}
use Rattle.hc_framing.specs.declared.message.Message.{Message}
use Rattle.hc_framing.specs.declared.kind.Kind.{Kind}
use Rattle.hc_framing.specs.declared.fault.FrameFault.{FrameFault}
use Rattle.hc_framing.specs.declared.fault.FrameFault.TheVariants as faults
use Rattle.hc_framing.specs.declared.framing.Framing.{Framing}
use Rattle.hc_framing.specs.declared.framing.Framing.TheVariants.{Nothing, Sized, Chunked, UntilClose}
use Rattle.hc_framing.specs.declared.body.BodyReader.{BodyReader}
use Rattle.hc_framing.specs.declared.progress.Progress.TheVariants.{Whole}
use Rattle.hc_framing.specs.Forms.{Form, FormLaws}
use Rattle.hc_framing.specs.Messages.{BeginsBody}
use Rattle.hc_framing.specs.Bodies.{has_octets}
use Rattle.hc_framing.specs.Framing.{IsFramingFault}
use Rattle.hc_framing.specs.BodyReading.{GivesBody}
use Rattle.hc_framing.specs.Faults.{ShowsFault, StandsInWhole, GivesMessage}
use Rattle.hc_framing.specs.WholeParts.{EndsBefore, noted, GivesWholeBody, GivesFramed, GivesBehind}
use Rattle.hc_framing.proofs.BodyLemmas.{body-append}
use Rattle.hc_framing.proofs.ReaderLemmas.{body_faults}

-- ---- bodies

-- a body that has no octets
no_octets : (framing : Framing) (octets : List ℕ) → has_octets framing ≡ false → BeginsBody framing octets [] 0
no_octets Nothing octets none = (refl, refl)
no_octets (Sized size) octets none = search (rules, none)
no_octets Chunked octets none = absurd (search (rules, none))
no_octets UntilClose octets none = absurd (search (rules, none))

pub none_before : (framing : Framing) (octets : List ℕ) → has_octets framing ≡ false → (length octets == 0) ≡ false → EndsBefore framing octets
none_before framing octets none some = record { body = []; len = 0; begins = no_octets framing octets none; more = some_octets octets some }
  where
    some_octets : (o : List ℕ) → (length o == 0) ≡ false → 0 < length o
    some_octets [] empty = absurd (search (rules, empty))
    some_octets (x ∷ o) empty = omega arith

-- a body that has ended with so many octets
begun : (framing : Framing) (r : BodyReader) (octets : List ℕ) (used : ℕ) → GivesBody (Ok (Whole used)) framing r [] octets → BeginsBody framing octets r.whole used
begun framing r octets used gives =
    let body : BeginsBody framing (take used octets) r.whole used =
    subst (λ (n : ℕ). BeginsBody framing (take used octets) r.whole n) zero_more gives.1 in
    subst (λ (o : List ℕ). BeginsBody framing o r.whole used) (take-append-drop used octets) (body-append framing (take used octets) (drop used octets) r.whole used body)
  where
    zero_more : 0 + used ≡ used
    zero_more = omega arith

pub ends_before : (framing : Framing) (r : BodyReader) (octets : List ℕ) (used : ℕ) → GivesBody (Ok (Whole used)) framing r [] octets → used < length octets
    → EndsBefore framing octets
ends_before framing r octets used gives more = record { body = r.whole; len = used; begins = begun framing r octets used gives; more = more }

-- ---- messages

module _ {H : Type 0} (form : Form H) (laws : FormLaws form) where
  -- a fault that the fields show
  shown_in : (kind : Kind) (octets : List ℕ) (room : Room) (fault : FrameFault) → IsFramingFault fault → ShowsFault form kind fault octets room
      → StandsInWhole form kind fault octets room
  shown_in kind octets room (faults.Head f) is shows = absurd is
  shown_in kind octets room faults.BothLengths is shows = shows
  shown_in kind octets room faults.BadLength is shows = inl shows
  shown_in kind octets room faults.BadCoding is shows = shows
  shown_in kind octets room faults.BadChunk is shows = absurd is
  shown_in kind octets room faults.BodyTooLong is shows = inl shows
  shown_in kind octets room faults.Truncated is shows = absurd is
  shown_in kind octets room faults.Memory is shows = tt
  shown_in kind octets room faults.Failed is shows = absurd is

  -- what the octets behind a whole head say of all
  framed_in : (kind : Kind) (octets : List ℕ) (room : Room) (head : H) (len : ℕ) (frame : Framing) (result : Result (Message H) FrameFault)
      → IsWholeHead form.begins form.field_count octets room head len → form.framing_of kind head ≡ Ok frame
      → GivesFramed form frame head result (drop len octets) → GivesMessage form kind result octets room
  framed_in kind octets room head len frame (Ok message) begins framed gives = record {
    is = record { head = head; head_len = len; begins = begins.begins; frame = frame; framed = framed; body = gives.0; head_is = gives.1 };
    octets_fit = begins.octets_fit;
    fields_fit = begins.fields_fit;
  }
  framed_in kind octets room head len frame (Err faults.Truncated) begins framed gives =
      inr (record { head = head; len = len; begins = begins; frame = frame; framed = framed; is_open = gives.0 }, gives.1)
  framed_in kind octets room head len frame (Err faults.BadLength) begins framed gives = inr (record {
    message = record { head = form.without_framing head; body = gives.body };
    len = len + gives.len;
    begins = record {
      head = head;
      head_len = len;
      begins = begins.begins;
      frame = frame;
      framed = framed;
      body_len = gives.len;
      body = gives.begins;
      head_is = refl;
      len_is = refl;
    };
    octets_fit = begins.octets_fit;
    fields_fit = begins.fields_fit;
    more = omega (arith, gives.more, length-drop len octets, laws.within octets head len begins.begins);
  })
  framed_in kind octets room head len frame (Err (faults.Head f)) begins framed gives = absurd gives
  framed_in kind octets room head len frame (Err faults.BothLengths) begins framed gives = absurd gives
  framed_in kind octets room head len frame (Err faults.BadCoding) begins framed gives = absurd gives
  framed_in kind octets room head len frame (Err faults.BadChunk) begins framed gives =
      body_faults form laws kind octets room head len frame faults.BadChunk begins framed gives
  framed_in kind octets room head len frame (Err faults.BodyTooLong) begins framed gives =
      body_faults form laws kind octets room head len frame faults.BodyTooLong begins framed gives
  framed_in kind octets room head len frame (Err faults.Memory) begins framed gives = tt
  framed_in kind octets room head len frame (Err faults.Failed) begins framed gives = absurd gives

  -- a bare head, and a body that was noted behind it
  pub framed_noted : (framing : Framing) (head bare : H) (r : Result (Unit {0}) FrameFault) (body octets : List ℕ) → bare ≡ form.without_framing head
      → GivesWholeBody (noted r body) framing octets → GivesFramed form framing head (noted r (record { head = bare; body = body })) octets
  framed_noted framing head bare (Ok done) body octets bare-is gives = (gives, bare-is)
  framed_noted framing head bare (Err fault) body octets bare-is gives = gives

  pub behind_head : (kind : Kind) (octets : List ℕ) (room : Room) (head : H) (len : ℕ) (result : Result (Message H) FrameFault)
      → IsWholeHead form.begins form.field_count octets room head len
      → GivesBehind form (form.framing_of kind head) head result (drop len octets) → GivesMessage form kind result octets room
  behind_head kind octets room head len result begins = go (form.framing_of kind head) refl
    where
      go : (framed : Result Framing FrameFault) → form.framing_of kind head ≡ framed → GivesBehind form framed head result (drop len octets)
          → GivesMessage form kind result octets room
      go (Ok frame) framed gives = framed_in kind octets room head len frame result begins framed gives
      go (Err fault) framed gives =
          subst (λ (r : Result (Message H) FrameFault). GivesMessage form kind r octets room) (sym gives)
          (shown_in kind octets room fault (laws.shows kind head fault framed) (record { head = head; len = len; begins = begins; framed = framed }))
