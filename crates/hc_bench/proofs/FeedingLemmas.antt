-- A message that is fed in pieces.
use Rattle.std.proofs.Common.{◌≡◌, ℕ, zero, suc, ◌+◌, ◌-◌, ◌*◌, ◌<◌, ◌≤◌, List, [], ◌∷◌, ◌++◌, length, take, drop, min, Result, Ok, Err, sym, ap, subst, ◌∙◌, arith, append-nil, length-drop}
use Rattle.std.specs.Prelude.{IsErrAnd}
use Rattle.std.proofs.lemmas.Result.{err_from_is_err_and}
use Rattle.std.proofs.lemmas.List.{length-take-le, take-append-le, take-append-drop, take_all}
use Rattle.std.proofs.Math.Nat.{add-mul}
use Rattle.std.proofs.Math.Seq.{take-add}
use Rattle.hc_head.specs.declared.head.Room.{Room}
use Rattle.hc_framing.specs.declared.fault.FrameFault.{FrameFault}
use Rattle.hc_framing.specs.declared.fault.FrameFault.TheVariants as faults
use Rattle.hc_framing.specs.declared.kind.Kind.{Kind}
use Rattle.hc_framing.specs.declared.message.Message.{Message}
use Rattle.hc_framing.specs.declared.progress.Progress.{Progress}
use Rattle.hc_framing.specs.declared.progress.Progress.TheVariants.{More, Whole}
use Rattle.hc_framing.specs.declared.reader.MessageReader.{MessageReader}
use Rattle.hc_framing.specs.Forms.{Form}
use Rattle.hc_framing.specs.Messages.{BeginsMessage}
use Rattle.hc_framing.specs.Faults.{StandsIn}
use Rattle.hc_framing.specs.Reader.{Agrees, BeginsIn, CanFeed, EndsAfter, FeedGives, HasNoMessage, Holds}
use Rattle.hc_bench.specs.declared.feeding.FedMessage.{FedMessage}
use Rattle.hc_bench.specs.declared.trouble.Trouble.{Trouble}
use Rattle.hc_bench.specs.Feeding.{AreReadThen, FeedsTo, IsFed, IsRead, trouble_of}

-- the piece that follows so many of the octets
pub record IsNext (octets : List ℕ) (size before : ℕ) (piece : List ℕ) : Type 0 where
  pub inside : before < length octets
  pub is : piece ≡ take (min size (length (drop before octets))) (drop before octets)

-- cut off as the loop does
pub next_piece : (octets : List ℕ) (size before most : ℕ) (rest piece : List ℕ) → before < length octets → rest ≡ drop before octets
    → most ≡ min size (length rest) → piece ≡ take most rest → IsNext octets size before piece
next_piece octets size before most rest piece inside rest_is most_is piece_is = record {
  inside = inside;
  is = piece_is ∙ ap (λ (n : ℕ). take n rest) most_is ∙ ap (λ (xs : List ℕ). take (min size (length xs)) xs) rest_is;
}

next_len : (octets : List ℕ) (size before : ℕ) (piece : List ℕ) → IsNext octets size before piece → length piece ≡ min size (length octets - before)
next_len octets size before piece next =
    ap length next.is ∙ length-take-le (min size (length (drop before octets))) (drop before octets) (omega arith)
    ∙ ap (min size) (length-drop before octets)

-- a front of the octets and of the piece behind it
next_front : (octets : List ℕ) (size before used : ℕ) (piece : List ℕ) → IsNext octets size before piece → used ≤ length piece
    → take before octets ++ take used piece ≡ take (before + used) octets
next_front octets size before used piece next within =
    let most = min size (length (drop before octets)) in
    let rest = drop before octets in
    let enough : used ≤ length (take most rest) = omega (arith, within, ap length next.is) in
    let same : take used piece ≡ take used rest =
    ap (take used) next.is ∙ sym (take-append-le used (take most rest) (drop most rest) enough) ∙ ap (take used) (take-append-drop most rest) in
    ap (λ (xs : List ℕ). take before octets ++ xs) same ∙ sym (take-add before used octets)

module _ {H : Type 0} (form : Form H) where
  -- no message has ended in so many of the octets, which the reader was given in so many pieces
  pub record IsFeeding (kind : Kind) (room : Room) (octets : List ℕ) (size before calls : ℕ) (reader : MessageReader H) : Type 0 where
    pub within : before ≤ length octets
    pub few : calls ≤ before
    pub enough : before ≤ calls * size
    pub full : before < length octets → calls * size ≡ before
    pub agrees : Agrees form kind room reader (take before octets)
    pub none : HasNoMessage form kind (take before octets)
    pub can : CanFeed form reader

  module _ (kind : Kind) (room : Room) (octets : List ℕ) (size before calls : ℕ) (old new : MessageReader H) (piece : List ℕ) (result : Result Progress FrameFault)
      (feeding : IsFeeding kind room octets size before calls old) (next : IsNext octets size before piece) (some : 0 < size)
      (gives : FeedGives form result kind room new (take before octets) piece) where
    -- after a piece behind which more are wanted
    pub feeding_more : result ≡ Ok More → HasNoMessage form kind (take before octets ++ piece) → CanFeed form new
        → IsFeeding kind room octets size (before + length piece) (calls + 1) new
    feeding_more more none can =
        let len = next_len octets size before piece next in
        let whole : take before octets ++ piece ≡ take (before + length piece) octets =
        ap (λ (xs : List ℕ). take before octets ++ xs) (sym (take_all (length piece) piece (omega arith)))
        ∙ next_front octets size before (length piece) piece next (omega arith) in
        let now = subst (λ (r : Result Progress FrameFault). FeedGives form r kind room new (take before octets) piece) more gives in
        let filled = feeding.full next.inside in
        record {
          within = omega (arith, len);
          few = omega (arith, len);
          enough = omega (arith, len, filled, add-mul calls 1 size);
          full = λ inside. omega (arith, len, filled, add-mul calls 1 size);
          agrees = subst (λ (o : List ℕ). Agrees form kind room new o) whole now;
          none = subst (λ (o : List ℕ). HasNoMessage form kind o) whole none;
          can = can;
        }

    -- with no octet of the piece no message ends
    some_used : (used : ℕ) → EndsAfter form kind room new (take before octets) piece used → 0 < used
    some_used zero ends =
        absurd (feeding.none ends.message (length (take before octets) + 0)
        (subst (λ (o : List ℕ). BeginsMessage form kind o ends.message (length (take before octets) + 0)) (append-nil (take before octets)) ends.begins.begins))
    some_used (suc used) ends = omega arith

    -- after the piece with which the message ends
    pub feeding_whole : (used : ℕ) → result ≡ Ok (Whole used) → (fed : FedMessage H) → ((message : Message H) → Holds new message → fed.message ≡ message)
        → fed.octets ≡ before + used → fed.calls ≡ calls + 1
        → IsFed form kind room octets size fed
    feeding_whole used whole fed takes octets_is calls_is =
        let ends = subst (λ (r : Result Progress FrameFault). FeedGives form r kind room new (take before octets) piece) whole gives in
        let len = next_len octets size before piece next in
        let used_some = some_used used ends in
        let filled = feeding.full next.inside in
        let front : take before octets ++ take used piece ≡ take fed.octets octets =
        next_front octets size before used piece next ends.within ∙ ap (λ (n : ℕ). take n octets) (sym octets_is) in
        let called : fed.calls * size ≡ before + size =
        ap (λ (n : ℕ). n * size) calls_is ∙ omega (arith, filled, add-mul calls 1 size) in
        let all : length (take before octets) + used ≡ fed.octets =
        ap (λ (n : ℕ). n + used) (length-take-le before octets feeding.within) ∙ sym octets_is in
        record {
          read = subst (λ (m : Message H). IsRead form kind room octets m fed.octets) (sym (takes ends.message ends.holds))
              (subst (λ (n : ℕ). BeginsIn form kind (take fed.octets octets) room ends.message n) all
              (subst (λ (o : List ℕ). BeginsIn form kind o room ends.message (length (take before octets) + used)) front ends.begins));
          some = omega arith;
          within = omega (arith, len, ends.within);
          enough = omega (arith, ends.within);
          needed = omega arith;
        }

    -- after the piece that shows a fault
    pub feeding_fault : (fault : FrameFault) → result ≡ Err fault → (answer : Result (FedMessage H) Trouble) → IsErrAnd answer (λ trouble. trouble ≡ trouble_of fault)
        → FeedsTo form answer kind room octets size
    feeding_fault fault failed answer told_so =
        let whole : take before octets ++ piece ≡ take (before + length piece) octets =
        ap (λ (xs : List ℕ). take before octets ++ xs) (sym (take_all (length piece) piece (omega arith)))
        ∙ next_front octets size before (length piece) piece next (omega arith) in
        let stands = subst (λ (r : Result Progress FrameFault). FeedGives form r kind room new (take before octets) piece) failed gives in
        let is = err_from_is_err_and answer told_so in
        subst (λ (r : Result (FedMessage H) Trouble). FeedsTo form r kind room octets size) (sym (is.1 ∙ ap Err is.2))
        (told fault (subst (λ (o : List ℕ). StandsIn form kind fault o room) whole stands))
      where
        told : (fault : FrameFault) → StandsIn form kind fault (take (before + length piece) octets) room
            → FeedsTo form (Err (trouble_of fault)) kind room octets size
        told faults.Memory stands = tt
        told (faults.Head fault) stands = (before + length piece, stands)
        told faults.BothLengths stands = (before + length piece, stands)
        told faults.BadLength stands = (before + length piece, stands)
        told faults.BadCoding stands = (before + length piece, stands)
        told faults.BadChunk stands = (before + length piece, stands)
        told faults.BodyTooLong stands = (before + length piece, stands)
        told faults.Truncated stands = (before + length piece, stands)
        told faults.Failed stands = (before + length piece, stands)

  -- at the end of the octets
  pub feeding_end : (kind : Kind) (room : Room) (octets : List ℕ) (size before calls : ℕ) (reader : MessageReader H)
      → IsFeeding kind room octets size before calls reader → length octets ≤ before → HasNoMessage form kind octets
  feeding_end kind room octets size before calls reader feeding over =
      subst (λ (o : List ℕ). HasNoMessage form kind o) (take_all before octets over) feeding.none

  -- one message more
  pub read_more : (kind : Kind) (room : Room) (messages : List (Message H)) (message : Message H) (octets rest behind : List ℕ) (len : ℕ)
      → AreReadThen form kind room messages octets rest → IsRead form kind room rest message len
      → behind ≡ drop len rest → AreReadThen form kind room (messages ++ message ∷ []) octets behind
  read_more kind room [] message octets rest behind len are read is =
      (len, (subst (λ (o : List ℕ). IsRead form kind room o message len) (sym are) read, ap (drop len) are ∙ sym is))
  read_more kind room (first ∷ messages) message octets rest behind len are read is =
      (are.0, (are.1.0, read_more kind room messages message (drop are.0 octets) rest behind len are.1.1 read is))
