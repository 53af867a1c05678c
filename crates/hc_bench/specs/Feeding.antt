-- What it means that messages were fed in pieces.
use Rattle.std.specs.Prelude.{◌≡◌, ℕ, ◌+◌, ◌*◌, ◌<◌, ◌≤◌, List, [], ◌∷◌, length, take, drop, Result, Ok, Err}
use Rattle.hc_head.specs.declared.head.Room.{Room}
use Rattle.hc_framing.specs.declared.fault.FrameFault.{FrameFault}
use Rattle.hc_framing.specs.declared.fault.FrameFault.TheVariants as faults
use Rattle.hc_framing.specs.declared.kind.Kind.{Kind}
use Rattle.hc_framing.specs.declared.message.Message.{Message}
use Rattle.hc_framing.specs.Forms.{Form}
use Rattle.hc_framing.specs.Faults.{StandsIn}
use Rattle.hc_framing.specs.Reader.{BeginsIn, HasNoMessage}
use Rattle.hc_bench.specs.declared.feeding.FedMessage.{FedMessage}
use Rattle.hc_bench.specs.declared.rate.Rate.{Rate}
use Rattle.hc_bench.specs.declared.trouble.Trouble.{Trouble}
use Rattle.hc_bench.specs.declared.trouble.Trouble.TheVariants.{Memory, Device, Fault, Unended, NotStored, NotServed}

-- a fault of a message as a trouble
abbrev pub trouble_of : FrameFault → Trouble
trouble_of faults.Memory = Memory
trouble_of fault = Fault fault

module _ {H : Type 0} (form : Form H) where
  -- so many of the octets are the message, and its head keeps to the room
  abbrev pub IsRead : Kind → Room → List ℕ → Message H → ℕ → Type 0
  IsRead kind room octets message len = BeginsIn form kind (take len octets) room message len

  -- the octets begin with the message, which takes so many pieces of that size
  pub record IsFed (kind : Kind) (room : Room) (octets : List ℕ) (size : ℕ) (fed : FedMessage H) : Type 0 where
    pub read : IsRead kind room octets fed.message fed.octets
    pub some : 0 < fed.octets
    pub within : fed.octets ≤ length octets
    pub enough : fed.octets ≤ fed.calls * size
    pub needed : fed.calls * size < fed.octets + size

  -- each answer stands only where this says so
  abbrev pub FeedsTo : Result (FedMessage H) Trouble → Kind → Room → List ℕ → ℕ → Type 0
  FeedsTo (Ok fed) kind room octets size = IsFed kind room octets size fed
  FeedsTo (Err Memory) kind room octets size = Unit {0}
  FeedsTo (Err Device) kind room octets size = ⊥
  FeedsTo (Err (Fault fault)) kind room octets size =
      (len : ℕ) × StandsIn form kind fault (take len octets) room
  FeedsTo (Err Unended) kind room octets size = HasNoMessage form kind octets
  FeedsTo (Err NotStored) kind room octets size = ⊥
  FeedsTo (Err NotServed) kind room octets size = ⊥

  -- the octets are these messages, one behind another, and then rest
  abbrev pub AreReadThen : Kind → Room → List (Message H) → List ℕ → List ℕ → Type 0
  AreReadThen kind room [] octets rest = octets ≡ rest
  AreReadThen kind room (message ∷ messages) octets rest =
      (len : ℕ) × (IsRead kind room octets message len × AreReadThen kind room messages (drop len octets) rest)

  -- the rate counts all of the octets, and the messages that these are
  pub record IsRateOf (kind : Kind) (room : Room) (octets : List ℕ) (rate : Rate) : Type 0 where
    pub messages : List (Message H)
    pub are : AreReadThen kind room messages octets []
    pub count_is : rate.count ≡ length messages
    pub octets_is : rate.octets ≡ length octets
