-- What arrives on a forward's connection to the origin: interim responses, and then a final one or a failure (RFC 9110 section 15.2, RFC 9112).
use Rattle.std.specs.Prelude.{◌≡◌, ◌≢◌, ℕ, ◌≤◌, ◌⊎◌, Bool, true, zero, suc, List, drop}
use Rattle.hc_head.specs.declared.head.ResponseHead.{ResponseHead}
use Rattle.hc_head.specs.declared.head.TheConstants.Room.{RECEIVED}
use Rattle.hc_head.specs.Statuses.{is_interim}
use Rattle.hc_framing.specs.declared.fault.FrameFault.{FrameFault}
use Rattle.hc_framing.specs.declared.fault.FrameFault.TheVariants as faults
use Rattle.hc_framing.specs.declared.kind.Kind.TheVariants.{Response}
use Rattle.hc_framing.specs.declared.message.Message.{Message}
use Rattle.hc_framing.specs.Faults.{StandsIn, StandsAtEnd, IsWholeResponse}
use Rattle.hc_framing.specs.Messages.{response_form}
use Rattle.hc_framing.specs.Reader.{BeginsIn, IsInTime}

-- an origin sends at most so many interim responses before the final one
abbrev pub most_interim : ℕ
most_interim = 16

-- it changes to another protocol, which is never asked for here (RFC 9110 section 15.2.2)
abbrev pub switching_protocols : ℕ
switching_protocols = 101

module _ (to_head : Bool) where
  -- a whole response begins the octets, to HEAD or another method, and takes so many of them; an interim one ends with its head
  abbrev pub Begins : List ℕ → Message ResponseHead → ℕ → Type 0
  Begins octets message len = BeginsIn response_form (Response to_head) octets RECEIVED message len

  -- an interim response begins the octets, which doesn't change the protocol
  pub record BeginsInterim (octets : List ℕ) (len : ℕ) : Type 0 where
    pub message : Message ResponseHead
    pub begins : Begins octets message len
    pub interim : is_interim message.head.status ≡ true
    pub no_switch : message.head.status ≢ switching_protocols

  -- so many interim responses begin the octets, and then comes the rest
  abbrev pub AreInterimThen : ℕ → List ℕ → List ℕ → Type 0
  AreInterimThen zero octets rest = octets ≡ rest
  AreInterimThen (suc count) octets rest = (len : ℕ) × BeginsInterim octets len × AreInterimThen count (drop len octets) rest

  -- behind no more interim responses than may come, these octets are left
  pub record Leaves (octets : List ℕ) (count : ℕ) (rest : List ℕ) : Type 0 where
    pub are : AreInterimThen count octets rest
    pub few : count ≤ most_interim

  -- ---- while the origin sends

  -- the octets are the response, whatever follows them
  pub record IsResponse (octets : List ℕ) (message : Message ResponseHead) : Type 0 where
    pub count : ℕ
    pub rest : List ℕ
    pub leaves : Leaves octets count rest
    pub len : ℕ
    pub begins : Begins rest message len
    pub final : 200 ≤ message.head.status

  -- a fault stands in a response
  pub record IsFaulty (octets : List ℕ) : Type 0 where
    pub fault : FrameFault
    pub not_memory : fault ≢ faults.Memory
    pub stands : StandsIn response_form (Response to_head) fault octets RECEIVED

  -- a response changes the protocol
  pub record Switches (octets : List ℕ) : Type 0 where
    pub message : Message ResponseHead
    pub len : ℕ
    pub begins : Begins octets message len
    pub switches : message.head.status ≡ switching_protocols

  -- one interim response more has come than may
  pub record HasTooMany (octets : List ℕ) (count : ℕ) : Type 0 where
    pub len : ℕ
    pub begins : BeginsInterim octets len
    pub too_many : count ≡ most_interim

  -- the forward has failed, whatever follows the octets
  pub record IsFailure (octets : List ℕ) : Type 0 where
    pub count : ℕ
    pub rest : List ℕ
    pub leaves : Leaves octets count rest
    pub fails : IsFaulty rest ⊎ Switches rest ⊎ HasTooMany rest count

  -- nothing yet: a head may still come, or a body is so far within the syntax, line by line
  pub record IsUnfinished (octets : List ℕ) : Type 0 where
    pub count : ℕ
    pub rest : List ℕ
    pub leaves : Leaves octets count rest
    pub in_time : IsInTime response_form (Response to_head) RECEIVED rest

  -- ---- the origin's end

  -- the octets that have ended are the response, which may last until the close (RFC 9112 section 6.3)
  pub record IsResponseAtEnd (octets : List ℕ) (message : Message ResponseHead) : Type 0 where
    pub count : ℕ
    pub rest : List ℕ
    pub leaves : Leaves octets count rest
    pub is_whole : IsWholeResponse to_head rest RECEIVED message
    pub final : 200 ≤ message.head.status

  -- the octets that have ended are no response: they are cut off, or broken
  pub record IsFailureAtEnd (octets : List ℕ) : Type 0 where
    pub count : ℕ
    pub rest : List ℕ
    pub leaves : Leaves octets count rest
    pub fault : FrameFault
    pub not_memory : fault ≢ faults.Memory
    pub stands : StandsAtEnd response_form (Response to_head) fault rest RECEIVED
