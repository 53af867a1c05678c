-- Why what arrives on a forward's connection is no response.
use mathlib.Core.Logic.{inl, inr}
use Rattle.std.specs.Prelude.{◌≡◌, ◌⊎◌, ℕ, Bool, List}
use Rattle.hc_incoming.specs.declared.troubles.Trouble.{Trouble}
use Rattle.hc_incoming.specs.declared.troubles.Trouble.TheVariants.{SwitchesProtocol, TooManyInterim}
use Rattle.hc_incoming.specs.Responses.{HasTooMany, IsFailure, IsFailureAtEnd, IsFaulty, Switches}
use Rattle.hc_incoming.specs.Troubles.{trouble_of}

module _ (to_head : Bool) where
  -- what is told is how it fails
  abbrev pub IsToldOf : (rest : List ℕ) (count : ℕ) → Trouble → IsFaulty to_head rest ⊎ Switches to_head rest ⊎ HasTooMany to_head rest count → Type 0
  IsToldOf rest count trouble (inl faulty) = trouble ≡ trouble_of faulty.fault
  IsToldOf rest count trouble (inr (inl switches)) = trouble ≡ SwitchesProtocol
  IsToldOf rest count trouble (inr (inr many)) = trouble ≡ TooManyInterim

  -- the forward has failed for that, whatever follows the octets
  pub record IsFailureFor (octets : List ℕ) (trouble : Trouble) : Type 0 where
    pub failure : IsFailure to_head octets
    pub told : IsToldOf failure.rest failure.count trouble failure.fails

  -- the octets that have ended are no response for that
  pub record IsFailureAtEndFor (octets : List ℕ) (trouble : Trouble) : Type 0 where
    pub failure : IsFailureAtEnd to_head octets
    pub told : trouble ≡ trouble_of failure.fault
