-- How much is held of what came, and of what was sent.
use Rattle.std.specs.Prelude.{◌≡◌, ◌⊎◌, ◌+◌, ◌-◌, ◌^◌, ℕ, List, length, min, Option, Some, None, Result, Ok, Err}
use Rattle.std.specs.declared.alloc.AllocError.{AllocError}
use Rattle.hc_agenda.specs.declared.holding.Holding.{Holding}
use Rattle.hc_agenda.specs.Loads.{most_held}
use Rattle.hc_service.specs.declared.event.Happening.{Happening}
use Rattle.hc_service.specs.declared.event.Happening.TheVariants.{ClientBytes, OriginBytes}
use Rattle.hc_links.specs.declared.happened.Happened.{Happened}
use Rattle.hc_order.specs.declared.receiver.Receiver.{Receiver}
use Rattle.hc_peers.specs.declared.peers.Peers.{Peers}
use Rattle.hc_peers.specs.Keeping.{KeepsWithin}
use Rattle.hc_crowd.specs.Lightening.{IsBounded}

-- so many octets more are held, as far as that can be counted
abbrev pub grown_by : ℕ → Holding → Holding
grown_by octets holding = record holding { grown = min (holding.grown + octets) (2 ^ 64 - 1) }

-- how many octets came by what happened
abbrev pub octets_of : Happening → ℕ
octets_of (ClientBytes n octets) = length octets
octets_of (OriginBytes f octets) = length octets
octets_of other = 0

-- the octets that came by what happens are held besides
abbrev pub GrowsBy : Option Happened → Holding → Holding → Type 0
GrowsBy None before after = after ≡ before
GrowsBy (Some happened) before after = after ≡ grown_by (octets_of happened.of) before

module _ {S : Type 0} (has_given has_got : S → List ℕ → Type 0) (most : ℕ) (holds : Receiver → ℕ → Type 0) (limit : ℕ) where
  -- of these links, which tell what was told before, each was weighed, and so much is left of what they hold
  pub record IsWeighed (held : ℕ) (before : Peers S) : Type 0 where
    pub weighed : Peers S
    pub lightened : Peers S
    pub told : KeepsWithin has_given has_got most before weighed
    pub bounded : IsBounded holds limit held weighed lightened

  -- what is held is as before, or is what was left where each link was weighed
  abbrev pub HoldsAsWeighed : Peers S → Holding → Holding → Type 0
  HoldsAsWeighed peers before after = (after ≡ before) ⊎ IsWeighed (most_held after) peers

  -- and then the octets are held, too, that came by what happens next; where memory is refused, no more are than was weighed
  abbrev pub HoldsWhatCame : Peers S → Result (Option Happened) AllocError → Holding → Holding → Type 0
  HoldsWhatCame peers (Ok happened) before after = (between : Holding) × HoldsAsWeighed peers before between × GrowsBy happened between after
  HoldsWhatCame peers (Err refused) before after = HoldsAsWeighed peers before after
