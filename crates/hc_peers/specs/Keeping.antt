-- What the calls of links keep of what those tell.
use Rattle.std.specs.Prelude.{ℕ, Bool, List, Option, Result}
use Rattle.std.specs.declared.alloc.AllocError.{AllocError}
use Rattle.hc_order.specs.Log.{Move}
use Rattle.hc_links.specs.declared.happened.Happened.{Happened}
use Rattle.hc_links.specs.Telling.{TellsIfOk}
use Rattle.hc_peers.specs.declared.peers.Peers.{Peers}
use Rattle.hc_peers.specs.Heard.{HeardInTurn, MayBeHeard}
use Rattle.hc_peers.specs.Peers.{ArePeers, Bounds}
use Rattle.hc_peers.specs.Peers.Bounds.{AtMost}
use Rattle.hc_peers.specs.Shown.{ShowNoMore}

module _ {S : Type 0} (has_given has_got : S → List ℕ → Type 0) where
  -- what was told of the links is told still, whatever bounds their number, and nothing was written to a client
  pub record KeepsPeers (before after : Peers S) : Type 0 where
    pub tells : (bounds : Bounds) (log : List Move) → ArePeers has_given has_got bounds before log → ArePeers has_given has_got bounds after log
    pub shown : (log : List Move) → ShowNoMore has_got before log → ShowNoMore has_got after log

  -- the same, where there may be so many clients
  pub record KeepsWithin (most : ℕ) (before after : Peers S) : Type 0 where
    pub tells : (origin : ℕ) (log : List Move) → ArePeers has_given has_got (AtMost most origin) before log → ArePeers has_given has_got (AtMost most origin) after log
    pub shown : (log : List Move) → ShowNoMore has_got before log → ShowNoMore has_got after log

  -- what is heard is told behind what was told, may happen by it, and has waited for its turn; nothing was written to a client
  pub record Hears (awaited : ℕ → Bool → Type 0) (result : Result (Option Happened) AllocError) (before after : Peers S) : Type 0 where
    pub tells : (bounds : Bounds) (log : List Move) → ArePeers has_given has_got bounds before log → TellsIfOk (ArePeers has_given has_got bounds after) result log
    pub may : (most : ℕ) (bounds : Bounds) (log : List Move) → ArePeers has_given has_got bounds before log → MayBeHeard most result log
    pub in_turn : HeardInTurn awaited result
    pub shown : (log : List Move) → ShowNoMore has_got before log → ShowNoMore has_got after log

  -- the same, where there may be so many clients
  pub record HearsWithin (most : ℕ) (awaited : ℕ → Bool → Type 0) (result : Result (Option Happened) AllocError) (before after : Peers S) : Type 0 where
    pub tells : (origin : ℕ) (log : List Move) → ArePeers has_given has_got (AtMost most origin) before log
        → TellsIfOk (ArePeers has_given has_got (AtMost most origin) after) result log
    pub may : (origin : ℕ) (log : List Move) → ArePeers has_given has_got (AtMost most origin) before log → MayBeHeard most result log
    pub in_turn : HeardInTurn awaited result
    pub shown : (log : List Move) → ShowNoMore has_got before log → ShowNoMore has_got after log
