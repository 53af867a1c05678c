-- Laws of what a crowd tells.
use Rattle.std.specs.Prelude.{ℕ, ◌≤◌, List, ◌∷◌}
use Rattle.std.proofs.Common.{arith}
use Rattle.hc_transcript.specs.Limits.{greatest_moment}
use Rattle.hc_order.specs.declared.occurrence.Occurrence.{Occurrence}
use Rattle.hc_order.specs.Log.{Move}
use Rattle.hc_order.specs.Log.Move.{Heard}
use Rattle.hc_links.specs.Batches.{NothingIsOpen}
use Rattle.hc_agenda.specs.declared.moments.Moments.{Moments}
use Rattle.hc_agenda.proofs.MomentsLemmas.{in_time}
use Rattle.hc_peers.specs.declared.peers.Peers.{Peers}
use Rattle.hc_peers.specs.Peers.{HasFewLinks, NoLinkIsLeft}
use Rattle.hc_peers.proofs.PeerLemmas as of_peers
use Rattle.hc_crowd.specs.declared.limits.Limits.{Limits}
use Rattle.hc_crowd.specs.Crowds.{CrowdTells, bounds_of}

module _ {S : Type 0} (has_given has_got : S → List ℕ → Type 0) (limits : Limits) (peers : Peers S) (clock : Moments) where
  -- each moment can be told by a transcript
  pub told_in_time : (occurrence : Occurrence) (log : List Move) → CrowdTells has_given has_got limits peers clock (Heard occurrence ∷ log) → occurrence.event.moment ≤ greatest_moment
  told_in_time occurrence log told = omega (arith, told.1.0, in_time clock)

  -- where no link is left nothing is open
  pub none_is_open : (log : List Move) → NoLinkIsLeft peers → CrowdTells has_given has_got limits peers clock log → NothingIsOpen log
  none_is_open log none told = of_peers.none_is_open has_given has_got (bounds_of limits) peers log none told.0

  -- links are few
  pub links_are_few : (log : List Move) → CrowdTells has_given has_got limits peers clock log → HasFewLinks (bounds_of limits) peers
  links_are_few log told = told.0.few
