-- What a request gets at once, as the definitions have it.
use Rattle.std.specs.Prelude.{◌≡◌, ◌&&◌, None}
use Rattle.std.specs.FinMap.{values}
use Rattle.std.specs.List.{list_any, count_by}
use Rattle.hc_head.specs.declared.head.Target.{Target}
use Rattle.hc_head.specs.Targets.{same_target}
use Rattle.hc_service.specs.Reactions.{Reaction as OwedReaction, is_background}
use Rattle.hc_service.specs.Reactions.Reaction.{Replies as OwesReply, Sends as OwesForward, Waits as OwesToWait}
use Rattle.hc_service.specs.Joining.{IsLeast}
use Rattle.hc_service.specs.State.{Awaited, OpenNow, Table}
use Rattle.hc_reactions.specs.declared.reacting.OpenBehind.{OpenBehind}
use Rattle.hc_reactions.specs.declared.reacting.Reaction.{Reaction}
use Rattle.hc_reactions.specs.declared.reacting.Underway.{Underway}
use Rattle.hc_reactions.specs.declared.reacting.Reaction.TheVariants.{Replies, Declines, Sends, Waits}

abbrev pub owed_reaction : Reaction → OwedReaction
owed_reaction (Replies reply behind) = OwesReply reply behind
owed_reaction (Declines reply) = OwesReply reply None
owed_reaction (Sends request cause kind) = OwesForward request cause kind
owed_reaction (Waits forward) = OwesToWait forward

-- these are the forwards for the store alone that are open, as far as a reaction asks
pub record IsOpenBehind (target : Target) (forwards : Table Awaited) (open_behind : OpenBehind) : Type 0 where
  pub count_is : open_behind.count ≡ count_by is_background (values forwards)
  pub for_target_is : open_behind.for_target ≡ list_any (λ awaited. is_background awaited && same_target awaited.forward.target target) (values forwards)

-- that is what is open, as far as a request for the target asks
pub record IsUnderway (target : Target) (open_now : OpenNow) (underway : Underway) : Type 0 where
  pub behind : IsOpenBehind target open_now.forwards underway.behind
  pub least_joinable : IsLeast target open_now underway.least_joinable
