use Rattle.std.proofs.Common.{◌≡◌, ◌++◌, take, drop, map}
use Rattle.hc_index.specs.Lists.{forward_seen, targeted, targeted_answered}
use Rattle.hc_index.proofs.lives.answer_lives.Given as goal

-- those up to the index are answered
abbrev pub invariant-loop-live : goal.invariant-loop-live
invariant-loop-live l =
    map targeted l.live-items
    ≡ map (targeted_answered (forward_seen l.forward) l.position l.moment l.response) (take l.live-index (map targeted l.initial.live-items))
    ++ drop l.live-index (map targeted l.initial.live-items)
