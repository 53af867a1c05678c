use Rattle.std.proofs.Common.{◌≡◌, ◌++◌, take, drop, map}
use Rattle.hc_index.specs.Lists.{forward_seen, watched, watched_answered}
use Rattle.hc_index.proofs.exchanges.add_to_windows.Given as goal

-- the windows of those up to the index are answered
abbrev pub invariant-loop-exchange : goal.invariant-loop-exchange
invariant-loop-exchange l =
    map watched l.exchange-items
    ≡ map (watched_answered (forward_seen l.forward) l.cause l.response) (take l.exchange-index (map watched l.initial.exchange-items))
    ++ drop l.exchange-index (map watched l.initial.exchange-items)
