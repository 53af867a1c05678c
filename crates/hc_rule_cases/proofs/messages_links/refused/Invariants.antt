use Rattle.std.proofs.Common.{length}
use Rattle.hc_incoming.specs.RequestReading.{CanRead, unread}
use Rattle.hc_rule_cases.proofs.messages_links.refused.Given as goal

-- the reader can read on
abbrev pub invariant-requests : goal.invariant-requests
invariant-requests l = CanRead l.reader

abbrev pub decreases-requests : goal.decreases-requests
decreases-requests l = length (unread l.reader)
