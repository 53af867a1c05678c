use Rattle.hc_incoming.specs.ResponseReading.{CanRead}
use Rattle.hc_rule_cases.proofs.messages_links.read_response.Given as goal

-- the reader can read on
abbrev pub invariant-pieces : goal.invariant-pieces
invariant-pieces l = CanRead l.reader
