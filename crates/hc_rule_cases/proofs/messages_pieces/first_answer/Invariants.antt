use Rattle.hc_framing.specs.Messages.{request_form}
use Rattle.hc_framing.specs.Reader.{CanFeed}
use Rattle.hc_rule_cases.proofs.messages_pieces.first_answer.Given as goal

-- the reader can be fed
abbrev pub invariant-octets : goal.invariant-octets
invariant-octets l = CanFeed request_form l.reader
