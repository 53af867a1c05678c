use Rattle.hc_incoming.proofs.ResponseLemmas.{ends_with, fails_at_end}
use Rattle.hc_incoming.proofs.responses.ResponseReader.end.Goals as goal

pub returns-in-Ok : goal.returns-in-Ok
returns-in-Ok c = record { gives = λ to_head octets a. ends_with to_head c.args.self.now c.end.new.self octets c.in-Ok.field-0 c.take_message.result a c.in-Ok.ensures.gives c.take_message.ensures.taken }

pub returns-in_ok-unless_memory-in-Err : goal.returns-in_ok-unless_memory-in-Err
returns-in_ok-unless_memory-in-Err c = record { gives = λ to_head octets a. fails_at_end to_head c.args.self.now c.end.new.self octets c.in-Err.fault c.in_ok-unless_memory-in-Err.field-0 c.trouble_of.result a c.in_ok-unless_memory-in-Err.ensures.1 c.in_ok-unless_memory-in-Err.ensures.0 c.trouble_of.ensures c.in-Err.ensures.gives }
