use Rattle.std.proofs.Common.{rules}
use Rattle.hc_head.specs.declared.head.TheConstants.Room.{RECEIVED}
use Rattle.hc_framing.specs.declared.kind.Kind.TheVariants.{Response}
use Rattle.hc_incoming.proofs.ResponseLemmas.{fails, goes_on, has_ended, takes_those}
use Rattle.hc_framing.specs.FramingLaws.{response_laws}
use Rattle.hc_framing.specs.Messages.{response_form}
use Rattle.hc_incoming.proofs.BeginningLemmas.{takes_of_piece}
use Rattle.hc_incoming.proofs.responses.ResponseReader.read.Goals as goal

pub returns-in_ok-unless_memory-in-Err-clause-gives : goal.returns-in_ok-unless_memory-in-Err-clause-gives
returns-in_ok-unless_memory-in-Err-clause-gives c = λ to_head octets a.
    fails to_head c.args.self.now octets c.args.piece.now c.in-Err.fault c.in_ok-unless_memory-in-Err.field-0 c.trouble_of.result a c.in_ok-unless_memory-in-Err.ensures.1 c.in_ok-unless_memory-in-Err.ensures.0 c.trouble_of.ensures (c.in-Err.ensures.gives (Response to_head) RECEIVED a.rest a.reads)

pub returns-in-Ok-More-clause-gives : goal.returns-in-Ok-More-clause-gives
returns-in-Ok-More-clause-gives c = λ to_head octets a.
    goes_on to_head c.args.self.now c.feed.new.self c.saturating_add-self.result octets c.args.piece.now a (search rules) (rw c.in-Ok-More.field-0-is at (c.in-Ok-More.ensures.gives (Response to_head) RECEIVED a.rest a.reads))

pub returns-in-Ok-Whole-clause-gives : goal.returns-in-Ok-Whole-clause-gives
returns-in-Ok-Whole-clause-gives c = λ to_head octets a.
    c.sort.ensures.gives to_head octets c.args.piece.now
    (has_ended to_head c.args.self.now c.feed.new.self octets c.args.piece.now c.in-Ok-Whole.used a (rw c.in-Ok-Whole.field-0-is at (c.in-Ok-Whole.ensures.gives (Response to_head) RECEIVED a.rest a.reads)))

pub returns-in-Ok-Whole-clause-some : goal.returns-in-Ok-Whole-clause-some
returns-in-Ok-Whole-clause-some c =
    takes_those c.sort.result c.in-Ok-Whole.used c.args.piece.now
    (takes_of_piece response_form response_laws c.args.self.now.reader c.feed.new.self c.args.piece.now c.in-Ok-Whole.used c.requires
    (λ kind room octets agrees. rw c.in-Ok-Whole.field-0-is at (c.in-Ok-Whole.ensures.gives kind room octets agrees)) (λ failed. rw c.in-Ok-Whole.field-0-is at (c.in-Ok-Whole.ensures.failed failed))) c.sort.ensures.taken
