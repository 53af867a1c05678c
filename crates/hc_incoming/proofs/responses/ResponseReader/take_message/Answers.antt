use Rattle.std.proofs.Common.{sym, subst}
use Rattle.hc_head.specs.declared.head.ResponseHead.{ResponseHead}
use Rattle.hc_framing.specs.declared.reader.MessageReader.{MessageReader}
use Rattle.hc_framing.specs.Reader.{Holds}
use Rattle.hc_incoming.proofs.responses.ResponseReader.take_message.Goals as goal

pub returns-clause-taken : goal.returns-clause-taken
returns-clause-taken c = λ message holds. c.take.ensures message (subst (λ (m : MessageReader ResponseHead). Holds m message) (sym c.replace.ensures.value) holds)
