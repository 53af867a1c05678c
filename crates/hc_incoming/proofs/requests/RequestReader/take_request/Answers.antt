use Rattle.std.proofs.Common.{[], rules, sym, ap, subst, ◌∙◌}
use Rattle.hc_head.specs.declared.head.RequestHead.{RequestHead}
use Rattle.hc_head.specs.declared.head.TheConstants.Room.{RECEIVED}
use Rattle.hc_framing.specs.declared.kind.Kind.TheVariants.{Request}
use Rattle.hc_framing.specs.declared.reader.MessageReader.{MessageReader}
use Rattle.hc_framing.specs.Messages.{request_form}
use Rattle.hc_framing.specs.Reader as framing
use Rattle.hc_incoming.proofs.RequestLemmas.{takes, ends_and_failed}
use Rattle.hc_incoming.proofs.requests.RequestReader.take_request.Goals as goal

pub returns-in-None-clause-gives : goal.returns-in-None-clause-gives
returns-in-None-clause-gives c = λ octets ends.
    takes c.args.self.now c.test.new.self (record c.test.new.self { reader = c.replace-reader.new.dest; target = c.take.new.self; waits = c.skip.new.self; heard = c.unread-self.result })
    c.args.used octets c.replace-reader.result c.take-in-None.result c.unwrap-target.result ends (rw c.in-None.is at c.in_ok-trouble.ensures)
    c.replace-reader.ensures.value (sym c.take.ensures.value ∙ c.unwrap-target.ensures) c.take-in-None.ensures
    (subst (λ (m : MessageReader RequestHead). framing.Agrees request_form Request RECEIVED m []) (sym c.replace-reader.ensures.after) c.new-next.ensures.agrees)
    (ap (λ (m : MessageReader RequestHead). m.head) c.replace-reader.ensures.after ∙ c.new-next.ensures.head)
    c.take.ensures.after c.skip.ensures c.unread-self.ensures (search rules)

pub returns-in-Some-clause-gives : goal.returns-in-Some-clause-gives
returns-in-Some-clause-gives c = λ octets ends.
    ends_and_failed c.args.self.now c.test.new.self c.args.used octets c.in-Some.trouble ends (rw c.in-Some.is at c.in_ok-trouble.ensures)
