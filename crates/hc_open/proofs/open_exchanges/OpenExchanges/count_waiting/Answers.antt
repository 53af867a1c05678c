use Rattle.std.proofs.Common.{ap, ◌∙◌, length}
use Rattle.hc_open.proofs.WaitLemmas.{waiting_are}
use Rattle.hc_open.proofs.open_exchanges.OpenExchanges.count_waiting.Goals as goal

pub returns-in-None : goal.returns-in-None
returns-in-None c = λ exchanges are. ap length (c.in-None.ensures ∙ waiting_are c.args.self.now.waiting.sets exchanges c.args.forward are.waiting)

pub returns-in-Some : goal.returns-in-Some
returns-in-Some c = λ exchanges are.
    c.len.ensures.len ∙ ap length (c.in-Some.ensures ∙ waiting_are c.args.self.now.waiting.sets exchanges c.args.forward are.waiting)
