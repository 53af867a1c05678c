use Rattle.std.proofs.Common.{Ok, ◌∙◌}
use Rattle.std.specs.Global.{Global}
use Rattle.std.specs.declared.alloc.AllocError.{AllocError}
use Rattle.std.proofs.lemmas.Iterator.{items_from_collect}
use Rattle.std.proofs.lemmas.Iterator.Consumers.{YieldsList-from_copied, YieldsList-from_rest}
use Rattle.hc_open.proofs.WaitLemmas.{waiting_are}
use Rattle.hc_open.proofs.open_exchanges.OpenExchanges.waiting_for.Goals as goal

pub returns-in-None : goal.returns-in-None
returns-in-None c = λ exchanges are. c.new.ensures.items ∙ c.in-None.ensures ∙ waiting_are c.args.self.now.waiting.sets exchanges c.args.forward are.waiting

pub returns-in_ok-collect-in-Some : goal.returns-in_ok-collect-in-Some
returns-in_ok-collect-in-Some c = λ exchanges are.
    items_from_collect {Z = Global} {E = AllocError} {s = c.copied.result} {all = c.in-Some.numbers.now.keys} (Ok c.in_ok-collect-in-Some.field-0) c.in_ok-collect-in-Some.ensures.ran (YieldsList-from_copied (YieldsList-from_rest _ cc))
    ∙ c.in-Some.ensures ∙ waiting_are c.args.self.now.waiting.sets exchanges c.args.forward are.waiting
