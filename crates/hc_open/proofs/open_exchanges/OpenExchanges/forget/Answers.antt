use Rattle.std.proofs.Common.{◌∙◌}
use Rattle.hc_open.proofs.WaitLemmas.{one_gone, one_gone_alone}
use Rattle.hc_open.proofs.open_exchanges.OpenExchanges.forget.Goals as goal

pub returns-in-None-clause-waiting : goal.returns-in-None-clause-waiting
returns-in-None-clause-waiting c = λ exchanges x are there same.
    one_gone_alone c.args.self.now.waiting.sets exchanges c.args.number x are there (same ∙ c.in-None.is)

pub returns-in-Some-clause-waiting : goal.returns-in-Some-clause-waiting
returns-in-Some-clause-waiting c = λ exchanges x are there same.
    one_gone c.args.self.now.waiting.sets exchanges c.args.number x are c.remove.new.self.sets c.in-Some.forward there (same ∙ c.in-Some.is) c.remove.ensures
