use Rattle.std.proofs.Common.{◌∙◌}
use Rattle.hc_open.proofs.WaitLemmas.{on_ok, one_put, one_put_alone}
use Rattle.hc_open.proofs.open_exchanges.OpenExchanges.note.Goals as goal

pub returns-in-None-clause-waiting : goal.returns-in-None-clause-waiting
returns-in-None-clause-waiting c = λ exchanges x are absent same.
    one_put_alone c.args.self.now.waiting.sets exchanges c.args.number x are absent (same ∙ c.in-None.is)

pub returns-in-Some-clause-waiting : goal.returns-in-Some-clause-waiting
returns-in-Some-clause-waiting c = λ exchanges x are absent same.
    on_ok c.add.result
    (one_put c.args.self.now.waiting.sets exchanges c.args.number x are c.add.new.self.sets c.in-Some.forward absent (same ∙ c.in-Some.is)) c.add.ensures
