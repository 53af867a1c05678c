use Rattle.hc_incoming.proofs.RequestLemmas.{goes_on, goes_on_and_failed}
use Rattle.hc_incoming.proofs.requests.RequestReader.go_on.Goals as goal

pub returns-in-None-clause-gives : goal.returns-in-None-clause-gives
returns-in-None-clause-gives c = λ octets on.
    goes_on (record c.args.self.now { waits = c.clear.new.self }) c.test.new.self octets (record { reads = on.reads; may_pass = on.may_pass; counted = on.counted }) c.clear.ensures (rw c.in-None.is at c.in_ok-trouble.ensures)

pub returns-in-Some-clause-gives : goal.returns-in-Some-clause-gives
returns-in-Some-clause-gives c = λ octets on.
    goes_on_and_failed (record c.args.self.now { waits = c.clear.new.self }) c.test.new.self octets c.in-Some.trouble (record { reads = on.reads; may_pass = on.may_pass; counted = on.counted }) (rw c.in-Some.is at c.in_ok-trouble.ensures)
