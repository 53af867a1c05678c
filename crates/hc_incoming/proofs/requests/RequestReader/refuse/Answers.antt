use Rattle.hc_incoming.proofs.RequestLemmas.{met_and_failed, met_and_passed}
use Rattle.hc_incoming.proofs.requests.RequestReader.refuse.Goals as goal

pub returns-in-None-clause-gives : goal.returns-in-None-clause-gives
returns-in-None-clause-gives c = λ octets met.
    met_and_passed c.args.self.now c.test.new.self c.args.fault c.in_ok-fault.fault octets c.trouble_of.result c.in_ok-fault.ensures.1 c.in_ok-fault.ensures.0 c.trouble_of.ensures met (rw c.in-None.is at c.in_ok-trouble.ensures)

pub returns-in-Some-clause-gives : goal.returns-in-Some-clause-gives
returns-in-Some-clause-gives c = λ octets met.
    met_and_failed c.args.self.now c.test.new.self c.args.fault octets c.in-Some.trouble c.in_ok-fault.ensures.1 met (rw c.in-Some.is at c.in_ok-trouble.ensures)
