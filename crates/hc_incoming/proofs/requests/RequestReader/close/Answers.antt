use Rattle.hc_incoming.proofs.RequestLemmas.{given_up, ended_by}
use Rattle.hc_incoming.proofs.requests.RequestReader.close.Goals as goal

pub returns-in-Ok : goal.returns-in-Ok
returns-in-Ok c = record { gives = λ octets unfinished read. given_up c.args.self.now c.end.new.self octets c.in-Ok.field-0 unfinished read c.in-Ok.ensures.gives }

pub returns-in_ok-unless_memory-in-Err : goal.returns-in_ok-unless_memory-in-Err
returns-in_ok-unless_memory-in-Err c = record {
  gives = λ octets unfinished read.
      ended_by c.args.self.now c.end.new.self octets c.in-Err.fault c.in_ok-unless_memory-in-Err.field-0 c.last_trouble.result c.in_ok-unless_memory-in-Err.ensures.0 c.in_ok-unless_memory-in-Err.ensures.1 c.last_trouble.ensures
      unfinished read c.in-Err.ensures.gives;
}
