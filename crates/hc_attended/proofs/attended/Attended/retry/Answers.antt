use Rattle.hc_attended.proofs.KeepingLemmas.{keeps_then}
use Rattle.hc_attended.proofs.StepLemmas.{retried_attended}
use Rattle.hc_attended.proofs.attended.Attended.retry.Goals as goal

pub invariant_of-self : goal.invariant_of-self
invariant_of-self g c =
    let s = c.args.self.now in
    let begun = c.begin_turn in
    let linked = c.link_or_lose in
    record {
      noted = retried_attended s.times s.time.tick c.args.forward c.retry.result s.peers begun.new.peers c.retry.new.self linked.new.peers s.agenda begun.new.agenda linked.new.agenda c.requires.apart c.requires.may
          begun.ensures.turns begun.ensures.only begun.ensures.notes c.retry.ensures.can c.retry.ensures.waits c.retry.ensures.only c.retry.ensures.behind linked.ensures.only linked.ensures.notes linked.ensures.seen
          linked.ensures.timed s.noted;
    }

pub returns-clause-kept : goal.returns-clause-kept
returns-clause-kept g c = keeps_then c.begin_turn.ensures.kept (keeps_then c.retry.ensures.kept (c.link_or_lose.ensures.kept c.connect-stream.ensures))
