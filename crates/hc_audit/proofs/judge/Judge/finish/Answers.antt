use Rattle.hc_audit.proofs.JudgeLemmas.{end_is, whole_is_right}
use Rattle.hc_audit.proofs.judge.Judge.finish.Goals as goal

pub returns-in-Ok : goal.returns-in-Ok
returns-in-Ok g c = λ settings octets w.
    let j = w.judging in
    whole_is_right c.args.self.reader octets settings j.read.records j.history c.args.self.counts j.read.reads
    (c.in-Ok.ensures.ok octets j.read.records j.history j.read.reads) j.right j.read.counts

pub returns : goal.returns
returns g c = λ settings octets w.
    let j = w.judging in
    end_is c.args.self.reader octets settings j.read.records j.history c.in-Err.fault c.position-position.result j.read.reads j.right w.waits
    c.in-Err.ensures.err.1 (c.in-Err.ensures.torn octets j.read.records j.history j.read.reads) c.position-position.ensures
