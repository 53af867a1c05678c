use Rattle.hc_audit.proofs.SurveyLemmas.{end_is, whole_of}
use Rattle.hc_audit.proofs.judge.Judge.end.Goals as goal

pub returns-in-Ok : goal.returns-in-Ok
returns-in-Ok g c = λ settings octets h wrongs w.
    let s = w.surveying in
    whole_of c.args.self.reader octets settings s.read.records h wrongs s.read.reads (c.in-Ok.ensures.ok octets s.read.records h s.read.reads) s.wrong

pub returns : goal.returns
returns g c = λ settings octets h wrongs w.
    let s = w.surveying in
    end_is c.args.self.reader octets settings s.read.records h c.in-Err.fault c.position-position.result wrongs s.read.reads s.wrong w.waits
    c.in-Err.ensures.err.1 (c.in-Err.ensures.torn octets s.read.records h s.read.reads) c.position-position.ensures
