use Rattle.std.proofs.Common.{string_bytes}
use Rattle.std.proofs.lemmas.Result.{IfOk-weaker}
use Rattle.hc_report.proofs.JsonLemmas.{few_levels, writes_report}
use Rattle.hc_report.proofs.report.Report.json.Goals as goal

pub returns : goal.returns
returns c =
    let report = c.args.self.now in
    let is = c.put_all.ensures c.new-object.ensures.has in
    let few = few_levels report.replies report.wrongs c.args.ending c.args.counts is.0 is.2 in
    IfOk-weaker c.into_text.result _ _ (λ text reads. writes_report report.replies report.wrongs c.args.ending c.args.counts (string_bytes text) is.0 is.2 reads) (c.into_text.ensures is.0 is.1 few)
