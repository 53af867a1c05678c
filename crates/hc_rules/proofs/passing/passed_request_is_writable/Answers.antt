use Rattle.hc_rules.proofs.PassingLemmas.{passed_request}
use Rattle.hc_rules.proofs.passing.passed_request_is_writable.Goals as goal

pub returns : goal.returns
returns c = passed_request
