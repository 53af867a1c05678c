use Rattle.hc_rules.proofs.PassingLemmas.{passed_response}
use Rattle.hc_rules.proofs.passing.passed_response_is_writable.Goals as goal

pub returns : goal.returns
returns c = passed_response
