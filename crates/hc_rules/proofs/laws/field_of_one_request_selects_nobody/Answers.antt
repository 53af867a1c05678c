use Rattle.hc_rules.proofs.SelectLemmas.{unmet_selects_nobody, lacking_is_unmet}
use Rattle.hc_rules.proofs.laws.field_of_one_request_selects_nobody.Goals as goal

pub returns : goal.returns
returns c = λ fields forwarded presented member listed has lacks. unmet_selects_nobody fields forwarded presented member listed (lacking_is_unmet forwarded presented member has lacks)
