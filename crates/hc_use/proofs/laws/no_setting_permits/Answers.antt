use Rattle.hc_use.proofs.SettingLemmas.{by_none}
use Rattle.hc_use.proofs.laws.no_setting_permits.Goals as goal

pub returns : goal.returns
returns c = λ claim state default_lifetime grace unused none. by_none claim state unused default_lifetime grace none
