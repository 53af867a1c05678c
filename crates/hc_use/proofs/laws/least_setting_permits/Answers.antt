use Rattle.hc_use.proofs.SettingLemmas.{by_grace, by_lifetime}
use Rattle.hc_use.proofs.laws.least_setting_permits.Goals as goal

pub returns-clause-grace : goal.returns-clause-grace
returns-clause-grace c = λ claim state least seconds unused told. by_grace claim state unused least seconds told

pub returns-clause-lifetime : goal.returns-clause-lifetime
returns-clause-lifetime c = λ claim state least seconds unused told. by_lifetime claim state unused least seconds told
