use Rattle.hc_store.proofs.LawLemmas.{trimmed_all, trimmed_light}
use Rattle.hc_store.proofs.laws.trimming_keeps_what_fits.Goals as goal

pub returns-clause-all : goal.returns-clause-all
returns-clause-all c = trimmed_all

pub returns-clause-light : goal.returns-clause-light
returns-clause-light c = trimmed_light
