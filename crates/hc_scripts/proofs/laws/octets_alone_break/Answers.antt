use Rattle.hc_scripts.proofs.ScriptOnceLemmas.{no_memory, no_settings}
use Rattle.hc_scripts.proofs.laws.octets_alone_break.Goals as goal

pub returns : goal.returns
returns c = record { memory = no_memory; settings = no_settings }
