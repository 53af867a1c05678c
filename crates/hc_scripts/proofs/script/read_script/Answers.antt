use Rattle.hc_scripts.proofs.ScriptOnceLemmas.{found, refused}
use Rattle.hc_scripts.proofs.script.read_script.Goals as goal

pub returns-clause-found : goal.returns-clause-found
returns-clause-found c = found c.args.octets.now c.read_parts.result c.read_parts.ensures.ok c.read_parts.ensures.err

pub returns-clause-refused : goal.returns-clause-refused
returns-clause-refused c = refused c.args.octets.now c.read_parts.result c.read_parts.ensures.ok c.read_parts.ensures.err
