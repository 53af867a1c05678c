use Rattle.hc_head.proofs.ForwardLemmas.{host_value, path_plain, path_short, path_asterisk}
use Rattle.hc_head.proofs.targets.target_parts_are_plain.Goals as goal

pub returns-clause-host : goal.returns-clause-host
returns-clause-host c = host_value

pub returns-clause-path : goal.returns-clause-path
returns-clause-path c = path_plain

pub returns-clause-short_path : goal.returns-clause-short_path
returns-clause-short_path c = path_short

pub returns-clause-asterisk : goal.returns-clause-asterisk
returns-clause-asterisk c = path_asterisk
