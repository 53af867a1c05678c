use Rattle.hc_head.proofs.HostLemmas.{name_front}
use Rattle.hc_head.proofs.hosts.name_end.Goals as goal

pub returns-then-len-gt0 : goal.returns-then-len-gt0
returns-then-len-gt0 c = name_front c.args.text.now c.name_len-len.result c.name_len-len.ensures.value c.if-len-gt0.true
