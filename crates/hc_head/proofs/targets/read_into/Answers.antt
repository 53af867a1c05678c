use Rattle.std.proofs.Common.{rules}
use Rattle.hc_head.specs.HostScan.{authority_of}
use Rattle.hc_head.proofs.TargetLemmas.{absolute_target}
use Rattle.hc_head.proofs.targets.read_into.Goals as goal

pub returns : goal.returns
returns c =
    absolute_target c.args.head.now _ (authority_of c.in-Some.host) (authority_of c.in-Some-2.form.authority) c.in-Some-2.form.rest.now
    c.in-Some.ensures.found (search rules) (search rules) (search rules) (search rules)
