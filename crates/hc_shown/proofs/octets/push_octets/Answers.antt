use Rattle.std.proofs.Common.{arith}
use Rattle.hc_shown.proofs.ShownLemmas.{octets_are_shown, on_ok}
use Rattle.hc_shown.proofs.octets.push_octets.Goals as goal

pub returns-clause-shown : goal.returns-clause-shown
returns-clause-shown c = on_ok c.push_all.result (octets_are_shown c.args.octets.now (omega arith))

pub returns-then-octets-le-SHOWN-clause-shown : goal.returns-then-octets-le-SHOWN-clause-shown
returns-then-octets-le-SHOWN-clause-shown c = octets_are_shown c.args.octets.now (omega arith)
