use Rattle.std.proofs.Common.{◌++◌}
use Rattle.hc_flow.proofs.FlowLemmas.{gave_less}
use Rattle.hc_flow.proofs.heard.heard_octets.Goals as goal

pub returns-in-Err-clause-gave : goal.returns-in-Err-clause-gave
returns-in-Err-clause-gave g c = λ heard gave.
    gave_less g.S.Stream.has_given c.lose.new.self.stream c.lose.new.self.failed heard c.args.octets.now c.lose.ensures.failed
    (c.lose.ensures.gave (heard ++ c.args.octets.now) gave)
