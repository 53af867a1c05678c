use Rattle.hc_rule_cases.proofs.messages_links.read_requests.Goals as goal

pub refused-requires : goal.refused-requires
refused-requires c = c.in_ok-hear.ensures.can c.pieces.invariant
