use Rattle.hc_attended.proofs.KeepingLemmas.{keeps_then}
use Rattle.hc_attended.proofs.lingering.drop_rest.Goals as goal

pub returns-in-More-clause-kept : goal.returns-in-More-clause-kept
returns-in-More-clause-kept g c = keeps_then c.discard_lingering.ensures.kept c.give_lingering_turn.ensures.kept
