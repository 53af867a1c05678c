use Rattle.hc_index.proofs.LiveLemmas.{remains_remaining}
use Rattle.hc_index.proofs.lives.answer_live.Goals as goal

pub invariant_of-live-2 : goal.invariant_of-live-2
invariant_of-live-2 c = record { remains = remains_remaining c.forget_lost.new.state c.answer_state.new.state c.forget_lost.ensures }
