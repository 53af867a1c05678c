use Rattle.hc_order.proofs.PassageLemmas.{left_elsewhere}
use Rattle.hc_order.proofs.passages.a_move_elsewhere_leaves_a_passage.Goals as goal

pub returns : goal.returns
returns c = left_elsewhere
