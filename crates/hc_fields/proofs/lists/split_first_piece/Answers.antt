use Rattle.hc_fields.proofs.ListLemmas.{behind_first}
use Rattle.hc_fields.proofs.lists.split_first_piece.Goals as goal

pub returns-in-Some-clause-rest : goal.returns-in-Some-clause-rest
returns-in-Some-clause-rest c =
    behind_first _ _ _ _ _ _ c.piece_len.ensures.is c.split_at.ensures.back c.in-Some.ensures.cases.0
