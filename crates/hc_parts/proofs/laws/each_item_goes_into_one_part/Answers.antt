use Rattle.hc_parts.proofs.JoinLemmas.{its_position, one_part}
use Rattle.hc_parts.proofs.TranscriptLemmas.{in_turn}
use Rattle.hc_parts.proofs.laws.each_item_goes_into_one_part.Goals as goal

pub returns-clause-in_turn : goal.returns-clause-in_turn
returns-clause-in_turn c = λ format octets records h is. in_turn format records h is.are_read

pub returns-clause-one : goal.returns-clause-one
returns-clause-one c = one_part

pub returns-clause-position : goal.returns-clause-position
returns-clause-position c = its_position
