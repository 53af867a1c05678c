use Rattle.hc_parts.proofs.JoinLemmas.{first_there, least_is_first, none_earlier}
use Rattle.hc_parts.proofs.laws.first_no_of_the_parts_is_no_to_the_whole.Goals as goal

pub returns-clause-first : goal.returns-clause-first
returns-clause-first c = first_there

pub returns-clause-none_earlier : goal.returns-clause-none_earlier
returns-clause-none_earlier c = none_earlier

pub returns-clause-least : goal.returns-clause-least
returns-clause-least c = λ part n format octets settings records h whole joined few k position why wrong clear.
    least_is_first part format octets settings records h whole joined n few k position why wrong clear
