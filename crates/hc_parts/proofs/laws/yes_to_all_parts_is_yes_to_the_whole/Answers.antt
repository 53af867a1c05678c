use Rattle.hc_parts.proofs.JoinLemmas.{all_of_yes, yes_of_all}
use Rattle.hc_parts.proofs.laws.yes_to_all_parts_is_yes_to_the_whole.Goals as goal

pub returns : goal.returns
returns c = λ part n format octets settings records h whole joined few counts.
    (yes_of_all part format octets settings records h whole joined n few counts, all_of_yes part format octets settings records h whole joined n few counts)
