use Rattle.hc_status.proofs.ListLemmas.{list_is_read, list_sound, inner_list_is_read, inner_list_sound}
use Rattle.hc_status.proofs.OutcomeLemmas.{neither_breaks, broken_is_neither}
use Rattle.hc_status.proofs.laws.one_list.Goals as goal

pub returns-clause-list : goal.returns-clause-list
returns-clause-list c = λ octets list. (list_is_read octets list, list_sound octets list)

pub returns-clause-inner_list : goal.returns-clause-inner_list
returns-clause-inner_list c = λ octets. (inner_list_is_read octets, inner_list_sound octets)

pub returns-clause-syntax : goal.returns-clause-syntax
returns-clause-syntax c = λ octets. (neither_breaks octets, broken_is_neither octets)
