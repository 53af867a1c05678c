use Rattle.hc_status.proofs.BackLemmas.{written_list_of, alone_read_back, last_read_back}
use Rattle.hc_status.proofs.laws.member_read_back.Goals as goal

pub returns-clause-list : goal.returns-clause-list
returns-clause-list c = written_list_of

pub returns-clause-alone : goal.returns-clause-alone
returns-clause-alone c = alone_read_back

pub returns-clause-last : goal.returns-clause-last
returns-clause-last c = last_read_back
