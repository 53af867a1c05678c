use Rattle.hc_attended.proofs.SettledLemmas.{client_goes_on, first_by, forward_goes_on, forward_in_time, forward_owes_in_vain}
use Rattle.hc_attended.proofs.settled.nothing_is_left_lying.Goals as goal

pub returns-clause-client : goal.returns-clause-client
returns-clause-client g c = client_goes_on

pub returns-clause-forward : goal.returns-clause-forward
returns-clause-forward g c = forward_goes_on

pub returns-clause-in_time : goal.returns-clause-in_time
returns-clause-in_time g c = forward_in_time

pub returns-clause-owed : goal.returns-clause-owed
returns-clause-owed g c = forward_owes_in_vain

pub returns-clause-due : goal.returns-clause-due
returns-clause-due g c = first_by
