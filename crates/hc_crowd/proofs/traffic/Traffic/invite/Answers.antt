use Rattle.hc_attended.proofs.KeepingLemmas.{keeps_within, within_then}
use Rattle.hc_crowd.proofs.traffic.Traffic.invite.Goals as goal

pub returns-in_err-invite : goal.returns-in_err-invite
returns-in_err-invite g c = record { kept = within_then (keeps_within c.arrival.ensures.kept) c.invite.ensures.kept }

pub returns : goal.returns
returns g c = record { kept = within_then (keeps_within c.arrival.ensures.kept) c.invite.ensures.kept }
