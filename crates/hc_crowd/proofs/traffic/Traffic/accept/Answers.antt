use Rattle.hc_attended.proofs.KeepingLemmas.{keeps_then, keeps_within, within_then}
use Rattle.hc_crowd.proofs.traffic.Traffic.accept.Goals as goal

pub returns-in_default : goal.returns-in_default
returns-in_default g c = record { kept = keeps_within c.next_guest.ensures.kept }

pub returns-then-make_room : goal.returns-then-make_room
returns-then-make_room g c = record { kept = within_then (keeps_within (keeps_then c.next_guest.ensures.kept c.make_room.ensures.kept)) c.invite.ensures.kept }

pub returns : goal.returns
returns g c = record { kept = keeps_within (keeps_then (keeps_then c.next_guest.ensures.kept c.make_room.ensures.kept) c.find_room.ensures.kept) }
