use Rattle.std.proofs.Common.{◌∙◌, inl, refl}
use Rattle.std.proofs.lemmas.Result.{err_from_is_err_and}
use Rattle.hc_attended.proofs.KeepingLemmas.{hears_stop, keeps_then, keeps_within, within_then, then_hears_within, hears_refused_within, hears_within, hears_at_once_within, keeps_nothing, keeps_refused}
use Rattle.hc_crowd.proofs.HeldLemmas.{as_weighed}
use Rattle.hc_crowd.proofs.traffic.Traffic.happening.Goals as goal

pub returns-then-announces_stop : goal.returns-then-announces_stop
returns-then-announces_stop g c = record { heard = hears_stop (c.announces_stop.ensures.peers ∙ c.note_incidents.ensures.peers); held = inl refl }

pub returns-in_err-accept_all : goal.returns-in_err-accept_all
returns-in_err-accept_all g c = let p = err_from_is_err_and c.from_residual.result c.from_residual.ensures.1 in rw p.1 (record { heard = hears_refused_within (within_then (keeps_within (keeps_then c.note_incidents.ensures.kept c.announces_stop.ensures.kept)) c.accept_all.ensures.kept); held = inl refl })

pub returns-in_err-bound_held : goal.returns-in_err-bound_held
returns-in_err-bound_held g c = let p = err_from_is_err_and c.from_residual-in_err-bound_held.result c.from_residual-in_err-bound_held.ensures.1 in rw p.1 (record { heard = hears_refused_within (within_then (within_then (keeps_within (keeps_then c.note_incidents.ensures.kept c.announces_stop.ensures.kept)) c.accept_all.ensures.kept) (keeps_within c.bound_held.ensures.kept)); held = inl c.in_err-bound_held.ensures.refused })

pub returns-in_err-give_up_abandoned : goal.returns-in_err-give_up_abandoned
returns-in_err-give_up_abandoned g c = let p = err_from_is_err_and c.from_residual-in_err-give_up_abandoned.result c.from_residual-in_err-give_up_abandoned.ensures.1 in rw p.1 (record { heard = hears_refused_within (within_then (within_then (keeps_within (keeps_then c.note_incidents.ensures.kept c.announces_stop.ensures.kept)) c.accept_all.ensures.kept) (keeps_within (keeps_then c.bound_held.ensures.kept c.give_up_abandoned.ensures.kept))); held = as_weighed _ _ _ _ _ _ (within_then (keeps_within (keeps_then c.note_incidents.ensures.kept c.announces_stop.ensures.kept)) c.accept_all.ensures.kept) c.in_ok-bound_held.ensures.cuts })

pub returns-in_err-happened : goal.returns-in_err-happened
returns-in_err-happened g c = let p = err_from_is_err_and c.from_residual-in_err-happened.result c.from_residual-in_err-happened.ensures.1 in rw p.1 (record { heard = hears_refused_within (within_then (within_then (within_then (keeps_within (keeps_then c.note_incidents.ensures.kept c.announces_stop.ensures.kept)) c.accept_all.ensures.kept) (keeps_within (keeps_then c.bound_held.ensures.kept c.give_up_abandoned.ensures.kept))) (keeps_within (keeps_refused c.in_err-happened.ensures.heard))); held = as_weighed _ _ _ _ _ _ (within_then (keeps_within (keeps_then c.note_incidents.ensures.kept c.announces_stop.ensures.kept)) c.accept_all.ensures.kept) c.in_ok-bound_held.ensures.cuts })

pub returns-in-Some : goal.returns-in-Some
returns-in-Some g c = record { heard = then_hears_within (within_then (within_then (keeps_within (keeps_then c.note_incidents.ensures.kept c.announces_stop.ensures.kept)) c.accept_all.ensures.kept) (keeps_within (keeps_then c.bound_held.ensures.kept c.give_up_abandoned.ensures.kept))) (hears_within (rw c.in-Some.is at c.in_ok-happened.ensures.heard)); held = as_weighed _ _ _ _ _ _ (within_then (keeps_within (keeps_then c.note_incidents.ensures.kept c.announces_stop.ensures.kept)) c.accept_all.ensures.kept) c.in_ok-bound_held.ensures.cuts }

pub returns : goal.returns
returns g c = record { heard = then_hears_within (within_then (within_then (within_then (keeps_within (keeps_then c.note_incidents.ensures.kept c.announces_stop.ensures.kept)) c.accept_all.ensures.kept) (keeps_within (keeps_then c.bound_held.ensures.kept c.give_up_abandoned.ensures.kept))) (keeps_within (keeps_nothing (rw c.in_default.is at c.in_ok-happened.ensures.heard)))) (hears_at_once_within c.welcome.ensures.heard); held = as_weighed _ _ _ _ _ _ (within_then (keeps_within (keeps_then c.note_incidents.ensures.kept c.announces_stop.ensures.kept)) c.accept_all.ensures.kept) c.in_ok-bound_held.ensures.cuts }
