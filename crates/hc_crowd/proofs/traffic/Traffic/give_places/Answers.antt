use Rattle.std.proofs.Common.{◌∙◌}
use Rattle.hc_attended.proofs.KeepingLemmas.{keeps_then}
use Rattle.hc_crowd.proofs.traffic.Traffic.give_places.Goals as goal

pub places-preserved : goal.places-preserved
places-preserved g c = (keeps_then c.places.invariant.0 c.give_place.ensures.kept, c.give_place.ensures.opened ∙ c.places.invariant.1)
