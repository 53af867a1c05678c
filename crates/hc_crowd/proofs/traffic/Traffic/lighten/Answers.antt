use Rattle.std.proofs.Common.{ℕ, subst}
use Rattle.hc_agenda.specs.Loads.{TakesHeaviest}
use Rattle.hc_attended.proofs.KeepingLemmas.{keeps_then}
use Rattle.hc_crowd.proofs.LighteningLemmas.{one_more}
use Rattle.hc_crowd.proofs.traffic.Traffic.lighten.Goals as goal

pub loads-preserved : goal.loads-preserved
loads-preserved g c =
    let takes = subst (λ (most : ℕ). TakesHeaviest most c.take_heaviest.result c.loads.ranking.loads.items c.take_heaviest.new.self.loads.items) c.cuts_to-most.ensures.to c.take_heaviest.ensures.takes in (
      keeps_then c.loads.invariant.0 c.cut_off.ensures.kept,
      one_more _ _ _ _ _ _ _ _ c.loads.invariant.1 (rw c.in-Some.is at takes) c.cut_off.ensures.cut c.cut_off.ensures.others,
    )
