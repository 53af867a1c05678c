use Rattle.std.proofs.Common.{◌∙◌, inl, sym}
use Rattle.hc_agenda.specs.Places.{opened_in}
use Rattle.hc_crowd.proofs.PlacesLemmas.{first_goes}
use Rattle.hc_crowd.proofs.traffic.Traffic.sort.Goals as goal

pub returns-then-is_late-clause-late : goal.returns-then-is_late-clause-late
returns-then-is_late-clause-late g c = λ f lost. inl (sym c.is_late.ensures.late ∙ c.if-is_late.true)

pub returns-then-is_late-clause-fewer : goal.returns-then-is_late-clause-fewer
returns-then-is_late-clause-fewer g c = first_goes c.args.forward (opened_in c.args.self.now.links.peers.places) _ c.requires.first c.lose_opened.ensures.first

pub returns-then-not-stand_in_line-clause-fewer : goal.returns-then-not-stand_in_line-clause-fewer
returns-then-not-stand_in_line-clause-fewer g c =
    rw c.note_unreached.ensures.links
    (first_goes c.args.forward (opened_in c.args.self.now.links.peers.places) _ c.requires.first c.stand_in_line.ensures.first)
