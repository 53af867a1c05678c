use Rattle.std.proofs.Common.{◌∙◌, rules, sym}
use Rattle.hc_notices.specs.VoiceLaws.{joined}
use Rattle.hc_serving.proofs.watched.serve_links.Goals as goal

pub returns-clause-said : goal.returns-clause-said
returns-clause-said g c =
    let served = joined g.E.Write.contents _ _ _ c.greet.ensures c.served_by-served.ensures.watched in
    let went_on = rw c.new-herald.ensures at (joined g.E.Write.contents _ _ _ served c.conclude.ensures) in
    let said = went_on.some c.new-voice.ensures.silent in
    let name = sym (went_on.same_reference ∙ c.new-voice.ensures.same_reference) in
    search rules
