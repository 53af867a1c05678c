use Rattle.std.proofs.Common.{subst}
use Rattle.hc_transcript.specs.Records.{opening}
use Rattle.hc_service.specs.Sending.{recorded_format}
use Rattle.hc_drive.specs.Crowds.{telling}
use Rattle.hc_drive.specs.Rounds.{stage}
use Rattle.hc_drive.proofs.CrowdLemmas.{recorded, still_told}
use Rattle.hc_drive.proofs.crowds.serve_crowd.Goals as goal

pub returns-clause-transcript : goal.returns-clause-transcript
returns-clause-transcript g c = λ settings options good is_new told held.
    recorded c.runs_are_judged_right.ensures c.new_cache_agrees.ensures settings options good c.args.core.now is_new _ c.serve_batches.result _ _
    (telling g.L.Links.tells g.L.Links.shows g.R.Link.has_got g.R.Link.has_kept c.serve_batches.new.links c.serve_batches.new.recorder)
    c.serve_batches.new.core (c.serve_batches.ensures.serves _ (opening recorded_format) told held)

pub returns-clause-few : goal.returns-clause-few
returns-clause-few g c = λ log text told held.
    let still = still_told _ c.serve_batches.result (g.L.Links.most c.args.crowd.now) (g.L.Links.shows c.args.crowd.now log × g.R.Link.has_kept c.args.recorder.now text)
    (telling g.L.Links.tells g.L.Links.shows g.R.Link.has_got g.R.Link.has_kept c.serve_batches.new.links c.serve_batches.new.recorder)
    (stage c.args.core.now log text) c.serve_batches.new.core (c.serve_batches.ensures.serves log text told held) in
    subst (λ bounds. g.L.Links.within bounds c.serve_batches.new.links) c.serve_batches.ensures.limits.bounds (g.met.L.Batches.few c.serve_batches.new.links still.0 still.1)
