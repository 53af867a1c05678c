use Rattle.std.proofs.Common.{◌∙◌, ap}
use Rattle.hc_transcript.specs.Records.{opening}
use Rattle.hc_service.specs.Sending.{recorded_format}
use Rattle.hc_serving.proofs.ProxyLemmas.{got_all}
use Rattle.hc_serving.proofs.recording.recorder_to.Goals as goal

pub returns-clause-got : goal.returns-clause-got
returns-clause-got g c = rw c.new-2.ensures.speaks
    (got_all (λ _ _. Unit {0}) c.new-2.result.recorder.link c.new-2.result.recorder.waiting (opening recorded_format)
    (ap (λ buffered. buffered.waiting) c.new-2.ensures.recorder ∙ c.new-buffered.ensures.waiting) tt)
