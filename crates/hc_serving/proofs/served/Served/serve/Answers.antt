use Rattle.std.proofs.Common.{[]}
use Rattle.hc_transcript.specs.Records.{opening}
use Rattle.hc_service.specs.Sending.{recorded_format}
use Rattle.hc_serving.proofs.ProxyLemmas.{has_served}
use Rattle.hc_serving.proofs.served.Served.serve.Goals as goal

pub returns-clause-serves : goal.returns-clause-serves
returns-clause-serves g c = λ settings options good is_new less told got shown kept.
    has_served _ _ _ _ c.args.self.now.core _ settings options c.serve_to-self.result good is_new less (shown, kept) (c.serve_to-self.ensures.serves [] (opening recorded_format) told got)
