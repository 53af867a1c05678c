use Rattle.std.proofs.Common.{[], arith}
use Rattle.hc_transcript.specs.Records.{opening}
use Rattle.hc_service.specs.Sending.{recorded_format}
use Rattle.hc_notices.specs.VoiceLaws.{nothing_is_said}
use Rattle.hc_serving.specs.Proxies.{options_within}
use Rattle.hc_serving.proofs.proxying.serve_proxy.Goals as goal

pub returns-in_err-sockets-clause-said : goal.returns-in_err-sockets-clause-said
returns-in_err-sockets-clause-said g c = nothing_is_said (g.E.Write.contents c.args.faults.now)

pub returns-in_err-served-clause-said : goal.returns-in_err-served-clause-said
returns-in_err-served-clause-said g c = nothing_is_said (g.E.Write.contents c.args.faults.now)

pub returns-clause-few : goal.returns-clause-few
returns-clause-few g c =
    rw c.in_ok-served.ensures.limits.0 at (c.serve.ensures.few [] (opening recorded_format) c.in_ok-served.ensures.tells.0 c.in_ok-served.ensures.recording.0)

pub returns-clause-transcript : goal.returns-clause-transcript
returns-clause-transcript g c =
    c.serve.ensures.transcript c.args.settings (options_within c.args.limits c.args.proxy.keeps_cookies) c.requires c.in_ok-served.ensures.core c.in_ok-served.ensures.tells.0 c.in_ok-served.ensures.recording.0

pub returns-clause-serves : goal.returns-clause-serves
returns-clause-serves g c =
    rw c.in_ok-served.ensures.limits.1 at (c.serve.ensures.serves c.args.settings (options_within c.args.limits c.args.proxy.keeps_cookies) c.requires c.in_ok-served.ensures.core
    (omega (arith, c.in_ok-served.ensures.limits.1)) c.in_ok-served.ensures.tells.0 c.in_ok-served.ensures.recording.0 c.in_ok-served.ensures.tells.1 c.in_ok-served.ensures.recording.1)
