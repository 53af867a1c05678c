use Rattle.std.proofs.Common.{sym, subst}
use Rattle.hc_head.specs.declared.head.RequestHead.{RequestHead}
use Rattle.hc_transcript.specs.Items.{ClientReply}
use Rattle.hc_history.specs.Right.{IsRight}
use Rattle.hc_service.specs.Sending.{recorded_format}
use Rattle.hc_service.specs.Replying.{hit_reply}
use Rattle.hc_service.specs.Runs.{strict}
use Rattle.hc_service.proofs.NameLemmas.{hit_writable}
use Rattle.hc_service.proofs.RightLemmas.{hit_right}
use Rattle.hc_service.proofs.laws.hits_are_right.Goals as goal

pub returns : goal.returns
returns c = λ since items x wanted stored good is_open asked sound method selected served.
    subst (λ (r : RequestHead). IsRight recorded_format strict items (ClientReply x.number wanted.moment
    (hit_reply (record { name = wanted.name; moment = wanted.moment; asked = r; closes = wanted.closes }) stored))) (sym asked)
    (hit_right items x wanted.moment wanted.name wanted.closes stored sound.0 sound.1 method selected is_open served (hit_writable wanted.name stored wanted.moment good).plain)
