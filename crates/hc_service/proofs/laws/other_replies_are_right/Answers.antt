use Rattle.std.proofs.Common.{Some, None, ◌∷◌, sym, subst}
use Rattle.hc_head.specs.declared.head.RequestHead.{RequestHead}
use Rattle.hc_head.specs.Statuses.{not_modified}
use Rattle.hc_transcript.specs.Items.{ClientReply, OriginResponse, OriginFailure}
use Rattle.hc_history.specs.Right.{IsRight}
use Rattle.hc_service.specs.Sending.{recorded_format}
use Rattle.hc_service.specs.Replying.{collapsed_reply, replacing_reply}
use Rattle.hc_service.specs.Runs.{strict}
use Rattle.hc_service.proofs.NameLemmas.{collapsed_writable, forward_writable}
use Rattle.hc_service.proofs.PassedLemmas.{passed_right, made_right}
use Rattle.hc_service.proofs.ReplacingLemmas.{validated_right, error_right, failure_right}
use Rattle.hc_service.proofs.RightLemmas.{shared_right}
use Rattle.hc_service.proofs.laws.other_replies_are_right.Goals as goal

pub returns-clause-passed : goal.returns-clause-passed
returns-clause-passed c = λ items f moment response forward x wanted why stored good is_open cause awaits method target bare.
    passed_right items f moment response forward x wanted why stored is_open cause awaits method target bare (forward_writable wanted.name why stored good).plain

pub returns-clause-made : goal.returns-clause-made
returns-clause-made c = made_right

pub returns-clause-validated : goal.returns-clause-validated
returns-clause-validated c = λ since items x wanted why position stored good is_open asked sound method validated later.
    subst (λ (r : RequestHead). IsRight recorded_format strict items (ClientReply x.number wanted.moment
    (replacing_reply (record { name = wanted.name; moment = wanted.moment; asked = r; closes = wanted.closes }) why (Some not_modified) stored))) (sym asked)
    (validated_right wanted.name good wanted.moment wanted.closes x why stored sound.1 method items is_open sound.0 position validated later)

pub returns-clause-in_place_of_error : goal.returns-clause-in_place_of_error
returns-clause-in_place_of_error c = λ since items f moment response forward x wanted why stored good sent target error is_open asked sound method selected may.
    subst (λ (r : RequestHead). IsRight recorded_format strict (OriginResponse f moment response ∷ items) (ClientReply x.number wanted.moment
    (replacing_reply (record { name = wanted.name; moment = wanted.moment; asked = r; closes = wanted.closes }) why (Some response.head.status) stored))) (sym asked)
    (error_right wanted.name good wanted.moment wanted.closes x why stored sound.1 method items f moment forward sent target is_open selected may response error sound.0)

pub returns-clause-in_place_of_failure : goal.returns-clause-in_place_of_failure
returns-clause-in_place_of_failure c = λ since items f moment forward x wanted why stored good sent target is_open asked sound method selected may.
    subst (λ (r : RequestHead). IsRight recorded_format strict (OriginFailure f moment ∷ items) (ClientReply x.number wanted.moment
    (replacing_reply (record { name = wanted.name; moment = wanted.moment; asked = r; closes = wanted.closes }) why None stored))) (sym asked)
    (failure_right wanted.name good wanted.moment wanted.closes x why stored sound.1 method items f moment forward sent target is_open selected may sound.0)

pub returns-clause-shared : goal.returns-clause-shared
returns-clause-shared c = λ since items x wanted stored good is_open asked sound behind method selected may.
    subst (λ (r : RequestHead). IsRight recorded_format strict items (ClientReply x.number wanted.moment
    (collapsed_reply (record { name = wanted.name; moment = wanted.moment; asked = r; closes = wanted.closes }) stored))) (sym asked)
    (shared_right items x wanted.moment wanted.name wanted.closes stored sound.0 sound.1 method selected is_open behind may (collapsed_writable wanted.name good).plain)
