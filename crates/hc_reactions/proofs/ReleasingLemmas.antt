-- What a request gets that has waited for the forward of another one.
use Rattle.std.proofs.Common.{◌≡◌, List, Option, IfOk, Ok, Err, Result}
use Rattle.hc_fields.specs.declared.fields.Field.{Field}
use Rattle.hc_head.specs.declared.head.ResponseHead.{ResponseHead}
use Rattle.hc_head.specs.declared.head.Target.{Target}
use Rattle.hc_framing.specs.declared.message.Message.{Message}
use Rattle.hc_update.specs.declared.stored.Stored.{Stored}
use Rattle.hc_store.specs.Entries.{Holdings}
use Rattle.hc_service.specs.Choices.{Finds}
use Rattle.hc_service.specs.Joining.{shared}
use Rattle.hc_service.specs.Replying.{Wanted}
use Rattle.hc_reactions.specs.Releasing.{GivesRelease, shared_reply}
use Rattle.hc_reactions.proofs.OutcomeLemmas.{asked_finds}

pub release_gives : {E : Type 0} (wanted : Wanted) (target : Target) (old new : Holdings) (chosen : Option Stored)
    (asked : List Field) (result : Result (Option (Message ResponseHead)) E)
    → asked ≡ wanted.asked.fields
    → Finds target asked old chosen new
    → IfOk result (λ reply. reply ≡ shared_reply wanted (shared wanted.moment chosen))
    → IfOk result (λ reply. GivesRelease wanted target old reply new)
release_gives wanted target old new chosen asked (Ok reply) is finds gives = record {
  chosen = chosen;
  finds = asked_finds target asked wanted.asked.fields old new chosen is finds;
  reply_is = gives;
}
release_gives wanted target old new chosen asked (Err e) is finds gives = gives
