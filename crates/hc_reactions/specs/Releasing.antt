-- What a request gets that has waited for the forward of another one.
use Rattle.std.specs.Prelude.{◌≡◌, Option, Some, None}
use Rattle.hc_head.specs.declared.head.ResponseHead.{ResponseHead}
use Rattle.hc_head.specs.declared.head.Target.{Target}
use Rattle.hc_framing.specs.declared.message.Message.{Message}
use Rattle.hc_update.specs.declared.stored.Stored.{Stored}
use Rattle.hc_store.specs.Entries.{Holdings}
use Rattle.hc_service.specs.Choices.{Finds}
use Rattle.hc_service.specs.Joining.{shared}
use Rattle.hc_service.specs.Replying.{Wanted, collapsed_reply}

-- the reply of the stored response that is shared, where one is
abbrev pub shared_reply : Wanted → Option Stored → Option (Message ResponseHead)
shared_reply wanted None = None
shared_reply wanted (Some stored) = Some (collapsed_reply wanted stored)

-- the store is asked
pub record GivesRelease (wanted : Wanted) (target : Target) (old : Holdings) (reply : Option (Message ResponseHead)) (new : Holdings) : Type 0 where
  pub chosen : Option Stored
  pub finds : Finds target wanted.asked.fields old chosen new
  pub reply_is : reply ≡ shared_reply wanted (shared wanted.moment chosen)
