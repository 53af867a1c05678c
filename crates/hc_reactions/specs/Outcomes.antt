-- What an open exchange gets once its forward ends, as the definitions have it, and the steps to it.
use Rattle.std.specs.Prelude.{◌≡◌, ℕ, Option, Some, None}
use Rattle.hc_head.specs.declared.head.ResponseHead.{ResponseHead}
use Rattle.hc_framing.specs.declared.message.Message.{Message}
use Rattle.hc_update.specs.declared.stored.Stored.{Stored}
use Rattle.hc_store.specs.Entries.{Holdings}
use Rattle.hc_service.specs.declared.cases.Cause.{Cause}
use Rattle.hc_service.specs.Replying.{Wanted, bad_gateway, made_reply, replacing_reply}
use Rattle.hc_service.specs.Choices.{Finds, OnTest}
use Rattle.hc_service.specs.Answers.{Answer, Outcome as OwedOutcome, Passes, Replaces, is_replaceable, is_unasked, replacement}
use Rattle.hc_service.specs.Answers.Outcome.{Replies as OwesReply, GoesAnew as OwesForward}
use Rattle.hc_reactions.specs.declared.outcomes.Outcome.{Outcome}
use Rattle.hc_reactions.specs.declared.outcomes.Outcome.TheVariants.{Replies, GoesAnew}

abbrev pub owed_outcome : Outcome → OwedOutcome
owed_outcome (Replies reply) = OwesReply reply
owed_outcome GoesAnew = OwesForward

-- the reply of the stored response that takes the place, where one does
abbrev pub replacing : Wanted → Cause → Option ℕ → Option Stored → Option (Message ResponseHead)
replacing wanted cause origin None = None
replacing wanted cause origin (Some stored) = Some (replacing_reply wanted cause origin stored)

-- the store is asked once more, in place of an error
pub record GivesReplacement (answer : Answer) (old : Holdings) (reply : Option (Message ResponseHead)) (new : Holdings) : Type 0 where
  pub chosen : Option Stored
  pub finds : Finds answer.forward.target answer.wanted.asked.fields old chosen new
  pub reply_is : reply ≡ replacing answer.wanted answer.cause (Some answer.response.head.status) (replacement answer.wanted chosen)

-- by a response that is no validation
abbrev pub Answered : Answer → Holdings → OwedOutcome → Holdings → Type 0
Answered answer old outcome new =
    OnTest (is_unasked answer.forward.request answer.response.head) ((outcome ≡ OwesReply (made_reply answer.wanted bad_gateway)) × (new ≡ old))
    (OnTest (is_replaceable answer.cause answer.response.head) (Replaces answer old outcome new) (Passes answer old outcome new))
