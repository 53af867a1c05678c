-- What is done with a whole response of the origin, by the first rule that holds, and with a failure.
use Rattle.std.specs.Prelude.{◌≡◌, ℕ, Bool, false, ◌&&◌, ◌||◌, ◌==◌, not, Option, Some, None, codes, if◌then◌else◌}
use Rattle.hc_fields.specs.Values.{has_name}
use Rattle.hc_head.specs.declared.head.RequestHead.{RequestHead}
use Rattle.hc_head.specs.declared.head.ResponseHead.{ResponseHead}
use Rattle.hc_head.specs.declared.head.Target.{Target}
use Rattle.hc_head.specs.Methods.{is_get, is_head}
use Rattle.hc_head.specs.Statuses.{not_modified}
use Rattle.hc_framing.specs.declared.message.Message.{Message}
use Rattle.hc_update.specs.declared.stored.Stored.{Stored}
use Rattle.hc_head.specs.Statuses.{is_error_status}
use Rattle.hc_store.specs.Entries.{Holdings}
use Rattle.hc_service.specs.declared.cases.Cause.{Cause}
use Rattle.hc_service.specs.declared.open.OpenForward.{OpenForward}
use Rattle.hc_service.specs.Cases.{asks_store}
use Rattle.hc_service.specs.Serving.{may_replace}
use Rattle.hc_service.specs.Replying.{Wanted, bad_gateway, made_reply, replacing_reply, passed_reply, failure_status}
use Rattle.hc_service.specs.Choices.{OnTest, Finds, validated_by, Stores, Invalidates, Updates}

-- what the exchange that awaits a forward's response gets: its reply, or a forward anew
pub data Outcome : Type 0 where
  Replies : (reply : Message ResponseHead) → Outcome
  GoesAnew : Outcome

-- ---- whomever a response is for, it invalidates and freshens first; position is that of its record

pub record Renews (forward : OpenForward) (moment position : ℕ) (response : ResponseHead) (old new : Holdings) : Type 0 where
  pub between : Holdings
  pub invalidates : Invalidates forward response old between
  pub updates : Updates forward moment position response between new

-- ---- where it is for the store alone

-- a response that says neither that what is stored still holds nor that the origin can't answer now
abbrev pub is_news : ResponseHead → Bool
is_news response = not (response.status == not_modified || is_error_status response.status)

-- it is put where it may be stored, and nothing more happens
abbrev pub StoresBehind : OpenForward → ℕ → Message ResponseHead → Holdings → Holdings → Type 0
StoresBehind forward moment response old new =
    OnTest (is_news response.head) ((stored : Bool) × Stores forward moment response old stored new) (new ≡ old)

-- ---- where an exchange awaits it: the rules, in their order

-- it answers the cache's own condition: what is stored still holds (RFC 9111 section 4.3.3)
abbrev pub is_validation : Bool → ResponseHead → Bool
is_validation conditional response = conditional && response.status == not_modified

-- a request that asks on a condition that a 304 answers (RFC 9110 sections 13.1.2 and 13.1.3)
abbrev pub has_condition : RequestHead → Bool
has_condition sent = has_name (codes "if-none-match") sent.fields || has_name (codes "if-modified-since") sent.fields

-- a 304 that nobody asked for, since the forward had no condition (RFC 9110 section 15.4.5)
abbrev pub is_unasked : RequestHead → ResponseHead → Bool
is_unasked sent response =
    response.status == not_modified && (is_get sent.method || is_head sent.method) && not (has_condition sent)

-- an error, in whose place what is stored may be the reply, where the store was asked (RFC 5861 section 4)
abbrev pub is_replaceable : Cause → ResponseHead → Bool
is_replaceable cause response = asks_store cause && is_error_status response.status

pub data Rule : Type 0 where
  -- a 304 that answers the cache's own condition
  Validates : Rule
  -- a 304 that nobody asked for
  IsUnasked : Rule
  -- an error, in whose place what is stored may be the reply
  MayBeReplaced : Rule
  -- anything else
  IsPassedOn : Rule

-- the first that holds, of a response to a request that was sent for that cause, perhaps with the cache's own condition
abbrev pub rule_of : Cause → Bool → RequestHead → ResponseHead → Rule
rule_of cause conditional sent response =
    if is_validation conditional response then Validates
    else if is_unasked sent response then IsUnasked
    else if is_replaceable cause response then MayBeReplaced
    else IsPassedOn

-- ---- what each rule does

-- the reply that is wanted, the forward and why it was sent, and the response to it
pub record Answer : Type 0 where
  pub wanted : Wanted
  pub forward : OpenForward
  pub cause : Cause
  pub response : Message ResponseHead

-- a 304 that answers the cache's own condition: the stored response that it validated is the reply; where there is none, the request goes to the origin anew
abbrev pub validated_outcome : Wanted → Cause → Option Stored → Outcome
validated_outcome wanted cause (Some stored) = Replies (replacing_reply wanted cause (Some not_modified) stored)
validated_outcome wanted cause None = GoesAnew

-- what is passed on is the reply; it is put first where the store was asked and it may be stored
pub record Passes (answer : Answer) (old : Holdings) (outcome : Outcome) (new : Holdings) : Type 0 where
  pub stored : Bool
  pub puts : OnTest (asks_store answer.cause) (Stores answer.forward answer.wanted.moment answer.response old stored new) ((stored ≡ false) × (new ≡ old))
  pub outcome_is : outcome ≡ Replies (passed_reply answer.wanted answer.cause stored answer.response)

-- the stored response that was chosen, where it may take the place of an error or of a failure
abbrev pub replacement : Wanted → Option Stored → Option Stored
replacement wanted None = None
replacement wanted (Some stored) = if may_replace wanted.asked.fields stored wanted.moment then Some stored else None

-- it is the reply, where there is one; else the error is passed on
abbrev pub RepliesInPlace : Option Stored → Answer → Holdings → Outcome → Holdings → Type 0
RepliesInPlace (Some stored) answer old outcome new =
    (outcome ≡ Replies (replacing_reply answer.wanted answer.cause (Some answer.response.head.status) stored)) × (new ≡ old)
RepliesInPlace None answer old outcome new = Passes answer old outcome new

-- an error: the store is asked once more
pub record Replaces (answer : Answer) (old : Holdings) (outcome : Outcome) (new : Holdings) : Type 0 where
  pub chosen : Option Stored
  pub between : Holdings
  pub finds : Finds answer.forward.target answer.wanted.asked.fields old chosen between
  pub ends : RepliesInPlace (replacement answer.wanted chosen) answer between outcome new

-- the record of the response stands at that position
abbrev pub Responds : Rule → Answer → ℕ → Holdings → Outcome → Holdings → Type 0
Responds Validates answer position old outcome new =
    (outcome ≡ validated_outcome answer.wanted answer.cause (validated_by answer.forward.target answer.wanted.asked.fields position old)) × (new ≡ old)
Responds IsUnasked answer position old outcome new = (outcome ≡ Replies (made_reply answer.wanted bad_gateway)) × (new ≡ old)
Responds MayBeReplaced answer position old outcome new = Replaces answer old outcome new
Responds IsPassedOn answer position old outcome new = Passes answer old outcome new

-- ---- a failure: where the store was asked it is asked again, and a stored response may be the reply; else one that says that there is none

abbrev pub failed_outcome : Wanted → Cause → Option Stored → Option Stored → Outcome
failed_outcome wanted cause chosen (Some stored) = Replies (replacing_reply wanted cause None stored)
failed_outcome wanted cause chosen None = Replies (made_reply wanted (failure_status chosen))

pub record FailsByStore (wanted : Wanted) (target : Target) (cause : Cause) (old : Holdings) (outcome : Outcome) (new : Holdings) : Type 0 where
  pub chosen : Option Stored
  pub finds : Finds target wanted.asked.fields old chosen new
  pub outcome_is : outcome ≡ failed_outcome wanted cause chosen (replacement wanted chosen)

-- of a forward for that target, which was sent for that cause
abbrev pub Fails : Wanted → Target → Cause → Holdings → Outcome → Holdings → Type 0
Fails wanted target cause old outcome new =
    OnTest (asks_store cause) (FailsByStore wanted target cause old outcome new)
    ((outcome ≡ Replies (made_reply wanted bad_gateway)) × (new ≡ old))
