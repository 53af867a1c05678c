-- The replies that a request gets, each for itself, with what Cache-Status says of it.
use Rattle.std.specs.Prelude.{ℕ, Bool, true, false, ◌==◌, List, Option, Some, None, if◌then◌else◌}
use Rattle.hc_head.specs.declared.head.RequestHead.{RequestHead}
use Rattle.hc_head.specs.declared.head.ResponseHead.{ResponseHead}
use Rattle.hc_head.specs.Methods.{is_head}
use Rattle.hc_head.specs.Statuses.{not_modified}
use Rattle.hc_framing.specs.declared.message.Message.{Message}
use Rattle.hc_fresh.specs.Lifetimes.{stale_forbidden}
use Rattle.hc_status.specs.declared.cache_status.Handling.{Handling}
use Rattle.hc_status.specs.declared.cache_status.Handling.TheVariants.{Hit, Fwd}
use Rattle.hc_update.specs.declared.stored.Stored.{Stored}
use Rattle.hc_replies.specs.Replies.{forwarded_reply, stored_reply, not_modified_reply, generated_reply}
use Rattle.hc_service.specs.declared.cases.Cause.{Cause}
use Rattle.hc_service.specs.declared.cases.Cause.TheVariants.{UriMiss}
use Rattle.hc_service.specs.Cases.{word_of}
use Rattle.hc_service.specs.Serving.{ttl_at, has_still}

-- a reply that is wanted: the name of the cache, the moment, the request, and whether the connection closes behind the reply
pub record Wanted : Type 0 where
  pub name : List ℕ
  pub moment : ℕ
  pub asked : RequestHead
  pub closes : Bool

-- ---- replies that the cache makes itself

abbrev pub bad_gateway : ℕ
bad_gateway = 502

abbrev pub gateway_timeout : ℕ
gateway_timeout = 504

-- one of that status, which bears no mark
abbrev pub made_reply : Wanted → ℕ → Message ResponseHead
made_reply wanted status = generated_reply status wanted.moment wanted.closes

-- ---- replies from what is stored

-- that what the client has still holds, where its condition does; else the stored response, without its body for HEAD (RFC 9111 section 4.3.2)
abbrev pub entry_reply : Wanted → Handling → Stored → Message ResponseHead
entry_reply wanted handling stored =
    if has_still wanted.asked.fields stored
    then not_modified_reply wanted.name handling wanted.closes wanted.moment stored
    else stored_reply wanted.name handling wanted.closes wanted.moment (is_head wanted.asked.method) stored

-- the status of such a reply
abbrev pub entry_status : Wanted → Stored → ℕ
entry_status wanted stored = if has_still wanted.asked.fields stored then not_modified else stored.status

-- a hit, with the seconds for which it is fresh still (RFC 9211 sections 2.1 and 2.4)
abbrev pub hit_reply : Wanted → Stored → Message ResponseHead
hit_reply wanted stored = entry_reply wanted (Hit (Some (ttl_at stored wanted.moment))) stored

-- the origin's status, where the reply has another one (RFC 9211 section 2.3)
abbrev pub status_told : Option ℕ → ℕ → Option ℕ
status_told None status = None
status_told (Some origin) status = if origin == status then None else Some origin

-- a stored response, once it is validated, or in place of an error or a failure
abbrev pub replacing_reply : Wanted → Cause → Option ℕ → Stored → Message ResponseHead
replacing_reply wanted cause origin stored =
    entry_reply wanted (Fwd (word_of cause) (status_told origin (entry_status wanted stored)) false false) stored

-- a stored response to a request that waited for the forward of another one (RFC 9211 section 2.6)
abbrev pub collapsed_reply : Wanted → Stored → Message ResponseHead
collapsed_reply wanted stored = entry_reply wanted (Fwd (word_of UriMiss) None false true) stored

-- ---- what the origin answered, which was stored or wasn't (RFC 9211 sections 2.2 and 2.5)
abbrev pub passed_reply : Wanted → Cause → Bool → Message ResponseHead → Message ResponseHead
passed_reply wanted cause stored response =
    forwarded_reply wanted.name (Fwd (word_of cause) None stored false) wanted.closes wanted.moment response

-- ---- a failure

-- the status of the reply where the origin gave no answer: the response chosen forbids that it is served stale, else the origin is at fault (RFC 9111 section
-- 5.2.2.2, RFC 9110 sections 15.6.3 and 15.6.5)
abbrev pub failure_status : Option Stored → ℕ
failure_status None = bad_gateway
failure_status (Some stored) = if stale_forbidden stored.fields then gateway_timeout else bad_gateway
