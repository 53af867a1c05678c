-- Which section of an RFC asks what a reply doesn't keep, by the way in which the response that is named falls short.
use denote.Ref.{Bor}
use Rattle.std.specs.Prelude.{◌≡◌, ℕ, Bool, true, false, ◌&&◌, ◌||◌, ◌==◌, not, nat_le, nat_lt, bytes_eq, codes, ◌-◌, length, slice_get, List, [], ◌∷◌, Option, Some, None, IfSome, is_some, option_and_then, option_copied, unwrap_or, vec_len, if◌then◌else◌}
use Rattle.std.specs.List.{list_all, list_any}
use Rattle.std.specs.Option.{option_map, option_or}
use Rattle.hc_fields.specs.declared.fields.Field.{Field}
use Rattle.hc_head.specs.Methods.{is_head}
use Rattle.hc_head.specs.Statuses.{not_modified}
use Rattle.hc_transcript.specs.declared.line.ToldCause.{ToldCause}
use Rattle.hc_transcript.specs.declared.line.ToldCause.TheVariants as told
use Rattle.hc_transcript.specs.Records.{told_in}
use Rattle.hc_history.specs.declared.reasons.Reason.{Reason}
use Rattle.hc_history.specs.declared.reasons.Reason.TheVariants as reason
use Rattle.hc_history.specs.Claims.{Claim}
use Rattle.hc_history.specs.Names.{reason_number}
use Rattle.hc_use.specs.declared.storing.Forbids.{Forbids}
use Rattle.hc_use.specs.Demanding.{age_sections, before_recording, lifetime_sections, reason_sections, storing_sections, ttl_sections, use_sections}
use Rattle.hc_use.specs.Forbidding.{forbids_nothing}
use Rattle.hc_use.specs.Rules.{reason_of}
use Rattle.hc_gaps.specs.Demanding.{difference_sections, gap_sections, selecting_sections}
use Rattle.hc_gaps.specs.Forms.{leaves_out}
use Rattle.hc_past.specs.declared.past.End.{End}
use Rattle.hc_past.specs.declared.past.Heads.{Heads}
use Rattle.hc_past.specs.declared.shortfalls.Nearest.{Nearest}
use Rattle.hc_past.specs.declared.shortfalls.Reach.{Reach}
use Rattle.hc_past.specs.declared.shortfalls.Shortfall.{Shortfall}
use Rattle.hc_past.specs.declared.shortfalls.Shortfall.TheVariants.{Asked, Selected, Valid, Lifetime, Use, Body, Fields, Age, Ttl}
use Rattle.hc_past.specs.declared.unstored.Unstored.{Unstored}
use Rattle.hc_past.specs.declared.unstored.Unstored.TheVariants.{OtherMethod, Forbidden, Forgotten, Unrecorded}
use Rattle.hc_past.specs.declared.wrongs.Why.{Why}
use Rattle.hc_past.specs.declared.wrongs.Why.TheVariants.{NoResponse, NotForwarded}
use Rattle.hc_past.specs.Naming.{rule_of}
use Rattle.hc_past.specs.Remembered.{end_seen, is_alone, is_given, may_answer}
use Rattle.hc_why.specs.declared.changes.Ends.{Ends}
use Rattle.hc_why.specs.declared.demands.Circumstances.{Circumstances}
use Rattle.hc_why.specs.declared.explaining.Explanation.{Explanation}
use Rattle.hc_why.specs.declared.explaining.Way.{Way}
use Rattle.hc_why.specs.declared.explaining.Way.TheVariants.{Hit, Forwarded, Collapsed, Unmarked}
use Rattle.hc_why.specs.Due.{is_after_error, told_of}

-- what a method that is registered as safe invalidated
abbrev pub by_safe : List ℕ
by_safe = codes "no RFC (RFC 9111 section 4.4 asks it of unsafe methods, and this one is registered as safe), but this auditor's stricter rule"

-- private of some fields alone
abbrev pub of_private_fields : List ℕ
of_private_fields = codes "no RFC (RFC 9111 section 5.2.2.7 lets the rest be stored of what says private of some fields), but this auditor's stricter rule"

-- a 304
abbrev pub no_response : List ℕ
no_response = codes "no RFC (RFC 9111 section 3 lets a 304 be stored by a cache that understands it), but this auditor's stricter rule"

-- one equation a rule
abbrev pub demanded_sections : Shortfall → Circumstances → List ℕ
demanded_sections Asked about = codes "RFC 9111 section 4"
demanded_sections (Selected selection) about = selecting_sections selection about.is_after_304
demanded_sections Valid about = if about.is_by_safe then by_safe else codes "RFC 9111 section 4.4"
demanded_sections (Lifetime usage) about = lifetime_sections usage about.leaves_out
demanded_sections (Use usage) about = use_sections usage about.leaves_out about.is_after_error
demanded_sections (Body gap) about = gap_sections gap
demanded_sections (Fields found) about =
    difference_sections found about.status (option_map (λ validator. validator.1.now) about.validator) (option_map (λ first. first.now) about.first)
demanded_sections (Age gap) about = age_sections gap about.is_for_it about.was_validated
demanded_sections (Ttl gap) about = ttl_sections gap

-- ---- what bears on it, beside the way in which the response falls short

-- the methods that are registered as safe, and aren't taken so by an audit
abbrev pub is_registered_safe : List ℕ → Bool
is_registered_safe method =
    list_any (λ known. bytes_eq known method) (codes "PRI" ∷ codes "PROPFIND" ∷ codes "QUERY" ∷ codes "REPORT" ∷ codes "SEARCH" ∷ [])

abbrev pub are_safe : List (Bor End) → Bool
are_safe ends = list_all (λ end. is_registered_safe end.now.method) ends

-- all that invalidated the response are known, and such ones
abbrev pub is_by_safe : Ends → Bool
is_by_safe ends = not (vec_len ends.invalidators.named == 0) && (ends.invalidators.older == 0 && are_safe ends.invalidators.named.items)

-- its Vary alone keeps a 304 from being about the response
abbrev pub has_unselected : Ends → Bool
has_unselected ends = is_some ends.not_about.unselected

-- a 304 behind the request validated the response, which may have come for the request
abbrev pub is_for_it : Claim → Nearest → Option End → Bool
is_for_it claim nearest None = false
is_for_it claim nearest (Some end) = nat_lt claim.since (unwrap_or nearest.state.now.validated_at 0) && may_answer claim (end_seen end)

-- the record of the response at a position, the first of these
abbrev pub source_among : ℕ → List (Bor End) → Option End
source_among position [] = None
source_among position (end ∷ ends) = if end.now.named.position == position then Some end.now else source_among position ends

-- the fields of an answer, as far as they are known
abbrev pub fields_of_end : Option End → Option (List Field)
fields_of_end end = option_map (λ heads. heads.response.fields) (option_and_then (λ one. one.heads) end)

-- what bears on it is so by the reply, the response that is named, and the ends of forwards that are told of
pub record AreCircumstances (explanation : Explanation) (nearest : Nearest) (about : Circumstances) : Type 0 where
  pub leaves_out : about.leaves_out ≡ leaves_out (codes "no-cache") nearest.state.now.fields explanation.claim.reply.head.fields
  pub is_after_304 : about.is_after_304 ≡ has_unselected explanation.ends
  pub is_after_error : about.is_after_error ≡ is_after_error (told_of explanation.ends).due
  pub is_by_safe : about.is_by_safe ≡ is_by_safe explanation.ends
  pub status : about.status ≡ explanation.claim.reply.head.status
  pub position : about.position ≡ nearest.position
  pub validator : option_map (λ validator. validator.1.now) about.validator ≡ fields_of_end (option_copied explanation.ends.validator)
  pub first : option_map (λ first. first.now) about.first ≡ fields_of_end (source_among nearest.position explanation.ends.sources.items)
  pub is_for_it : about.is_for_it ≡ is_for_it explanation.claim nearest (option_copied explanation.ends.validator)
  pub was_validated : about.was_validated ≡ is_some nearest.state.now.validated_at

-- by these that is asked of a reply whose response falls short so
pub record IsAskedOf (explanation : Explanation) (nearest : Nearest) (shortfall : Shortfall) (sections : List ℕ) : Type 0 where
  pub about : Circumstances
  pub are : AreCircumstances explanation nearest about
  pub asks : sections ≡ demanded_sections shortfall about

-- ---- an answer of its own

abbrev pub is_hit : Way → Bool
is_hit Hit = true
is_hit Forwarded = false
is_hit Collapsed = false
is_hit Unmarked = false

-- its forward was made for that exchange, as is told
abbrev pub is_told_for : ToldCause → ℕ → Bool
is_told_for told.Untold exchange = false
is_told_for told.NoExchange exchange = false
is_told_for (told.Exchange number) exchange = number == exchange

-- it is known to have been made for the request, or no other exchange of the target has been open since
abbrev pub is_own : Explanation → End → Bool
is_own explanation end = is_told_for (told_in explanation.claim.format end.cause) explanation.claim.exchange
    || is_alone explanation.claim.since explanation.past.now

-- the reply has its status and its body
abbrev pub gives_own : Explanation → Option End → Bool
gives_own explanation None = false
gives_own explanation (Some end) = is_own explanation end && is_given explanation.claim (end_seen end)

-- a wrong hit carries an answer to a forward of its own, and nothing came before its request that it might have come from
abbrev pub has_own_answer : Explanation → Bool
has_own_answer explanation =
    is_hit explanation.way && is_some explanation.why && not explanation.ends.is_given_before
    && gives_own explanation (option_copied explanation.ends.carried)

-- ---- why nothing is stored

-- the latest
abbrev pub last_of : List (Bor End) → Option (Bor End)
last_of ends = slice_get ends (length ends - 1)

-- the response by which that is told: the latest that the reply gives, or else the latest of those that are named
abbrev pub unstored_told : Ends → Option End
unstored_told ends = option_or (option_copied ends.given) (option_map (λ end. end.now) (last_of ends.unstored.named.items))

-- what of that forbids to store it as the reply gives it: of a 304 nothing by its status and method, of a part that it is one, of what answers HEAD that it does
abbrev pub is_304 : Option ℕ → Bool
is_304 None = false
is_304 (Some status) = status == not_modified

abbrev pub forbids_given : Claim → Option ℕ → Forbids → Forbids
forbids_given claim status forbids = record forbids {
  status = forbids.status && not (is_304 status);
  method = forbids.method && not (is_304 status);
  uncacheable = forbids.uncacheable && not (is_304 status);
  by_head = forbids.by_head && (not (is_304 status) && not (is_head claim.request.method));
  partial = forbids.partial && not (claim.reply.head.status == 206);
}

abbrev pub but_private : Forbids → Forbids
but_private forbids = record forbids { private = false }

-- by what forbids it: where that is private, of fields alone which the reply leaves out, by the rest
abbrev pub forbidden_sections : Forbids → Bool → List ℕ
forbidden_sections forbids leaves_out =
    if forbids_nothing forbids then no_response else
    (if leaves_out then (if forbids_nothing (but_private forbids) then of_private_fields else storing_sections (but_private forbids)) else storing_sections forbids)

abbrev pub answer_sections : Claim → Option ℕ → Option Forbids → Option Heads → List ℕ
answer_sections claim status None heads = before_recording
answer_sections claim status (Some forbids) None = before_recording
answer_sections claim status (Some forbids) (Some heads) =
    forbidden_sections (forbids_given claim status forbids) (leaves_out (codes "private") heads.response.fields claim.reply.head.fields)

abbrev pub end_sections : Claim → Option End → List ℕ
end_sections claim None = before_recording
end_sections claim (Some end) = answer_sections claim end.status end.forbids end.heads

abbrev pub unstored_sections : Explanation → List ℕ
unstored_sections explanation = end_sections explanation.claim (unstored_told explanation.ends)

-- ---- what is asked of a reply that is wrong

-- one of these responses keeps all rules
abbrev pub keeps_all : Reach → Bool
keeps_all reach = not (is_some reach.breaks)

abbrev pub keep_all : List Reach → Bool
keep_all reaches = list_any keeps_all reaches

abbrev pub is_not_forwarded : Reason → Bool
is_not_forwarded reason.NotForwarded = true
is_not_forwarded other = false

-- what went forward may be of the cache's own making; what was collapsed may be what was stored before its request
abbrev pub may_be : Explanation → Reason → Bool
may_be explanation reason =
    if is_not_forwarded reason then nat_le 500 explanation.claim.reply.head.status
    else keep_all explanation.before.named.items

-- the reply is wrong by that
abbrev pub is_breach : Shortfall → Reason → Bool
is_breach shortfall reason = reason_number (reason_of (rule_of shortfall)) == reason_number reason

-- the reply has the status and the body of that response
abbrev pub is_given_of : Claim → Option End → Bool
is_given_of claim None = false
is_given_of claim (Some end) = is_given claim (end_seen end)

-- a reply that went forward is to be that response, or gives it: a 304 behind the request validated it, or it has its status and body
abbrev pub stands_for : Explanation → Nearest → Bool
stands_for explanation nearest =
    nat_lt explanation.claim.since (unwrap_or nearest.state.now.validated_at 0)
    || is_given_of explanation.claim (source_among nearest.position explanation.ends.sources.items)

-- by the reason alone
abbrev pub IsAskedByReason : Explanation → Reason → List ℕ → Type 0
IsAskedByReason explanation reason sections = sections ≡ reason_sections reason (may_be explanation reason)

-- by the way in which the response that is named falls short, if that bears on it
abbrev pub IsAskedIf : Bool → Explanation → Reason → Nearest → Shortfall → List ℕ → Type 0
IsAskedIf true explanation reason nearest shortfall sections = IsAskedOf explanation nearest shortfall sections
IsAskedIf false explanation reason nearest shortfall sections = IsAskedByReason explanation reason sections

abbrev pub IsAskedByShortfall : Explanation → Reason → Bool → Nearest → Option Shortfall → List ℕ → Type 0
IsAskedByShortfall explanation reason is_forwarded nearest None sections = IsAskedByReason explanation reason sections
IsAskedByShortfall explanation reason is_forwarded nearest (Some shortfall) sections =
    IsAskedIf (is_breach shortfall reason || (is_forwarded && stands_for explanation nearest)) explanation reason nearest shortfall sections

abbrev pub IsAskedByResponse : Explanation → Reason → Bool → Option Nearest → List ℕ → Type 0
IsAskedByResponse explanation reason is_forwarded None sections = IsAskedByReason explanation reason sections
IsAskedByResponse explanation reason is_forwarded (Some nearest) sections =
    IsAskedByShortfall explanation reason is_forwarded nearest nearest.shortfall sections

-- where nothing is stored: of another method than GET and HEAD, or by what forbids to store what it gives
abbrev pub nothing_stored_sections : Unstored → Explanation → List ℕ
nothing_stored_sections OtherMethod explanation = codes "RFC 9111 section 4"
nothing_stored_sections (Forbidden forbids) explanation = unstored_sections explanation
nothing_stored_sections Forgotten explanation = unstored_sections explanation
nothing_stored_sections Unrecorded explanation = unstored_sections explanation

abbrev pub IsAskedBy : Explanation → Reason → Option Why → List ℕ → Type 0
IsAskedBy explanation reason (Some (NoResponse unstored)) sections = sections ≡ nothing_stored_sections unstored explanation
IsAskedBy explanation reason (Some (NotForwarded window)) sections = IsAskedByResponse explanation reason true explanation.nearest sections
IsAskedBy explanation reason other sections = IsAskedByResponse explanation reason false explanation.nearest sections

-- by the first of these that is there: an answer of its own that is marked as a hit, what RFCs permit, and what is wrong
pub record IsDemanded (explanation : Explanation) (reason : Reason) (sections : List ℕ) : Type 0 where
  pub own : has_own_answer explanation ≡ true → sections ≡ codes "RFC 9211 section 2.1"
  pub permitted : has_own_answer explanation ≡ false → IfSome explanation.permitted (λ demand. sections ≡ demand.sections.now)
  pub asked : has_own_answer explanation ≡ false → explanation.permitted ≡ None → IsAskedBy explanation reason explanation.why sections
