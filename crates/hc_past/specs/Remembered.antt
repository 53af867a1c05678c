-- How the forwards before a reply ended, and what is remembered of that.
use Rattle.std.specs.Prelude.{◌≡◌, ◌==◌, ◌&&◌, ◌-◌, ℕ, drop, length, take, Bool, true, false, is_some, IsSome, nat_le, nat_lt, List, [], ◌∷◌, ◌++◌, map, Option, Some, None, bytes_eq, if◌then◌else◌}
use Rattle.std.specs.BTreeMap.{btree_map_len, get}
use Rattle.std.specs.List.{fold}
use Rattle.std.specs.Map.{remove_entry}
use Rattle.std.specs.Ordering.{nat_cmp}
use Rattle.hc_fields.specs.declared.fields.Field.{Field}
use Rattle.hc_fields.specs.Values.{has_name}
use Rattle.hc_framing.specs.declared.message.Message.{Message}
use Rattle.hc_head.specs.declared.head.RequestHead.{RequestHead}
use Rattle.hc_head.specs.declared.head.ResponseHead.{ResponseHead}
use Rattle.hc_head.specs.declared.head.Target.{Target}
use Rattle.hc_head.specs.Methods.{is_head}
use Rattle.hc_head.specs.Statuses.{is_error_status}
use Rattle.hc_head.specs.Targets.{same_target}
use Rattle.hc_shown.specs.declared.teller.RecordName.{RecordName}
use Rattle.hc_transcript.specs.declared.line.Kind.{Kind}
use Rattle.hc_transcript.specs.declared.line.Kind.TheVariants as kind
use Rattle.hc_transcript.specs.Items.{ClientReply, ClientRequest, Exchange, Forward, Item, OriginFailure, OriginRequest, OriginResponse}
use Rattle.hc_transcript.specs.History.{cause_of, exchange_of, forward_of, next_position}
use Rattle.hc_transcript.specs.Records.{told_in}
use Rattle.hc_history.specs.Claims.{Claim}
use Rattle.hc_history.specs.Forwarded.{carries}
use Rattle.hc_history.specs.Windows.{may_be_for}
use Rattle.hc_gaps.specs.Contents.{has_body}
use Rattle.hc_use.specs.declared.storing.Forbids.{Forbids}
use Rattle.hc_use.specs.Forbidding.{forbids_nothing, forbids_of}
use Rattle.hc_past.specs.declared.past.Asked.{Asked}
use Rattle.hc_past.specs.declared.past.End.{End}
use Rattle.hc_past.specs.declared.past.Heads.{Heads}
use Rattle.hc_past.specs.declared.past.Past.{Past}

-- ---- how records are named

abbrev pub named_as : Kind → ℕ → ℕ → ℕ → RecordName
named_as of position number moment = record { position = position; kind = of; number = number; moment = moment }

-- the record that the item behind others is
abbrev pub name_behind : List Item → Item → RecordName
name_behind h (ClientRequest number moment request target) = named_as kind.ClientRequest (next_position h) number moment
name_behind h (OriginRequest number moment request target cause) = named_as kind.OriginRequest (next_position h) number moment
name_behind h (OriginResponse number moment response) = named_as kind.OriginResponse (next_position h) number moment
name_behind h (OriginFailure number moment) = named_as kind.OriginFailure (next_position h) number moment
name_behind h (ClientReply number moment reply) = named_as kind.ClientReply (next_position h) number moment

-- ---- how forwards ended

-- the end of a forward, a response or a failure: its record, what the forward asked for, the exchange that it was made for, if that is told, and of a response the status and the body
pub record EndSeen : Type 0 where
  pub name : RecordName
  pub target : Target
  pub method : List ℕ
  pub cause : Option ℕ
  pub status : Option ℕ
  pub body : Option (List ℕ)

-- with an answer, if there is one
abbrev pub answered_by : Option (Message ResponseHead) → EndSeen → EndSeen
answered_by None end = end
answered_by (Some response) end = record end { status = Some response.head.status; body = Some response.body }

-- the end of an open forward: with that answer, or else as a failure
abbrev pub end_by : RecordName → Option ℕ → Option (Message ResponseHead) → Forward → EndSeen
end_by name cause answer forward = answered_by answer record {
  name = name;
  target = forward.target;
  method = forward.request.method;
  cause = cause;
  status = None;
  body = None;
}

-- the same behind others, if the forward was open, and asked for that path, whatever its host
abbrev pub ends_with : List ℕ → RecordName → Option ℕ → Option (Message ResponseHead) → Option Forward → List EndSeen → List EndSeen
ends_with path name cause answer None before = before
ends_with path name cause answer (Some forward) before =
    if bytes_eq forward.target.path path then before ++ end_by name cause answer forward ∷ [] else before

-- what an item makes of them: a response and a failure end the forward of their number
abbrev pub ends_after : List ℕ → List Item → Item → List EndSeen → List EndSeen
ends_after path h (OriginResponse number moment response) before =
    ends_with path (named_as kind.OriginResponse (next_position h) number moment) (cause_of number h) (Some response) (forward_of number h) before
ends_after path h (OriginFailure number moment) before =
    ends_with path (named_as kind.OriginFailure (next_position h) number moment) (cause_of number h) None (forward_of number h) before
ends_after path h item before = before

-- all ends of forwards for a path, the oldest first
abbrev pub ends_of : List ℕ → List Item → List EndSeen
ends_of path [] = []
ends_of path (item ∷ h) = ends_after path h item (ends_of path h)

-- what an item makes of all of them, whatever they asked for
abbrev pub any_ends_with : RecordName → Option ℕ → Option (Message ResponseHead) → Option Forward → List EndSeen → List EndSeen
any_ends_with name cause answer None before = before
any_ends_with name cause answer (Some forward) before = before ++ end_by name cause answer forward ∷ []

abbrev pub any_ends_after : List Item → Item → List EndSeen → List EndSeen
any_ends_after h (OriginResponse number moment response) before =
    any_ends_with (named_as kind.OriginResponse (next_position h) number moment) (cause_of number h) (Some response) (forward_of number h) before
any_ends_after h (OriginFailure number moment) before =
    any_ends_with (named_as kind.OriginFailure (next_position h) number moment) (cause_of number h) None (forward_of number h) before
any_ends_after h item before = before

-- all ends of forwards, the oldest first
abbrev pub all_ends : List Item → List EndSeen
all_ends [] = []
all_ends (item ∷ h) = any_ends_after h item (all_ends h)

-- ---- what is remembered

-- what is seen of an end
abbrev pub end_seen : End → EndSeen
end_seen end = record {
  name = end.named;
  target = end.target;
  method = end.method;
  cause = end.cause;
  status = end.status;
  body = end.body;
}

-- of the path of that target alone these ends are remembered
pub record Remembers (target : Target) (ends : List EndSeen) (past : Past) : Type 0 where
  pub one_target : past.only ≡ Some target
  pub all : map end_seen past.ends.items ≡ ends

-- all that the items have for that path
abbrev pub IsPastOf : Target → List Item → Past → Type 0
IsPastOf target h past = Remembers target (ends_of target.path h) past

-- ---- what is remembered of all targets

-- how many ends are
abbrev pub most_ends : ℕ
most_ends = 1024

-- a body, if it isn't too long
abbrev pub short_body : Option (List ℕ) → Option (List ℕ)
short_body None = None
short_body (Some body) = if nat_le (length body) 16384 then Some body else None

-- an end with its body, if that isn't too long
abbrev pub short_end : EndSeen → EndSeen
short_end end = record end { body = short_body end.body }

-- the position of the last of these; 0 where there is none
abbrev pub last_place : List EndSeen → ℕ
last_place ends = fold (λ before end. end.name.position) 0 ends

-- the latest of these ends are remembered, so many at most, and the position of the last one before them
pub record RemembersLatest (most : ℕ) (ends : List EndSeen) (past : Past) : Type 0 where
  pub all_targets : past.only ≡ None
  pub latest : map end_seen past.ends.items ≡ drop (length ends - most) (map short_end ends)
  pub forgotten : past.forgotten ≡ last_place (take (length ends - most) ends)

-- what forbids to store that answer to that request, if something does
abbrev pub forbidden_by : RequestHead → ResponseHead → Option Forbids
forbidden_by request answer = if forbids_nothing (forbids_of request answer) then None else Some (forbids_of request answer)

-- with what forbids to store the latest response of a target, if something does
abbrev pub forbidden_first : Target → Option Forbids → List (Target × Forbids) → List (Target × Forbids)
forbidden_first target None before = before
forbidden_first target (Some forbids) before = (target, forbids) ∷ remove_entry (same_target target) before

-- what an answer to that request for a target makes of them
abbrev pub forbidden_with : Target → RequestHead → Option (Message ResponseHead) → List (Target × Forbids) → List (Target × Forbids)
forbidden_with target request None before = before
forbidden_with target request (Some answer) before = forbidden_first target (forbidden_by request answer.head) before

-- the same of an open forward
abbrev pub forbidden_to : Option (Message ResponseHead) → Option Forward → List (Target × Forbids) → List (Target × Forbids)
forbidden_to answer None before = before
forbidden_to answer (Some forward) before = forbidden_with forward.target forward.request answer before

abbrev pub forbidden_after : List Item → Item → List (Target × Forbids) → List (Target × Forbids)
forbidden_after h (OriginResponse number moment response) before = forbidden_to (Some response) (forward_of number h) before
forbidden_after h item before = before

-- the targets with a response that may not be stored, and what forbids to store the latest such one, the latest first
abbrev pub all_forbidden : List Item → List (Target × Forbids)
all_forbidden [] = []
all_forbidden (item ∷ h) = forbidden_after h item (all_forbidden h)

-- of how many targets that is remembered
abbrev pub most_targets : ℕ
most_targets = 4096

-- of the latest of these targets it is remembered, and whether there are more
pub record RemembersForbidden (all : List (Target × Forbids)) (past : Past) : Type 0 where
  pub all_targets : past.only ≡ None
  pub latest : past.forbidden.entries ≡ take most_targets all
  pub more : past.has_forgotten_target ≡ nat_lt most_targets (length all)

-- those of all that the items have
abbrev pub IsLatestOf : List Item → Past → Type 0
IsLatestOf h past = RemembersLatest most_ends (all_ends h) past

-- ---- what else is remembered of one target

-- the head of a request, but for how its target is written
abbrev pub without_target : RequestHead → RequestHead
without_target head = record head { target = [] }

-- the head of a forward, and that of the response to it
pub record HeadsSeen : Type 0 where
  pub forward : RequestHead
  pub response : ResponseHead

-- what else is known of the end of a forward: the record of the forward, and of a response what forbids to store it, if something does, and both heads
pub record EndKnown : Type 0 where
  pub sent : Option RecordName
  pub forbids : Option Forbids
  pub heads : Option HeadsSeen

-- with an answer to that request, if there is one
abbrev pub known_with : RequestHead → Option (Message ResponseHead) → EndKnown → EndKnown
known_with request None known = known
known_with request (Some response) known = record known {
  forbids = forbidden_by request response.head;
  heads = Some (record { forward = without_target request; response = response.head });
}

-- of the end of an open forward
abbrev pub known_by : Option RecordName → Option (Message ResponseHead) → Forward → EndKnown
known_by sent answer forward = known_with forward.request answer (record { sent = sent; forbids = None; heads = None })

-- behind others, if the forward was open, and asked for that path
abbrev pub all_known_with : List ℕ → Option RecordName → Option (Message ResponseHead) → Option Forward → List EndKnown → List EndKnown
all_known_with path sent answer None before = before
all_known_with path sent answer (Some forward) before =
    if bytes_eq forward.target.path path then before ++ known_by sent answer forward ∷ [] else before

-- what an item makes of the record of the open forward of a number
abbrev pub sent_after : ℕ → List Item → Item → Option RecordName → Option RecordName
sent_after f h (OriginRequest number moment request target cause) before =
    if number == f then Some (named_as kind.OriginRequest (next_position h) number moment) else before
sent_after f h (OriginResponse number moment response) before = if number == f then None else before
sent_after f h (OriginFailure number moment) before = if number == f then None else before
sent_after f h item before = before

-- the record of the open forward of a number
abbrev pub sent_of : ℕ → List Item → Option RecordName
sent_of f [] = None
sent_of f (item ∷ h) = sent_after f h item (sent_of f h)

-- the same, if it asked for that path
abbrev pub sent_by : List ℕ → Option Forward → Option RecordName → Option RecordName
sent_by path None sent = None
sent_by path (Some forward) sent = if bytes_eq forward.target.path path then sent else None

abbrev pub open_sent : List ℕ → List Item → ℕ → Option RecordName
open_sent path h f = sent_by path (forward_of f h) (sent_of f h)

-- what an item makes of what is known of all ends for a path
abbrev pub all_known_after : List ℕ → List Item → Item → List EndKnown → List EndKnown
all_known_after path h (OriginResponse number moment response) before = all_known_with path (sent_of number h) (Some response) (forward_of number h) before
all_known_after path h (OriginFailure number moment) before = all_known_with path (sent_of number h) None (forward_of number h) before
all_known_after path h item before = before

-- what is known of each, the oldest first
abbrev pub all_known_of : List ℕ → List Item → List EndKnown
all_known_of path [] = []
all_known_of path (item ∷ h) = all_known_after path h item (all_known_of path h)

-- what is seen of heads
abbrev pub heads_seen : Option Heads → Option HeadsSeen
heads_seen None = None
heads_seen (Some heads) = Some (record { forward = heads.forward; response = heads.response })

abbrev pub end_known : End → EndKnown
end_known end = record { sent = end.sent; forbids = end.forbids; heads = heads_seen end.heads }

-- of the path of that target alone the records of the open forwards are remembered, and what is known of the ends
pub record RemembersKnown (target : Target) (sent : ℕ → Option RecordName) (known : List EndKnown) (past : Past) : Type 0 where
  pub one_target : past.only ≡ Some target
  pub sent_now : (f : ℕ) → get nat_cmp past.sent f ≡ sent f
  pub all : map end_known past.ends.items ≡ known

-- as the items have them
abbrev pub IsKnownOf : Target → List Item → Past → Type 0
IsKnownOf target h past = RemembersKnown target (open_sent target.path h) (all_known_of target.path h) past

-- ---- which requests wait

-- what is remembered of an exchange, if it is open, and for that path: the position of its request, and its fields
abbrev pub asked_by : List ℕ → Option Exchange → Option Asked
asked_by path None = None
asked_by path (Some exchange) =
    if bytes_eq exchange.target.path path then Some (record { position = exchange.position; fields = exchange.request.fields }) else None

-- what an item makes of the position of the latest reply to an open exchange for that path
abbrev pub answered_after : List ℕ → List Item → Item → ℕ → ℕ
answered_after path h (ClientReply number moment reply) before = if is_some (asked_by path (exchange_of number h)) then next_position h else before
answered_after path h item before = before

-- that position; 0 where there is none
abbrev pub answered_of : List ℕ → List Item → ℕ
answered_of path [] = 0
answered_of path (item ∷ h) = answered_after path h item (answered_of path h)

-- of the open exchanges those for the path of that target are remembered, and the position of the latest reply to one of these
pub record HasAsked (target : Target) (h : List Item) (past : Past) : Type 0 where
  pub one_target : past.only ≡ Some target
  pub asked : (e : ℕ) → get nat_cmp past.asked e ≡ asked_by target.path (exchange_of e h)
  pub answered : past.answered ≡ answered_of target.path h

-- no reply to an exchange for that path stands at that position or behind it, and no two of them are open
pub record IsAlone (path : List ℕ) (since : ℕ) (h : List Item) : Type 0 where
  pub answered : nat_lt (answered_of path h) since ≡ true
  pub one_open : (e f : ℕ) → IsSome (asked_by path (exchange_of e h)) → IsSome (asked_by path (exchange_of f h)) → e ≡ f

-- whether, by what is remembered of one target, no reply to an exchange of it stands at that position or behind it, and no more than one request waits
abbrev pub is_alone : ℕ → Past → Bool
is_alone since past = nat_lt past.answered since && nat_le (btree_map_len past.asked) 1

-- the fields of an answer, where its head is remembered
abbrev pub fields_in : Option Heads → Option (List Field)
fields_in None = None
fields_in (Some heads) = Some heads.response.fields

-- whether fields that are known have a line of that name
abbrev pub has_field : List ℕ → Option (List Field) → Bool
has_field name None = false
has_field name (Some fields) = has_name name fields

-- ---- what one is to a reply

-- whether it is an error of the origin
abbrev pub is_error_by_status : Option ℕ → Bool
is_error_by_status None = false
is_error_by_status (Some status) = is_error_status status

-- whether it is a 200
abbrev pub is_ok_by_status : Option ℕ → Bool
is_ok_by_status None = false
is_ok_by_status (Some status) = status == 200

-- whether it is a 200 to HEAD
abbrev pub is_ok_to_head : EndSeen → Bool
is_ok_to_head end = is_head end.method && is_ok_by_status end.status

-- whether it is of the claim's target, and stands behind the request
abbrev pub is_in_window : Claim → EndSeen → Bool
is_in_window claim end = nat_lt claim.since end.name.position && same_target end.target claim.target

-- whether its forward was made for the claim's exchange, as far as that is told
abbrev pub may_answer : Claim → EndSeen → Bool
may_answer claim end = may_be_for (told_in claim.format end.cause) claim.exchange

-- whether the reply carries what is known of an answer
abbrev pub carries_answer : Claim → List ℕ → Option ℕ → Option (List ℕ) → Bool
carries_answer claim method None body = false
carries_answer claim method (Some status) None = false
carries_answer claim method (Some status) (Some body) = carries claim method status body

-- whether the reply has that status and that body, or no body where the request is HEAD
abbrev pub gives_answer : Claim → Option ℕ → Option (List ℕ) → Bool
gives_answer claim None body = false
gives_answer claim (Some status) None = false
gives_answer claim (Some status) (Some body) = claim.reply.head.status == status && has_body claim.request.method claim.reply.body body

-- whether it has the status of an answer and its body
abbrev pub is_given : Claim → EndSeen → Bool
is_given claim end = gives_answer claim end.status end.body
