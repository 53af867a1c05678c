-- What was due in place of a reply, and which ends of forwards are told of with it: the latest of its window, which lies behind the position of its request.
use Rattle.std.specs.Prelude.{◌==◌, ◌&&◌, ℕ, Bool, true, false, nat_le, nat_lt, List, [], ◌∷◌, Option, Some, None, option_copied, if◌then◌else◌}
use Rattle.std.specs.List.{list_any}
use Rattle.std.specs.Option.{option_map}
use Rattle.hc_head.specs.declared.head.Target.{Target}
use Rattle.hc_head.specs.Statuses.{is_error_status}
use Rattle.hc_head.specs.Targets.{same_target}
use Rattle.hc_shown.specs.declared.teller.RecordName.{RecordName}
use Rattle.hc_transcript.specs.Records.{told_in}
use Rattle.hc_transcript.specs.Items.{Forward, Item, OriginFailure, OriginResponse}
use Rattle.hc_transcript.specs.History.{cause_of, forward_of, next_position}
use Rattle.hc_history.specs.Claims.{Claim}
use Rattle.hc_history.specs.Forwarded.{asks_the_same, is_carried}
use Rattle.hc_history.specs.Windows.{is_error, is_failure, may_be_for}
use Rattle.hc_why.specs.declared.changes.Due.{Due}
use Rattle.hc_why.specs.declared.changes.Due.TheVariants as dues
use Rattle.hc_why.specs.declared.changes.Ends.{Ends}
use Rattle.hc_past.specs.declared.past.End.{End}
use Rattle.hc_past.specs.declared.shortfalls.Nearest.{Nearest}
use Rattle.hc_past.specs.Remembered.{EndSeen, name_behind, carries_answer, is_error_by_status, may_answer}

-- ---- by the history

-- the latest item behind a position that passes a test, if one does; the test is told the history before the item
abbrev pub latest_since : (List Item → Item → Bool) → ℕ → List Item → Option RecordName
latest_since test since [] = None
latest_since test since (item ∷ h) =
    if nat_lt since (next_position h) && test h item then Some (name_behind h item) else latest_since test since h

-- what was due: an answer of the origin, which may be another 5xx than an error; or the error by which it answered; or an error of the cache's own for a failure
pub data DueAt : Type 0 where
  Answer : (is_error : Bool) → DueAt
  Error : (name : RecordName) → DueAt
  Failure : (name : RecordName) → DueAt

-- the same by the end of a forward: its record, and the status of the response, which a failure hasn't
abbrev pub due_by : RecordName → Option ℕ → DueAt
due_by name None = Failure name
due_by name (Some status) = if is_error_status status then Error name else Answer (nat_le 500 status)

-- whether an open forward of the claim's target was made for its exchange, as far as that is told, and asks what its request asks
abbrev pub is_asked_for : Claim → Option ℕ → Option Forward → Bool
is_asked_for claim cause None = false
is_asked_for claim cause (Some forward) =
    same_target forward.target claim.target
    && (may_be_for (told_in claim.format cause) claim.exchange && asks_the_same claim forward.request.method)

-- what an item makes of what is due: the end of such a forward, whatever was due before
abbrev pub due_after : Claim → List Item → Item → DueAt → DueAt
due_after claim h (OriginResponse number moment response) before =
    if is_asked_for claim (cause_of number h) (forward_of number h) then due_by (name_behind h (OriginResponse number moment response)) (Some response.head.status)
    else before
due_after claim h (OriginFailure number moment) before =
    if is_asked_for claim (cause_of number h) (forward_of number h) then due_by (name_behind h (OriginFailure number moment)) None else before
due_after claim h item before = before

-- what is due by the items behind the claim's request; an answer where no such forward ended there
abbrev pub due_since : Claim → List Item → DueAt
due_since claim [] = Answer false
due_since claim (item ∷ h) =
    if nat_lt claim.since (next_position h) then due_after claim h item (due_since claim h) else due_since claim h

-- what is told of the window: the latest response that the reply carries, the latest error of the origin and the latest failure, to whatever request of the target, and what was due
pub record Told : Type 0 where
  pub carried : Option RecordName
  pub error : Option RecordName
  pub failure : Option RecordName
  pub due : DueAt

abbrev pub told_in_window : Claim → List Item → Told
told_in_window claim h = record {
  carried = latest_since (is_carried claim) claim.since h;
  error = latest_since (is_error claim.target) claim.since h;
  failure = latest_since (is_failure claim.target) claim.since h;
  due = due_since claim h;
}

-- ---- by the ends that are remembered, the oldest first

abbrev pub is_failure_by_status : Option ℕ → Bool
is_failure_by_status None = true
is_failure_by_status (Some status) = false

-- what one of the window makes of what is told
abbrev pub told_by : Claim → Told → EndSeen → Told
told_by claim told end = record {
  carried = if may_answer claim end && carries_answer claim end.method end.status end.body then Some end.name else told.carried;
  error = if is_error_by_status end.status then Some end.name else told.error;
  failure = if is_failure_by_status end.status then Some end.name else told.failure;
  due = if may_answer claim end && asks_the_same claim end.method then due_by end.name end.status else told.due;
}

-- whether it is one of the window: behind the request, and of the claim's target
abbrev pub is_in_window : Claim → EndSeen → Bool
is_in_window claim end = nat_lt claim.since end.name.position && same_target end.target claim.target

abbrev pub told_after : Claim → Told → EndSeen → Told
told_after claim told end = if is_in_window claim end then told_by claim told end else told

abbrev pub told_by_all : Claim → Told → List EndSeen → Told
told_by_all claim told [] = told
told_by_all claim told (end ∷ ends) = told_by_all claim (told_after claim told end) ends

-- nothing
abbrev pub none_told : Told
none_told = record { carried = None; error = None; failure = None; due = Answer false }

-- ---- what validated the response that is named

-- whether it is of that target, and stands there
abbrev pub is_end_at : Target → ℕ → EndSeen → Bool
is_end_at target place end = end.name.position == place && same_target end.target target

-- that place, if there is one, and such an end stands there
abbrev pub place_among : Target → Option ℕ → List EndSeen → Option ℕ
place_among target None ends = None
place_among target (Some place) ends = if list_any (is_end_at target place) ends then Some place else None

-- where the response was validated last, if one is named, and was
abbrev pub validated_in : Option Nearest → Option ℕ
validated_in None = None
validated_in (Some nearest) = nearest.state.now.validated_at

-- ---- what an explanation tells

-- its record
abbrev pub name_of_end : Option End → Option RecordName
name_of_end end = option_map (λ e. e.named) end

-- where it stands
abbrev pub place_of_end : Option End → Option ℕ
place_of_end end = option_map (λ e. e.named.position) end

abbrev pub due_at : Due → DueAt
due_at (dues.Answer is_error) = Answer is_error
due_at (dues.Error end) = Error end.now.named
due_at (dues.Failure end) = Failure end.now.named

-- the origin answered the request by a 5xx
abbrev pub is_after_error : DueAt → Bool
is_after_error (Answer is_error) = is_error
is_after_error (Error name) = true
is_after_error (Failure name) = false

abbrev pub told_of : Ends → Told
told_of ends = record {
  carried = name_of_end (option_copied ends.carried);
  error = name_of_end (option_copied ends.error);
  failure = name_of_end (option_copied ends.failure);
  due = due_at ends.due;
}
