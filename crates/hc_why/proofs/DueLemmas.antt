-- What is told of a window by the ends of forwards that are remembered is so by the items.
use Rattle.std.proofs.Common.{◌≡◌, ◌+◌, ◌<◌, ℕ, Bool, true, false, nat_lt, List, [], ◌∷◌, ◌++◌, Option, Some, None, drop, get_or, length, map, refl, sym, ap, ◌∙◌, subst}
use Rattle.std.specs.Prelude.{◌&&◌, bytes_eq, if◌then◌else◌}
use Rattle.std.proofs.lemmas.List.{drop_more}
use Rattle.hc_head.specs.declared.head.ResponseHead.{ResponseHead}
use Rattle.hc_head.specs.Statuses.{is_error_status}
use Rattle.hc_head.specs.Targets.{same_target}
use Rattle.hc_framing.specs.declared.message.Message.{Message}
use Rattle.hc_shown.specs.declared.teller.RecordName.{RecordName}
use Rattle.hc_transcript.specs.Records.{told_in}
use Rattle.hc_transcript.specs.Items.{Forward, Item, ClientReply, ClientRequest, OriginFailure, OriginRequest, OriginResponse}
use Rattle.hc_transcript.specs.History.{cause_of, forward_of, next_position}
use Rattle.hc_history.specs.Claims.{Claim}
use Rattle.hc_history.specs.Forwarded.{asks_the_same, carries, carries_response}
use Rattle.hc_history.specs.Windows.{is_forward_of, may_be_for}
use Rattle.hc_why.specs.Due.{DueAt, Told, due_by, is_asked_for, is_in_window, none_told, told_after, told_by, told_by_all, told_in_window}
use Rattle.hc_past.specs.declared.past.End.{End}
use Rattle.hc_past.specs.Remembered.{EndSeen, end_by, end_seen, ends_of, ends_with, name_behind}

pub told_append : (claim : Claim) (told : Told) (one other : List EndSeen)
    → told_by_all claim told (one ++ other) ≡ told_by_all claim (told_by_all claim told one) other
told_append claim told [] other = refl
told_append claim told (end ∷ one) other = told_append claim (told_after claim told end) one other

-- behind an end more
pub end_told : (claim : Claim) (before after all : Told) (ends : List End) (i : ℕ) (d : End) → i < length ends
    → after ≡ told_after claim before (end_seen (get_or ends i d))
    → told_by_all claim before (map end_seen (drop i ends)) ≡ all → told_by_all claim after (map end_seen (drop (i + 1) ends)) ≡ all
end_told claim before after all ends i d within is was =
    ap (λ (told : Told). told_by_all claim told (map end_seen (drop (i + 1) ends))) is
    ∙ sym (ap (λ (left : List End). told_by_all claim before (map end_seen left)) (drop_more ends i d within))
    ∙ was

-- ---- one item more, by tests of it: whether it stands behind the request (w), is of the target (s), was made for the exchange (m), is what the reply carries (c), is an error (e), and asks the same (a)

abbrev told_if : RecordName → Told → Bool → Bool → Bool → Bool → DueAt → Told
told_if name before carried error failure is_due due = record {
  carried = if carried then Some name else before.carried;
  error = if error then Some name else before.error;
  failure = if failure then Some name else before.failure;
  due = if is_due then due else before.due;
}

abbrev told_then : Bool → RecordName → Told → Bool → Bool → Bool → Bool → DueAt → Told
told_then w name before carried error failure is_due due = record {
  carried = if w && carried then Some name else before.carried;
  error = if w && error then Some name else before.error;
  failure = if w && failure then Some name else before.failure;
  due = if w then (if is_due then due else before.due) else before.due;
}

-- none of these
nothing_told : (w m e : Bool) (name : RecordName) (before : Told) (due : DueAt) → told_then w name before (m && false) (e && false) false false due ≡ before
nothing_told false m e name before due = refl
nothing_told true true true name before due = refl
nothing_told true true false name before due = refl
nothing_told true false true name before due = refl
nothing_told true false false name before due = refl

nothing_failed : (w : Bool) (name : RecordName) (before : Told) (due : DueAt) → told_then w name before false false false false due ≡ before
nothing_failed false name before due = refl
nothing_failed true name before due = refl

-- a response
answer_told : (w s m c e a : Bool) (name : RecordName) (before : Told) (due : DueAt)
    → (if w && s then told_if name before (m && c) e false (m && a) due else before)
    ≡ told_then w name before (m && (s && c)) (e && s) false (s && (m && a)) due
answer_told false s m c e a name before due = refl
answer_told true true m c true a name before due = refl
answer_told true true m c false a name before due = refl
answer_told true false true c true a name before due = refl
answer_told true false true c false a name before due = refl
answer_told true false false c true a name before due = refl
answer_told true false false c false a name before due = refl

-- a failure
failure_told : (w s m a : Bool) (name : RecordName) (before : Told) (due : DueAt)
    → (if w && s then told_if name before (m && false) false true (m && a) due else before)
    ≡ told_then w name before false false s (s && (m && a)) due
failure_told false s m a name before due = refl
failure_told true true true a name before due = refl
failure_told true true false a name before due = refl
failure_told true false m a name before due = refl

-- another record
quiet : (w : Bool) (name : RecordName) (before : Told) → before ≡ told_then w name before false false false false before.due
quiet false name before = refl
quiet true name before = refl

-- ---- one end more

outside : (w : Bool) (one other : Told) → w ≡ false → (if w then one else other) ≡ other
outside true one other is = absurd cc
outside false one other is = refl

neither : (one other last : Bool) → last ≡ false → (one && (other && last)) ≡ false
neither false other last is = refl
neither true false last is = refl
neither true true last is = is

-- one of another path is of another target
of_another : (claim : Claim) (path : List ℕ) (name : RecordName) (cause : Option ℕ) (answer : Option (Message ResponseHead)) (forward : Forward)
    → claim.target.path ≡ path → bytes_eq forward.target.path path ≡ false → is_in_window claim (end_by name cause answer forward) ≡ false
of_another claim path name cause None forward same other =
    neither _ _ _ (subst (λ (p : List ℕ). bytes_eq forward.target.path p ≡ false) (sym same) other)
of_another claim path name cause (Some response) forward same other =
    neither _ _ _ (subst (λ (p : List ℕ). bytes_eq forward.target.path p ≡ false) (sym same) other)

one_more : (claim : Claim) (b : Bool) (ends : List EndSeen) (end : EndSeen) (before : Told) → told_by_all claim none_told ends ≡ before
    → (b ≡ false → is_in_window claim end ≡ false) → told_by_all claim none_told (if b then ends ++ end ∷ [] else ends) ≡ told_after claim before end
one_more claim true ends end before is other =
    told_append claim none_told ends (end ∷ []) ∙ ap (λ (t : Told). told_after claim t end) is
one_more claim false ends end before is other = is ∙ sym (outside (is_in_window claim end) (told_by claim before end) before (other refl))

answered : (claim : Claim) (path : List ℕ) (name : RecordName) (cause : Option ℕ) (response : Message ResponseHead) (o : Option Forward) (ends : List EndSeen) (before : Told)
    → claim.target.path ≡ path → told_by_all claim none_told ends ≡ before
    → told_by_all claim none_told (ends_with path name cause (Some response) o ends)
    ≡ told_then (nat_lt claim.since name.position) name before (may_be_for (told_in claim.format cause) claim.exchange && carries_response claim o response)
    (is_error_status response.head.status && is_forward_of claim.target o) false (is_asked_for claim cause o) (due_by name (Some response.head.status))
answered claim path name cause response None ends before same is =
    is ∙ sym (nothing_told (nat_lt claim.since name.position) (may_be_for (told_in claim.format cause) claim.exchange) (is_error_status response.head.status) name before
    (due_by name (Some response.head.status)))
answered claim path name cause response (Some forward) ends before same is =
    one_more claim (bytes_eq forward.target.path path) ends (end_by name cause (Some response) forward) before is
    (of_another claim path name cause (Some response) forward same)
    ∙ answer_told (nat_lt claim.since name.position) (same_target forward.target claim.target) (may_be_for (told_in claim.format cause) claim.exchange)
    (carries claim forward.request.method response.head.status response.body) (is_error_status response.head.status) (asks_the_same claim forward.request.method)
    name before (due_by name (Some response.head.status))

failed : (claim : Claim) (path : List ℕ) (name : RecordName) (cause : Option ℕ) (o : Option Forward) (ends : List EndSeen) (before : Told)
    → claim.target.path ≡ path → told_by_all claim none_told ends ≡ before
    → told_by_all claim none_told (ends_with path name cause None o ends)
    ≡ told_then (nat_lt claim.since name.position) name before false false (is_forward_of claim.target o) (is_asked_for claim cause o) (due_by name None)
failed claim path name cause None ends before same is = is ∙ sym (nothing_failed (nat_lt claim.since name.position) name before (due_by name None))
failed claim path name cause (Some forward) ends before same is =
    one_more claim (bytes_eq forward.target.path path) ends (end_by name cause None forward) before is
    (of_another claim path name cause None forward same)
    ∙ failure_told (nat_lt claim.since name.position) (same_target forward.target claim.target) (may_be_for (told_in claim.format cause) claim.exchange)
    (asks_the_same claim forward.request.method) name before (due_by name None)

-- ---- all of them

pub window_is_told : (claim : Claim) (path : List ℕ) (h : List Item) → claim.target.path ≡ path
    → told_by_all claim none_told (ends_of path h) ≡ told_in_window claim h
window_is_told claim path [] same = refl
window_is_told claim path (ClientRequest number moment request target ∷ h) same =
    window_is_told claim path h same ∙ quiet (nat_lt claim.since (next_position h)) (name_behind h (ClientRequest number moment request target)) (told_in_window claim h)
window_is_told claim path (OriginRequest number moment request target cause ∷ h) same =
    window_is_told claim path h same ∙ quiet (nat_lt claim.since (next_position h)) (name_behind h (OriginRequest number moment request target cause)) (told_in_window claim h)
window_is_told claim path (OriginResponse number moment response ∷ h) same =
    answered claim path (name_behind h (OriginResponse number moment response)) (cause_of number h) response (forward_of number h) (ends_of path h) (told_in_window claim h) same
    (window_is_told claim path h same)
window_is_told claim path (OriginFailure number moment ∷ h) same =
    failed claim path (name_behind h (OriginFailure number moment)) (cause_of number h) (forward_of number h) (ends_of path h) (told_in_window claim h) same
    (window_is_told claim path h same)
window_is_told claim path (ClientReply number moment reply ∷ h) same =
    window_is_told claim path h same ∙ quiet (nat_lt claim.since (next_position h)) (name_behind h (ClientReply number moment reply)) (told_in_window claim h)
