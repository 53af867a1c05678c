-- What each kind of item makes of plain lists.
use Rattle.std.proofs.Common.{◌≡◌, ℕ, Bool, true, false, ◌&&◌, cond, List, [], ◌++◌, Option, Some, None, map, refl, ap, ◌∙◌}
use Rattle.std.proofs.lemmas.List.{append-nil}
use Rattle.hc_head.specs.declared.head.ResponseHead.{ResponseHead}
use Rattle.hc_head.specs.declared.head.Target.{Target}
use Rattle.hc_head.specs.Targets.{same_target}
use Rattle.hc_framing.specs.declared.message.Message.{Message}
use Rattle.hc_transcript.specs.declared.format.Format.{Format}
use Rattle.hc_transcript.specs.Records.{told_in}
use Rattle.hc_transcript.specs.Items.{OriginResponse, Forward}
use Rattle.hc_rules.specs.Storing.{may_store}
use Rattle.hc_update.specs.States.{initial_state}
use Rattle.hc_history.specs.States.{begun_by}
use Rattle.hc_head.specs.Statuses.{is_error_status}
use Rattle.hc_history.specs.Windows.{is_forward_of}
use Rattle.hc_history.specs.Seen.{Live, live_at}
use Rattle.hc_history.specs.Noting.{live_answered, lives_answered, added_to_window, Notes}
use Rattle.hc_index.specs.declared.kept.LiveResponse.{LiveResponse}
use Rattle.hc_index.specs.declared.kept.RecordedForward.{RecordedForward}
use Rattle.hc_index.specs.declared.list_index.ListIndex.{ListIndex}
use Rattle.hc_index.specs.Forwards.{Takes}
use Rattle.hc_index.specs.Lists.{watched_exchange, forward_seen, live_in, open_in, window_of, position_in, watched, watched_answered, targeted, targeted_answered, seen_in}
use Rattle.hc_index.proofs.OpenLemmas.{exchange_answered, window_answered}
use Rattle.hc_index.proofs.LiveLemmas.{lives_answered_in}

-- what a response to a forward of another target begins isn't of this one
begun_elsewhere : (target : Target) (forward : Forward) (position moment : ℕ) (response : Message ResponseHead) (stores : Bool) → same_target forward.target target ≡ false
    → live_at target position (cond stores (Some (record { target = forward.target; state = initial_state forward.request forward.moment response moment })) None) ≡ []
begun_elsewhere target forward position moment response true other = rw other refl
begun_elsewhere target forward position moment response false other = refl

answered_and_begun : (b : Bool) (target : Target) (forward : Forward) (position moment : ℕ) (response : Message ResponseHead) (lives : List Live) → same_target forward.target target ≡ b
    → cond b (map (live_answered forward position moment response) lives) lives ++ live_at target position (begun_by forward moment response)
    ≡ cond b (map (live_answered forward position moment response) lives ++ live_at target position (begun_by forward moment response)) lives
answered_and_begun true target forward position moment response lives is = refl
answered_and_begun false target forward position moment response lives is =
    ap (λ (ls : List Live). lives ++ ls) (begun_elsewhere target forward position moment response (may_store forward.request response.head) is) ∙ append-nil lives

-- what a response to an open forward makes of all that is kept
pub record Answers (format : Format) (old : ListIndex) (forward : RecordedForward) (number position moment : ℕ) (response : Message ResponseHead) (mid : List LiveResponse) (new : ListIndex) : Type 0 where
  pub forwards : Takes number (Some forward) old.forwards new.forwards
  pub errors : (target : Target) → position_in target new.errors
      ≡ cond (is_error_status response.head.status && same_target forward.target target) position (position_in target old.errors)
  pub exchanges : map watched new.exchanges.items ≡ map (watched_answered (forward_seen forward) (told_in format forward.cause) response) (map watched old.exchanges.items)
  pub answered : map targeted mid ≡ map (targeted_answered (forward_seen forward) position moment response) (map targeted old.lives.items)
  pub begun : (target : Target) → live_in target new.lives.items ≡ live_in target mid ++ live_at target position (begun_by (forward_seen forward) moment response)
  pub failures : new.failures ≡ old.failures

pub notes_answer : (format : Format) (old new : ListIndex) (forward : RecordedForward) (number position moment : ℕ) (response : Message ResponseHead) (mid : List LiveResponse)
    → Answers format old forward number position moment response mid new → Notes format (seen_in old) position (OriginResponse number moment response) (seen_in new)
notes_answer format old new forward number position moment response mid a =
    let is = a.forwards.was_open in
    let cause = a.forwards.its_cause in
    record {
      live = λ target. a.begun target
          ∙ ap (λ (ls : List Live). ls ++ live_at target position (begun_by (forward_seen forward) moment response))
          (lives_answered_in target (forward_seen forward) position moment response old.lives.items mid a.answered)
          ∙ answered_and_begun (same_target forward.target target) target (forward_seen forward) position moment response (live_in target old.lives.items) refl
          ∙ ap (λ (o : Option Forward). lives_answered target o position moment response (live_in target old.lives.items)) is;
      exchange = λ e. exchange_answered (forward_seen forward) (told_in format forward.cause) response e old.exchanges.items new.exchanges.items a.exchanges;
      forward = a.forwards.forward;
      cause = a.forwards.cause;
      window = λ e. window_answered format (forward_seen forward) forward.cause response e old.exchanges.items new.exchanges.items a.exchanges
          ∙ (λ i. window_of (open_in e old.exchanges.items) ++ added_to_window format (watched_exchange (open_in e old.exchanges.items)) (is i) (cause i) response);
      has_forward = a.forwards.has_forward;
      error = λ target. a.errors target
          ∙ ap (λ (o : Option Forward). cond (is_error_status response.head.status && is_forward_of target o) position (position_in target old.errors)) is;
      failure = λ target. ap (position_in target) a.failures;
    }
