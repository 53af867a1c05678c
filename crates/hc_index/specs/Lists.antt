-- What plain lists are seen as.
use Rattle.std.specs.Prelude.{◌≡◌, ◌≤◌, ◌<◌, ℕ, Bool, true, false, ◌==◌, ◌&&◌, ◌||◌, not, List, [], ◌++◌, filter, find, map, Option, Some, None, if◌then◌else◌}
use Rattle.std.specs.Option.{option_map}
use Rattle.std.specs.Ordering.{nat_cmp}
use Rattle.std.specs.BTreeMap.{BTreeMap, get}
use Rattle.std.specs.BTreeSet.{contains}
use Rattle.std.specs.declared.cmp.Ordering.{Ordering}
use Rattle.hc_head.specs.contracts.head.TargetOrd.TheImpl as target_order
use Rattle.hc_head.specs.declared.head.ResponseHead.{ResponseHead}
use Rattle.hc_head.specs.declared.head.Target.{Target}
use Rattle.hc_head.specs.Targets.{same_target}
use Rattle.hc_head.specs.Statuses.{not_modified}
use Rattle.hc_update.specs.declared.stored.Stored.{Stored}
use Rattle.hc_update.specs.States.{invalidates}
use Rattle.hc_status.specs.declared.marks.Mark.{Mark}
use Rattle.hc_status.specs.declared.marks.Mark.TheVariants.{Forwarded}
use Rattle.hc_transcript.specs.declared.format.Format.{Format}
use Rattle.hc_transcript.specs.declared.line.ToldCause.{ToldCause}
use Rattle.hc_transcript.specs.Items.{Exchange, Forward}
use Rattle.hc_framing.specs.declared.message.Message.{Message}
use Rattle.hc_history.specs.declared.candidates.Candidate.{Candidate}
use Rattle.hc_history.specs.Claims.{Claim}
use Rattle.hc_history.specs.declared.among.Among.{Among}
use Rattle.hc_history.specs.declared.among.Among.TheVariants.{Any, InWindow, Recent}
use Rattle.hc_history.specs.Allowing.{filters}
use Rattle.hc_history.specs.Furthest.{passed, passed_among}
use Rattle.hc_history.specs.Windows.{may_be_for}
use Rattle.hc_history.specs.Noting.{live_answered}
use Rattle.hc_history.specs.Right.{is_judged_collapsed}
use Rattle.hc_history.specs.Seen.{Live, WindowResponse, response_to, Seen}
use Rattle.hc_index.specs.declared.kept.LiveResponse.{LiveResponse}
use Rattle.hc_index.specs.declared.kept.RecordedExchange.{RecordedExchange}
use Rattle.hc_index.specs.declared.kept.WatchedExchange.{WatchedExchange}
use Rattle.hc_index.specs.declared.kept.RecordedForward.{RecordedForward}
use Rattle.hc_index.specs.declared.forwards.OpenForwards.{OpenForwards}
use Rattle.hc_index.specs.declared.list_index.ListIndex.{ListIndex}
use Rattle.hc_index.specs.Windows.{told_seen, those_for}

-- ---- each thing that is kept

abbrev pub live_seen : LiveResponse → Live
live_seen live = record { position = live.position; state = live.state }

abbrev pub exchange_seen : RecordedExchange → Exchange
exchange_seen exchange = record { number = exchange.number; position = exchange.position; request = exchange.request; target = exchange.target }

abbrev pub window_seen : WatchedExchange → List WindowResponse
window_seen watched = those_for watched.exchange.number (map told_seen watched.window.items)

abbrev pub forward_seen : RecordedForward → Forward
forward_seen forward = record { moment = forward.moment; request = forward.request; target = forward.target }

-- the exchange that it was made for
abbrev pub cause_seen : Option RecordedForward → Option ℕ
cause_seen None = None
cause_seen (Some forward) = forward.cause

-- ---- the open forwards

-- the forward of a number, and the exchange that it was made for
abbrev pub forward_in : ℕ → OpenForwards → Option Forward
forward_in f forwards = option_map forward_seen (get nat_cmp forwards.by_number f)

abbrev pub cause_in : ℕ → OpenForwards → Option ℕ
cause_in f forwards = cause_seen (get nat_cmp forwards.by_number f)

-- whether one was made for an exchange
abbrev pub is_made_for : ℕ → OpenForwards → Bool
is_made_for e forwards = contains nat_cmp forwards.made_for e

-- ---- lists of them

-- the live responses of a target
abbrev pub live_in : Target → List LiveResponse → List Live
live_in target lives = map live_seen (filter (λ live. same_target live.target target) lives)

-- the state of the live response at a position, where one of them stands there
abbrev pub state_in : ℕ → List Live → Option Stored
state_in position lives = option_map (λ live. live.state) (find (λ live. live.position == position) lives)

-- whether a live response is of that target, and stands at that position
abbrev pub stands_at : Target → ℕ → LiveResponse → Bool
stands_at target position live = live.position == position && same_target live.target target

-- the exchange of a number
abbrev pub open_in : ℕ → List WatchedExchange → Option WatchedExchange
open_in e exchanges = find (λ watched. watched.exchange.number == e) exchanges

-- the window of an open exchange
abbrev pub window_of : Option WatchedExchange → List WindowResponse
window_of None = []
window_of (Some watched) = window_seen watched

-- the position that is kept of a target; 0 where none is
abbrev pub position_or_none : Option ℕ → ℕ
position_or_none None = 0
position_or_none (Some position) = position

-- the order of targets
abbrev pub by_target : Target → Target → Ordering
by_target = (target_order.ghosts).cmp

-- the position that is kept of a target; 0 where none is
abbrev pub position_in : Target → BTreeMap Target ℕ → ℕ
position_in target positions = position_or_none (get by_target positions target)

-- ---- what a response makes of them

-- whether a response of that status to that method may freshen or invalidate: others leave all as they are
abbrev pub may_change : List ℕ → ℕ → Bool
may_change method status = status == not_modified || invalidates method status

-- a live response with its target
pub record Targeted : Type 0 where
  pub target : Target
  pub live : Live

abbrev pub targeted : LiveResponse → Targeted
targeted live = record { target = live.target; live = live_seen live }

-- one of the forward's target as it is then, every other as it was
abbrev pub targeted_answered : Forward → ℕ → ℕ → Message ResponseHead → Targeted → Targeted
targeted_answered forward position moment response kept =
    if same_target forward.target kept.target
    then record { target = kept.target; live = live_answered forward position moment response kept.live }
    else kept

-- an open exchange with its window
pub record Watched : Type 0 where
  pub exchange : Exchange
  pub window : List WindowResponse

-- what is seen of an open exchange
abbrev pub watched : WatchedExchange → Watched
watched kept = record { exchange = exchange_seen kept.exchange; window = window_seen kept }

-- the open exchange of one that is watched
abbrev pub watched_exchange : Option WatchedExchange → Option Exchange
watched_exchange o = option_map (λ (kept : WatchedExchange). exchange_seen kept.exchange) o

-- its window has the response as well, where that is to a forward of its target that may have been made for it
abbrev pub watched_answered : Forward → ToldCause → Message ResponseHead → Watched → Watched
watched_answered forward cause response seen = record {
  exchange = seen.exchange;
  window = seen.window ++ (if may_be_for cause seen.exchange.number then response_to seen.exchange.target (Some forward) response else []);
}

-- ---- what a reply carries

-- how far a live response gets, of whatever target
abbrev pub candidate_of : Claim → LiveResponse → Candidate
candidate_of claim live = record { position = live.position; passed = passed (filters claim (record { target = live.target; state = live.state })) }

-- how far each of the claim's target gets, in their order
abbrev pub candidates_in : Claim → List LiveResponse → List Candidate
candidates_in claim lives = map (candidate_of claim) (filter (λ live. same_target live.target claim.target) lives)

-- whether, among those, none is looked at that came before the window
abbrev pub ends_at : Among → Bool
ends_at InWindow = true
ends_at Any = false
ends_at Recent = false

-- how many filters a live response passes, if it is one of those
abbrev pub passed_live : Among → Claim → LiveResponse → ℕ
passed_live among claim live = passed_among among claim live.position (Some (record { target = live.target; state = live.state }))

-- n is the most, or at least enough and no more than the most
pub record IsMostOrEnough (enough n most : ℕ) : Type 0 where
  pub at_most : n ≤ most
  pub less_is_most : n < enough → n ≡ most

-- whether it counts that the reply carries a response of its window: only of one that went forward, and isn't judged as collapsed
abbrev pub carried_by : Format → Mark → Bool → Bool
carried_by format (Forwarded collapsed) carried = not (is_judged_collapsed format collapsed) && carried
carried_by format mark carried = false

-- ---- all of them

-- what the index is seen as
abbrev pub seen_in : ListIndex → Seen
seen_in index = record {
  live = λ target. live_in target index.lives.items;
  exchange = λ e. watched_exchange (open_in e index.exchanges.items);
  forward = λ f. forward_in f index.forwards;
  cause = λ f. cause_in f index.forwards;
  window = λ e. window_of (open_in e index.exchanges.items);
  has_forward = λ e. is_made_for e index.forwards;
  error = λ target. position_in target index.errors;
  failure = λ target. position_in target index.failures;
}
