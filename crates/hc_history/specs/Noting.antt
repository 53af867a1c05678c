-- What the next item makes of what is known of a history.
use Rattle.std.specs.Prelude.{◌≡◌, ℕ, ◌==◌, List, [], ◌++◌, map, Option, Some, None, if◌then◌else◌}
use Rattle.hc_head.specs.declared.head.ResponseHead.{ResponseHead}
use Rattle.hc_head.specs.declared.head.Target.{Target}
use Rattle.hc_head.specs.Targets.{same_target}
use Rattle.hc_framing.specs.declared.message.Message.{Message}
use Rattle.hc_transcript.specs.declared.format.Format.{Format}
use Rattle.hc_transcript.specs.Records.{told_in}
use Rattle.hc_transcript.specs.Items.{Item, ClientRequest, OriginResponse, ClientReply, Exchange, Forward}
use Rattle.hc_transcript.specs.History.{exchange_after, forward_after, cause_after}
use Rattle.hc_history.specs.States.{begun_by, state_answered}
use Rattle.hc_history.specs.Windows.{may_be_for, is_error_by, is_failure_by}
use Rattle.hc_history.specs.Seen.{Live, live_at, remaining, WindowResponse, response_to, has_forward_after, Seen}

-- a live response of the forward's target after a response to it
abbrev pub live_answered : Forward → ℕ → ℕ → Message ResponseHead → Live → Live
live_answered forward position moment response live =
    record { position = live.position; state = remaining (state_answered forward position moment response live.state) }

-- the live responses of a target after a response to an open forward: each as it is then, and behind them what the response begins
abbrev pub lives_answered : Target → Option Forward → ℕ → ℕ → Message ResponseHead → List Live → List Live
lives_answered target None position moment response lives = lives
lives_answered target (Some forward) position moment response lives =
    if same_target forward.target target
    then map (live_answered forward position moment response) lives ++ live_at target position (begun_by forward moment response)
    else lives

-- the live responses of a target after an item
abbrev pub lives_after : Target → (ℕ → Option Forward) → ℕ → Item → List Live → List Live
lives_after target forward position (OriginResponse number moment response) lives =
    lives_answered target (forward number) position moment response lives
lives_after target forward position item lives = lives

module _ (format : Format) where
  -- what a response to a forward of that cause adds to the window of an exchange, if that is open and the cause may be it
  abbrev pub added_to_window : Option Exchange → Option Forward → Option ℕ → Message ResponseHead → List WindowResponse
  added_to_window None forward cause response = []
  added_to_window (Some exchange) forward cause response =
      if may_be_for (told_in format cause) exchange.number then response_to exchange.target forward response else []

  -- the window of the open exchange of a number after an item: a request opens it anew, a reply closes it
  abbrev pub window_after : ℕ → Option Exchange → (ℕ → Option Forward) → (ℕ → Option ℕ) → Item → List WindowResponse → List WindowResponse
  window_after e exchange forward cause (ClientRequest number moment request asked) window = if number == e then [] else window
  window_after e exchange forward cause (OriginResponse number moment response) window =
      window ++ added_to_window exchange (forward number) (cause number) response
  window_after e exchange forward cause (ClientReply number moment reply) window = if number == e then [] else window
  window_after e exchange forward cause item window = window

-- the next item, at that position, leads from what was known to what is known
pub record Notes (format : Format) (old : Seen) (position : ℕ) (item : Item) (new : Seen) : Type 0 where
  pub live : (target : Target) → new.live target ≡ lives_after target old.forward position item (old.live target)
  pub exchange : (e : ℕ) → new.exchange e ≡ exchange_after e position item (old.exchange e)
  pub forward : (f : ℕ) → new.forward f ≡ forward_after f item (old.forward f)
  pub cause : (f : ℕ) → new.cause f ≡ cause_after f item (old.cause f)
  pub window : (e : ℕ) → new.window e ≡ window_after format e (old.exchange e) old.forward old.cause item (old.window e)
  pub has_forward : (e : ℕ) → new.has_forward e ≡ has_forward_after e item (old.has_forward e)
  pub error : (target : Target) → new.error target ≡ (if is_error_by target old.forward item then position else old.error target)
  pub failure : (target : Target) → new.failure target ≡ (if is_failure_by target old.forward item then position else old.failure target)
