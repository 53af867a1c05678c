-- What has to be known of a history to judge its replies, without keeping it.
use Rattle.std.specs.Prelude.{◌≡◌, ◌==◌, ◌||◌, ℕ, zero, suc, Bool, false, nat_lt, List, [], ◌∷◌, ◌++◌, length, Option, Some, None, if◌then◌else◌}
use Rattle.hc_head.specs.declared.head.ResponseHead.{ResponseHead}
use Rattle.hc_head.specs.declared.head.Target.{Target}
use Rattle.hc_head.specs.Targets.{same_target}
use Rattle.hc_framing.specs.declared.message.Message.{Message}
use Rattle.hc_update.specs.declared.stored.Stored.{Stored}
use Rattle.hc_update.specs.Remnants.{is_lost, remnant}
use Rattle.hc_transcript.specs.declared.format.Format.{Format}
use Rattle.hc_transcript.specs.Records.{told_in}
use Rattle.hc_transcript.specs.Items.{Item, ClientRequest, OriginResponse, ClientReply, Exchange, Forward}
use Rattle.hc_transcript.specs.History.{next_position, exchange_of, forward_of, cause_of}
use Rattle.hc_history.specs.declared.kept.Kept.{Kept}
use Rattle.hc_history.specs.States.{state_at}
use Rattle.hc_history.specs.Windows.{latest, may_be_for, is_sent_for, is_error, is_failure}

-- ---- the live responses of a target

-- what has to be kept of a stored response: all of it, or its remnant where nothing freshens it any more
unfoldable pub remaining : Stored → Stored
remaining state = if is_lost state then remnant state else state

-- a response that may be stored: its position, and what remains of its state
pub record Live : Type 0 where
  pub position : ℕ
  pub state : Stored

-- the response at a position, where it is of that target
abbrev pub live_at : Target → ℕ → Option Kept → List Live
live_at target position None = []
live_at target position (Some kept) =
    if same_target kept.target target then record { position = position; state = remaining kept.state } ∷ [] else []

-- those of a target up to a position, each as it is after the history
abbrev pub live_up_to : Target → ℕ → List Item → List Live
live_up_to target zero h = []
live_up_to target (suc n) h = live_up_to target n h ++ live_at target (suc n) (state_at (suc n) h)

-- all those of a target, by rising position
abbrev pub live_of : Target → List Item → List Live
live_of target h = live_up_to target (length h) h

-- ---- what the windows hold

-- a response to a forward: the forward's method, its status and its body
pub record WindowResponse : Type 0 where
  pub method : List ℕ
  pub status : ℕ
  pub body : List ℕ

-- the response to a forward, where that is of the target
abbrev pub response_to : Target → Option Forward → Message ResponseHead → List WindowResponse
response_to target None response = []
response_to target (Some forward) response =
    if same_target forward.target target
    then record { method = forward.request.method; status = response.head.status; body = response.body } ∷ []
    else []

module _ (format : Format) where
  -- the response of the target that the next item is, where its forward was made for the exchange, as far as that is told
  abbrev pub response_in : ℕ → Target → List Item → Item → List WindowResponse
  response_in e target h (OriginResponse number moment response) =
      if may_be_for (told_in format (cause_of number h)) e then response_to target (forward_of number h) response else []
  response_in e target h item = []

  -- the responses of a target behind a position to forwards that were made for the exchange, as far as that is told, by rising position
  abbrev pub responses_since : ℕ → Target → ℕ → List Item → List WindowResponse
  responses_since e target since [] = []
  responses_since e target since (item ∷ h) =
      responses_since e target since h ++ (if nat_lt since (next_position h) then response_in e target h item else [])

  -- those in the window of an open exchange, so far
  abbrev pub window_responses_of : Option Exchange → List Item → List WindowResponse
  window_responses_of None h = []
  window_responses_of (Some exchange) h = responses_since exchange.number exchange.target exchange.position h

-- what an item makes of whether a forward was made for the exchange of a number: its request and its reply begin anew
abbrev pub has_forward_after : ℕ → Item → Bool → Bool
has_forward_after e (ClientRequest number moment request target) before = if number == e then false else before
has_forward_after e (ClientReply number moment reply) before = if number == e then false else before
has_forward_after e item before = is_sent_for e item || before

-- whether one was made since, as the second format tells it
abbrev pub has_forward_in : ℕ → List Item → Bool
has_forward_in e [] = false
has_forward_in e (item ∷ h) = has_forward_after e item (has_forward_in e h)

-- ---- what is known

-- what an index is seen as
pub record Seen : Type 0 where
  -- the live responses of a target, by rising position
  pub live : Target → List Live
  -- what is open, and the exchange that an open forward was made for
  pub exchange : ℕ → Option Exchange
  pub forward : ℕ → Option Forward
  pub cause : ℕ → Option ℕ
  -- what the window of an open exchange holds so far: the responses of its target to forwards that were made for it, as far as that is told, by rising position
  pub window : ℕ → List WindowResponse
  -- whether a forward was made for an open exchange
  pub has_forward : ℕ → Bool
  -- the positions of the latest error and of the latest failure of a forward of a target; 0 where there was none
  pub error : Target → ℕ
  pub failure : Target → ℕ

-- it is seen as the history of a transcript of that format
pub record IsSeenAs (format : Format) (seen : Seen) (h : List Item) : Type 0 where
  pub live : (target : Target) → seen.live target ≡ live_of target h
  pub exchange : (e : ℕ) → seen.exchange e ≡ exchange_of e h
  pub forward : (f : ℕ) → seen.forward f ≡ forward_of f h
  pub cause : (f : ℕ) → seen.cause f ≡ cause_of f h
  pub window : (e : ℕ) → seen.window e ≡ window_responses_of format (exchange_of e h) h
  pub has_forward : (e : ℕ) → seen.has_forward e ≡ has_forward_in e h
  pub error : (target : Target) → seen.error target ≡ latest (is_error target) h
  pub failure : (target : Target) → seen.failure target ≡ latest (is_failure target) h
