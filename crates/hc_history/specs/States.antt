-- What one stored response is after the items behind it (RFC 9111 sections 3, 4.3.4 and 4.4).
use Rattle.std.specs.Prelude.{ℕ, ◌==◌, List, [], ◌∷◌, Option, Some, None, if◌then◌else◌}
use Rattle.std.specs.Option.{option_map}
use Rattle.hc_head.specs.declared.head.ResponseHead.{ResponseHead}
use Rattle.hc_head.specs.Targets.{same_target}
use Rattle.hc_framing.specs.declared.message.Message.{Message}
use Rattle.hc_rules.specs.Storing.{may_store}
use Rattle.hc_update.specs.declared.stored.Stored.{Stored}
use Rattle.hc_update.specs.States.{initial_state, freshened, invalidated, invalidates}
use Rattle.hc_update.specs.Identifying.{identifies}
use Rattle.hc_transcript.specs.Items.{Item, OriginResponse, Forward}
use Rattle.hc_transcript.specs.History.{next_position, forward_of}
use Rattle.hc_history.specs.declared.kept.Kept.{Kept}

-- ---- how it begins

-- what a response to that forward begins, if it may be stored
abbrev pub begun_by : Forward → ℕ → Message ResponseHead → Option Kept
begun_by forward moment response =
    if may_store forward.request response.head
    then Some (record { target = forward.target; state = initial_state forward.request forward.moment response moment })
    else None

-- what a response begins, if it answers an open forward
abbrev pub begun_to : Option Forward → ℕ → Message ResponseHead → Option Kept
begun_to None moment response = None
begun_to (Some forward) moment response = begun_by forward moment response

-- what the next item begins, if it is a response that may be stored
abbrev pub state_begun : List Item → Item → Option Kept
state_begun h (OriginResponse number moment response) = begun_to (forward_of number h) moment response
state_begun h item = None

-- ---- how it goes on

-- what a response at a position, to a forward of its target, makes of a stored response: it freshens what it identifies, and invalidates where it is
-- no error to an unsafe method
abbrev pub state_answered : Forward → ℕ → ℕ → Message ResponseHead → Stored → Stored
state_answered forward position moment response state =
    if identifies state forward.request response.head then freshened state response.head.fields forward.moment moment position
    else if invalidates forward.request.method response.head.status then invalidated state
    else state

-- the same of a response to a forward of any target
abbrev pub kept_answered : Forward → ℕ → ℕ → Message ResponseHead → Kept → Kept
kept_answered forward position moment response kept =
    if same_target forward.target kept.target
    then record { target = kept.target; state = state_answered forward position moment response kept.state }
    else kept

-- the same of a response that answers an open forward, if it does
abbrev pub kept_answered_to : Option Forward → ℕ → ℕ → Message ResponseHead → Kept → Kept
kept_answered_to None position moment response kept = kept
kept_answered_to (Some forward) position moment response kept = kept_answered forward position moment response kept

-- what the next item makes of a stored response
unfoldable pub state_after : List Item → Item → Kept → Kept
state_after h (OriginResponse number moment response) kept = kept_answered_to (forward_of number h) (next_position h) moment response kept
state_after h item kept = kept

-- the response at a position after a history, if it may be stored: what it began as, walked through each item behind it
abbrev pub state_at : ℕ → List Item → Option Kept
state_at position [] = None
state_at position (item ∷ h) =
    if position == next_position h then state_begun h item else option_map (state_after h item) (state_at position h)
