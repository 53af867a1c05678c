-- The window of a reply: the items after its request, whose positions are later than that of the request.
use Rattle.std.specs.Prelude.{ℕ, Bool, true, false, ◌&&◌, ◌||◌, ◌==◌, nat_lt, List, [], ◌∷◌, Option, Some, None, if◌then◌else◌}
use Rattle.hc_head.specs.Statuses.{is_error_status}
use Rattle.hc_head.specs.declared.head.Target.{Target}
use Rattle.hc_transcript.specs.declared.line.ToldCause.{ToldCause}
use Rattle.hc_transcript.specs.declared.line.ToldCause.TheVariants as told
use Rattle.hc_transcript.specs.Items.{Item, OriginRequest, OriginResponse, OriginFailure, Exchange, Forward}
use Rattle.hc_transcript.specs.History.{next_position, forward_of}
use Rattle.hc_head.specs.Targets.{same_target}

-- whether some item after a position passes a test, which is told the history before the item
abbrev pub some_since : (List Item → Item → Bool) → ℕ → List Item → Bool
some_since test since [] = false
some_since test since (item ∷ h) = (nat_lt since (next_position h) && test h item) || some_since test since h

-- the position of the latest item that passes a test; 0 where none does
abbrev pub latest : (List Item → Item → Bool) → List Item → ℕ
latest test [] = 0
latest test (item ∷ h) = if test h item then next_position h else latest test h

-- whether a forward may have been made for the exchange of a number, by what is told of its cause: where nothing is told, it may
abbrev pub may_be_for : ToldCause → ℕ → Bool
may_be_for told.Untold e = true
may_be_for told.NoExchange e = false
may_be_for (told.Exchange n) e = n == e

-- whether a number is that of an exchange
abbrev pub is_number_of : ℕ → Option ℕ → Bool
is_number_of e None = false
is_number_of e (Some n) = n == e

-- whether an item is the request of a forward that was made for the exchange of a number, as the second format tells it
abbrev pub is_sent_for : ℕ → Item → Bool
is_sent_for e (OriginRequest number moment request target cause) = is_number_of e cause
is_sent_for e item = false

-- whether one stands in the window of an exchange
abbrev pub has_forward : Exchange → List Item → Bool
has_forward exchange h = some_since (λ earlier item. is_sent_for exchange.number item) exchange.position h

-- ---- what permits stale responses in its place: errors (RFC 5861 section 4), and that the origin can't be reached (RFC 9111 section 4.2.4)

-- whether it is an open forward of that target
abbrev pub is_forward_of : Target → Option Forward → Bool
is_forward_of target None = false
is_forward_of target (Some forward) = same_target forward.target target

-- whether an item is such a response to a forward of the target, of any method, by the open forward of each number
abbrev pub is_error_by : Target → (ℕ → Option Forward) → Item → Bool
is_error_by target forward (OriginResponse number moment response) = is_error_status response.head.status && is_forward_of target (forward number)
is_error_by target forward item = false

-- whether an item is the failure of a forward of the target, of any method
abbrev pub is_failure_by : Target → (ℕ → Option Forward) → Item → Bool
is_failure_by target forward (OriginFailure number moment) = is_forward_of target (forward number)
is_failure_by target forward item = false

-- the same of the next item of a history
abbrev pub is_error : Target → List Item → Item → Bool
is_error target h item = is_error_by target (λ f. forward_of f h) item

abbrev pub is_failure : Target → List Item → Item → Bool
is_failure target h item = is_failure_by target (λ f. forward_of f h) item
