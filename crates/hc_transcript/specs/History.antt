-- A history is the list of the items so far, the newest first. The position of an item is the number of items up to it.
use Rattle.std.specs.Prelude.{ℕ, ◌+◌, List, [], ◌∷◌, length, Option, Some, None, ◌==◌, if◌then◌else◌}
use Rattle.hc_transcript.specs.Items.{Item, ClientRequest, OriginRequest, OriginResponse, OriginFailure, ClientReply, moment_of, Exchange, Forward}

-- where the next item stands; the first has position 1
abbrev pub next_position : List Item → ℕ
next_position h = length h + 1

-- what an item at a position makes of the open exchange of a number: a request opens it, its reply closes it
abbrev pub exchange_after : ℕ → ℕ → Item → Option Exchange → Option Exchange
exchange_after e position (ClientRequest number moment request target) before =
    if number == e then Some (record { number = number; position = position; request = request.head; target = target }) else before
exchange_after e position (ClientReply number moment reply) before = if number == e then None else before
exchange_after e position item before = before

-- the open exchange of a number
abbrev pub exchange_of : ℕ → List Item → Option Exchange
exchange_of e [] = None
exchange_of e (i ∷ h) = exchange_after e (next_position h) i (exchange_of e h)

-- what an item makes of the open forward of a number: a request opens it, its response or its failure closes it
abbrev pub forward_after : ℕ → Item → Option Forward → Option Forward
forward_after f (OriginRequest number moment request target cause) before =
    if number == f then Some (record { moment = moment; request = request.head; target = target }) else before
forward_after f (OriginResponse number moment response) before = if number == f then None else before
forward_after f (OriginFailure number moment) before = if number == f then None else before
forward_after f item before = before

-- the open forward of a number
abbrev pub forward_of : ℕ → List Item → Option Forward
forward_of f [] = None
forward_of f (i ∷ h) = forward_after f i (forward_of f h)

-- what an item makes of the cause of the open forward of a number
abbrev pub cause_after : ℕ → Item → Option ℕ → Option ℕ
cause_after f (OriginRequest number moment request target cause) before = if number == f then cause else before
cause_after f (OriginResponse number moment response) before = if number == f then None else before
cause_after f (OriginFailure number moment) before = if number == f then None else before
cause_after f item before = before

-- the exchange that the open forward of a number was made for; none where no reply waits for it, and where none is open
abbrev pub cause_of : ℕ → List Item → Option ℕ
cause_of f [] = None
cause_of f (i ∷ h) = cause_after f i (cause_of f h)

-- the moment of the newest item; 0 where there is none
abbrev pub last_moment : List Item → ℕ
last_moment [] = 0
last_moment (i ∷ h) = moment_of i

-- what an item makes of the number of the newest exchange
abbrev pub exchange_number_after : Item → ℕ → ℕ
exchange_number_after (ClientRequest number moment request target) before = number
exchange_number_after item before = before

-- the number of the newest exchange; 0 where there is none
abbrev pub last_exchange : List Item → ℕ
last_exchange [] = 0
last_exchange (i ∷ h) = exchange_number_after i (last_exchange h)

-- what an item makes of the number of the newest forward
abbrev pub forward_number_after : Item → ℕ → ℕ
forward_number_after (OriginRequest number moment request target cause) before = number
forward_number_after item before = before

-- the number of the newest forward; 0 where there is none
abbrev pub last_forward : List Item → ℕ
last_forward [] = 0
last_forward (i ∷ h) = forward_number_after i (last_forward h)
