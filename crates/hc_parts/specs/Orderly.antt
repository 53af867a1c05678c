-- Items in turn: each opens what isn't open, or answers what is open. Those of a transcript are in turn.
use Rattle.std.specs.Prelude.{◌≡◌, true, is_some, List, [], ◌∷◌, None}
use Rattle.hc_transcript.specs.Items.{Item, ClientRequest, OriginRequest, OriginResponse, OriginFailure, ClientReply}
use Rattle.hc_transcript.specs.History.{exchange_of, forward_of}

-- the next item opens what isn't open, or answers what is
abbrev pub IsInTurn : List Item → Item → Type 0
IsInTurn h (ClientRequest number moment request target) = exchange_of number h ≡ None
IsInTurn h (OriginRequest number moment request target cause) = forward_of number h ≡ None
IsInTurn h (OriginResponse number moment response) = is_some (forward_of number h) ≡ true
IsInTurn h (OriginFailure number moment) = is_some (forward_of number h) ≡ true
IsInTurn h (ClientReply number moment reply) = is_some (exchange_of number h) ≡ true

-- and so does each item of the history
abbrev pub AreInTurn : List Item → Type 0
AreInTurn [] = Unit {0}
AreInTurn (item ∷ h) = AreInTurn h × IsInTurn h item
