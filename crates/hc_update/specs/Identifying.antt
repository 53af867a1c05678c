-- Which stored response a 304 is about (after RFC 9111 section 4.3.4; the choice of validators is this project's own).
use Rattle.std.specs.Prelude.{ℕ, Bool, ◌&&◌, ◌==◌, not, List, Option, option_and_then, codes, if◌then◌else◌}
use Rattle.std.specs.Option.{is_some, option_eq}
use Rattle.std.specs.Str.{bytes_eq}
use Rattle.hc_fields.specs.declared.fields.Field.{Field}
use Rattle.hc_fields.specs.Values.{only, only_value, has_name}
use Rattle.hc_fields.specs.Lists.{list_members}
use Rattle.hc_head.specs.declared.head.RequestHead.{RequestHead}
use Rattle.hc_head.specs.declared.head.ResponseHead.{ResponseHead}
use Rattle.hc_head.specs.Statuses.{not_modified}
use Rattle.hc_fresh.specs.Lifetimes.{says}
use Rattle.hc_rules.specs.Storing.{asks_for_storable}
use Rattle.hc_rules.specs.Selecting.{selects}
use Rattle.hc_rules.specs.Validators.{tag_of, last_modified_of}
use Rattle.hc_update.specs.declared.stored.Stored.{Stored}

-- both are there, and the same octets
abbrev pub are_same : Option (List ℕ) → Option (List ℕ) → Bool
are_same one other = is_some one && option_eq bytes_eq one other

-- the one member of the one If-None-Match line
abbrev pub only_member_asked : List Field → Option (List ℕ)
only_member_asked forwarded = option_and_then (λ line. only (list_members line)) (only_value (codes "if-none-match") forwarded)

-- whether the validators agree: the tag of the 304 decides where it has one, else its Last-Modified where it has one, else what the request asked for: If-None-Match
-- where it is there, else If-Modified-Since
abbrev pub validators_agree : List Field → List Field → List Field → Bool
validators_agree stored forwarded received =
    if is_some (tag_of received) then are_same (tag_of received) (tag_of stored)
    else if is_some (last_modified_of received) then are_same (last_modified_of received) (last_modified_of stored)
    else if has_name (codes "if-none-match") forwarded then are_same (only_member_asked forwarded) (tag_of stored)
    else are_same (only_value (codes "if-modified-since") forwarded) (last_modified_of stored)

-- a 304 that may freshen: neither private nor no-store, with must-understand or without (this project's own choice)
abbrev pub may_freshen : ResponseHead → Bool
may_freshen response = response.status == not_modified && not (says (codes "private") response.fields) && not (says (codes "no-store") response.fields)

-- whether such a response may be about the state, whatever Vary selects: a 304 that may freshen, to a GET without no-store, and the validators agree
abbrev pub may_identify : Stored → RequestHead → ResponseHead → Bool
may_identify state forward response =
    may_freshen response && asks_for_storable forward && validators_agree state.fields forward.fields response.fields

-- whether the response to a forward, for the state's own target, freshens the state: a 304 that may, to a GET without no-store which the state
-- selects, and the validators agree
abbrev pub identifies : Stored → RequestHead → ResponseHead → Bool
identifies state forward response =
    may_freshen response
    && asks_for_storable forward
    && selects state.fields state.request.fields forward.fields
    && validators_agree state.fields forward.fields response.fields
