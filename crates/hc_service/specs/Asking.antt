-- What a client's request asks of a cache, whatever is stored.
use Rattle.std.specs.Prelude.{ℕ, Bool, true, false, ◌||◌, ◌==◌, not, nat_le, List, [], ◌∷◌, length, codes}
use Rattle.std.specs.List.{list_any}
use Rattle.hc_fields.specs.Values.{has_name}
use Rattle.hc_fields.specs.Connection.{is_named_by_connection}
use Rattle.hc_directives.specs.declared.cache_control.Seconds.{Seconds}
use Rattle.hc_directives.specs.declared.cache_control.Seconds.TheVariants.{Absent, Bare, Value, Unreadable}
use Rattle.hc_head.specs.declared.head.RequestHead.{RequestHead}
use Rattle.hc_head.specs.declared.head.Version.{Version}
use Rattle.hc_head.specs.declared.head.Version.TheVariants.{Http10, Http11}
use Rattle.hc_head.specs.Methods.{is_get, is_head}
use Rattle.hc_framing.specs.declared.message.Message.{Message}

-- ---- the request itself

-- the methods that the store answers: GET, and HEAD as GET without the body (RFC 9111 section 4)
abbrev pub is_answered_by_store : List ℕ → Bool
is_answered_by_store method = is_get method || is_head method

-- the fields that ask for a part, or on a condition that only the origin can judge (RFC 9110 sections 13.1.1, 13.1.4, 13.1.5 and 14.2)
abbrev pub bypass_names : List (List ℕ)
bypass_names = codes "range" ∷ codes "if-range" ∷ codes "if-match" ∷ codes "if-unmodified-since" ∷ []

-- the request has one of those, or a body
abbrev pub is_bypass : Message RequestHead → Bool
is_bypass request = list_any (λ name. has_name name request.head.fields) bypass_names || not (length request.body == 0)

-- whether it is HTTP/1.0
abbrev pub is_http10 : Version → Bool
is_http10 Http10 = true
is_http10 Http11 = false

-- the connection closes behind the reply: the request is HTTP/1.0, or says so (RFC 9112 section 9.6; that no connection of HTTP/1.0 is kept is this project's own choice)
abbrev pub ends_connection : RequestHead → Bool
ends_connection asked = is_http10 asked.version || is_named_by_connection (codes "close") asked.fields

-- ---- what its directives allow (RFC 9111 section 5.2.1)

-- whether max-age allows that age; one that says no number allows 0 alone (section 5.2.1.1)
abbrev pub allows_age : ℕ → Seconds → Bool
allows_age age Absent = true
allows_age age Bare = nat_le age 0
allows_age age (Value seconds) = nat_le age seconds
allows_age age Unreadable = nat_le age 0

-- whether min-fresh allows a response that is fresh for so many seconds still; one that says no number counts as none (section 5.2.1.3)
abbrev pub allows_left : ℕ → Seconds → Bool
allows_left left (Value seconds) = nat_le seconds left
allows_left left said = true

-- whether min-fresh asks for anything
abbrev pub asks_for_fresh : Seconds → Bool
asks_for_fresh (Value seconds) = true
asks_for_fresh said = false
