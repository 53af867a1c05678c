-- The fields that a message loses when it is forwarded (RFC 9110 section 7.6.1) or stored (RFC 9111 section 3.1).
use Rattle.std.specs.Prelude.{ℕ, Bool, ◌||◌, List, [], ◌∷◌, codes}
use Rattle.std.specs.List.{list_any}
use Rattle.std.specs.Str.{bytes_eq, str_eq_ignore_ascii_case}
use Rattle.hc_fields.specs.declared.fields.Field.{Field}
use Rattle.hc_fields.specs.Lists.{members_of}

-- the fields that are for one connection alone, whatever Connection names; `trailer` is this project's own choice
abbrev pub connection_fields : List (List ℕ)
connection_fields =
    codes "connection" ∷ codes "proxy-connection" ∷ codes "keep-alive" ∷ codes "te" ∷ codes "transfer-encoding" ∷ codes "upgrade" ∷ codes "trailer" ∷ []

-- the fields that are for a proxy alone
abbrev pub proxy_fields : List (List ℕ)
proxy_fields = codes "proxy-authenticate" ∷ codes "proxy-authentication-info" ∷ codes "proxy-authorization" ∷ []

-- whether the field is for one connection alone, whatever Connection names
abbrev pub is_for_connection : List ℕ → Bool
is_for_connection name = list_any (λ known. bytes_eq known name) connection_fields

-- whether the field is for a proxy alone
abbrev pub is_for_proxy : List ℕ → Bool
is_for_proxy name = list_any (λ known. bytes_eq known name) proxy_fields

-- whether a member of a Connection line is that name, in any case
abbrev pub is_named_by_connection : List ℕ → List Field → Bool
is_named_by_connection name fields = list_any (λ member. str_eq_ignore_ascii_case member name) (members_of (codes "connection") fields)

-- whether a field of that name is left out of a forwarded message
abbrev pub removed : List ℕ → List Field → Bool
removed name fields = is_for_connection name || is_named_by_connection name fields

-- whether a field of that name is left out of a stored response
abbrev pub left_out_of_store : List ℕ → List Field → Bool
left_out_of_store name fields = removed name fields || is_for_proxy name
