-- Whether a stored response answers a request, by its Vary (RFC 9111 section 4.1).
use Rattle.std.specs.Prelude.{ℕ, Bool, ◌&&◌, not, List, [], ◌∷◌, map, Option, codes, if◌then◌else◌}
use Rattle.std.specs.Bool.{beq}
use Rattle.std.specs.List.{list_any, list_all}
use Rattle.std.specs.Option.{option_eq}
use Rattle.std.specs.Cmp.Lexicographic.{pointwise}
use Rattle.std.specs.Str.{bytes_eq, str_to_ascii_lowercase}
use Rattle.hc_fields.specs.declared.fields.Field.{Field}
use Rattle.hc_fields.specs.Values.{values_of, has_name, joined_values}
use Rattle.hc_fields.specs.Lists.{trimmed, members_of}
use Rattle.hc_fields.specs.Tokens.{is_token}

-- ---- whether two requests agree in a field

-- the fields that are compared as lists of members, so that white space about a member doesn't matter (this project's own choice)
abbrev pub is_list_of_preferences : List ℕ → Bool
is_list_of_preferences name =
    list_any (λ known. bytes_eq known name) (codes "accept" ∷ codes "accept-charset" ∷ codes "accept-encoding" ∷ codes "accept-language" ∷ [])

-- the lines of a name as one value, each line trimmed (RFC 9110 section 5.3)
abbrev pub joined_lines : List ℕ → List Field → Option (List ℕ)
joined_lines name fields = joined_values (map trimmed (values_of name fields))

-- both requests lack the field, or both have it, with the same members
abbrev pub agree_by_members : List ℕ → List Field → List Field → Bool
agree_by_members name forwarded presented =
    beq (has_name name forwarded) (has_name name presented) && pointwise bytes_eq (members_of name forwarded) (members_of name presented)

-- both requests lack the field, or both have it, with the same value
abbrev pub agree_by_value : List ℕ → List Field → List Field → Bool
agree_by_value name forwarded presented = option_eq bytes_eq (joined_lines name forwarded) (joined_lines name presented)

-- whether the requests agree in that field
abbrev pub agree : List ℕ → List Field → List Field → Bool
agree name forwarded presented =
    if is_list_of_preferences name then agree_by_members name forwarded presented else agree_by_value name forwarded presented

-- ---- Vary

-- whether a member of Vary is met: it names a field, in any case, in which the requests agree; `*`, and what is no token, is never met
abbrev pub is_met : List Field → List Field → List ℕ → Bool
is_met forwarded presented member =
    is_token member && not (bytes_eq member (codes "*")) && agree (str_to_ascii_lowercase member) forwarded presented

-- whether a response with those fields, to the first request as it was forwarded, is selected by the second
abbrev pub selects : List Field → List Field → List Field → Bool
selects fields forwarded presented = list_all (is_met forwarded presented) (members_of (codes "vary") fields)
