-- Whether a client that has a response already may be told that it still holds (RFC 9111 section 4.3.2).
use Rattle.std.specs.Prelude.{ℕ, Bool, false, ◌&&◌, ◌||◌, ◌==◌, List, [], ◌∷◌, Option, Some, None, option_and_then, codes, nat_le, if◌then◌else◌}
use Rattle.std.specs.List.{list_any}
use Rattle.std.specs.Str.{bytes_eq}
use Rattle.hc_fields.specs.declared.fields.Field.{Field}
use Rattle.hc_fields.specs.Values.{only_value, has_name}
use Rattle.hc_fields.specs.Lists.{trimmed, members_of}
use Rattle.hc_fresh.specs.Dates.{date_of}
use Rattle.hc_rules.specs.Validators.{without_weak_mark, tag_of}

-- ---- If-None-Match (RFC 9110 section 13.1.2)

-- whether the value is `*`
abbrev pub is_wildcard : Option (List ℕ) → Bool
is_wildcard None = false
is_wildcard (Some value) = bytes_eq (trimmed value) (codes "*")

-- the tags are the same but for the marks of weak ones (RFC 9110 section 8.8.3.2)
abbrev pub match_weakly : List ℕ → List ℕ → Bool
match_weakly one other = bytes_eq (without_weak_mark one) (without_weak_mark other)

-- whether a member of If-None-Match is the tag, by weak comparison
abbrev pub lists_tag : List Field → Option (List ℕ) → Bool
lists_tag presented None = false
lists_tag presented (Some tag) = list_any (λ member. match_weakly member tag) (members_of (codes "if-none-match") presented)

-- whether the client has what is stored: its one If-None-Match line is `*`, or the tag is listed
abbrev pub has_stored : List Field → List Field → Bool
has_stored presented fields = is_wildcard (only_value (codes "if-none-match") presented) || lists_tag presented (tag_of fields)

-- ---- If-Modified-Since (RFC 9110 section 13.1.3)

-- the date that the one line of that name is
abbrev pub only_date : List ℕ → List Field → Option ℕ
only_date name fields = option_and_then date_of (only_value name fields)

-- the first date is there and isn't later than the second, which is there too
abbrev pub is_not_later : Option ℕ → Option ℕ → Bool
is_not_later None since = false
is_not_later (Some modified) None = false
is_not_later (Some modified) (Some since) = nat_le modified since

-- ---- both: If-Modified-Since counts only where there is no If-None-Match (RFC 9110 section 13.2.2)

-- whether the client's condition holds for a stored response of that status and those fields; that it holds for the status 200 alone, and
-- that no Date stands in for a Last-Modified, is this project's own choice
abbrev pub client_condition : List Field → ℕ → List Field → Bool
client_condition presented status fields =
    status == 200
    && (if has_name (codes "if-none-match") presented then has_stored presented fields
    else is_not_later (only_date (codes "last-modified") fields) (only_date (codes "if-modified-since") presented))

-- ---- what the client is told then

-- the names of the fields that a 304 has to repeat (RFC 9110 section 15.4.5)
abbrev pub repeated_names : List (List ℕ)
repeated_names =
    codes "cache-control" ∷ codes "content-location" ∷ codes "date" ∷ codes "etag" ∷ codes "expires" ∷ codes "vary" ∷ []
