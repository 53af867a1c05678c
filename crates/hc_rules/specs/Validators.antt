-- What a response is validated by (RFC 9110 section 8.8).
use Rattle.std.specs.Prelude.{◌≡◌, ℕ, Bool, false, ◌&&◌, ◌||◌, ◌==◌, List, length, take, drop, Option, Some, None, option_and_then, codes, nat_le, if◌then◌else◌}
use Rattle.std.specs.Int.{is_in_range}
use Rattle.std.specs.List.{list_all}
use Rattle.std.specs.Option.{is_some}
use Rattle.std.specs.Str.{bytes_eq}
use Rattle.hc_fields.specs.declared.fields.Field.{Field}
use Rattle.hc_fields.specs.Values.{only_value}
use Rattle.hc_directives.specs.QuotedStrings.{behind_quote, before_quote}
use Rattle.hc_rules.specs.declared.validators.Validator.{Validator}
use Rattle.hc_rules.specs.declared.validators.Validator.TheVariants.{Tag, Modified, Neither}

-- ---- entity-tags (RFC 9110 section 8.8.3)

-- an octet that may stand between the quotes of a tag
unfoldable pub is_tag_octet : ℕ → Bool
is_tag_octet octet = octet == 33 || is_in_range 35 126 octet || is_in_range 128 255 octet

-- what stands between two quotes
abbrev pub between_quotes : List ℕ → Option (List ℕ)
between_quotes text = option_and_then before_quote (behind_quote text)

-- whether there is a text, of octets of a tag
abbrev pub are_tag_octets : Option (List ℕ) → Bool
are_tag_octets None = false
are_tag_octets (Some text) = list_all is_tag_octet text

-- a quote, octets of a tag, and a quote
abbrev pub is_opaque_tag : List ℕ → Bool
is_opaque_tag text = are_tag_octets (between_quotes text)

-- the tag without the mark of a weak one, `W/`
abbrev pub without_weak_mark : List ℕ → List ℕ
without_weak_mark tag = if bytes_eq (take 2 tag) (codes "W/") then drop 2 tag else tag

-- at most 1,024 octets, as much as a validator has (this project's own choice)
abbrev pub has_permitted_length : List ℕ → Bool
has_permitted_length value = nat_le (length value) 1024

-- an entity-tag, weak or strong
abbrev pub is_entity_tag : List ℕ → Bool
is_entity_tag value = has_permitted_length value && is_opaque_tag (without_weak_mark value)

-- ---- the validators of a response

-- the value, if it passes the test
abbrev pub passing : (List ℕ → Bool) → Option (List ℕ) → Option (List ℕ)
passing test None = None
passing test (Some value) = if test value then Some value else None

-- the tag: the one ETag line, where it is an entity-tag
abbrev pub tag_of : List Field → Option (List ℕ)
tag_of fields = passing is_entity_tag (only_value (codes "etag") fields)

-- the one Last-Modified line, where it has a permitted length, be it a date or not (section 8.8.2)
abbrev pub last_modified_of : List Field → Option (List ℕ)
last_modified_of fields = passing has_permitted_length (only_value (codes "last-modified") fields)

-- what the response is validated by: the tag, else Last-Modified, else nothing
abbrev pub IsValidator : Validator → List Field → Type 0
IsValidator (Tag tag) fields = tag_of fields ≡ Some tag.now
IsValidator (Modified value) fields = (tag_of fields ≡ None) × (last_modified_of fields ≡ Some value.now)
IsValidator Neither fields = (tag_of fields ≡ None) × (last_modified_of fields ≡ None)

-- whether the response can be validated
abbrev pub has_validator : List Field → Bool
has_validator fields = is_some (tag_of fields) || is_some (last_modified_of fields)
