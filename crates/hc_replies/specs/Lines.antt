-- The field lines of replies.
use Rattle.std.specs.Prelude.{ℕ, Bool, true, false, not, List, [], ◌∷◌, filter, Result, Ok, Err, codes, decimal, if◌then◌else◌}
use Rattle.std.specs.List.{list_any}
use Rattle.std.specs.Str.{bytes_eq}
use Rattle.hc_fields.specs.declared.fields.Field.{Field}
use Rattle.hc_fields.specs.Connection.{removed}
use Rattle.hc_fields.specs.Values.{line, without}
use Rattle.hc_rules.specs.Conditions.{repeated_names}
use Rattle.hc_rules.specs.Forwards.{close_line}
use Rattle.hc_status.specs.declared.cache_status.Handling.{Handling}
use Rattle.hc_status.specs.declared.fault.SfFault.{SfFault}
use Rattle.hc_status.specs.declared.items.Member.{Member}
use Rattle.hc_status.specs.Marks.{cache_status}
use Rattle.hc_status.specs.Texts.{member_text}

-- ---- what is kept of a response's lines

-- those that aren't removed on forwarding, in order (RFC 9110 section 7.6.1)
abbrev pub passed_back : List Field → List Field
passed_back received = filter (λ f. not (removed f.name received)) received

-- whether there is a list, of one member at least
abbrev pub has_member : Result (List Member) SfFault → Bool
has_member (Ok []) = false
has_member (Ok (member ∷ members)) = true
has_member (Err fault) = false

-- the lines without those of Cache-Status, unless these read as a list of at least one member, behind which the cache can put its own (RFC 9211
-- section 2; RFC 8941 section 4.2 drops a field that can't be read)
abbrev pub kept_statuses : List Field → List Field
kept_statuses fields = if has_member (cache_status fields) then fields else without (codes "cache-status") fields

-- those that a 304 has to repeat, in order (RFC 9110 section 15.4.5)
abbrev pub repeated : List Field → List Field
repeated fields = filter (λ f. list_any (λ known. bytes_eq known f.name) repeated_names) fields

-- ---- the lines of the cache's own

-- how old the response is, in seconds (RFC 9111 section 5.1)
abbrev pub age_line : ℕ → Field
age_line age = line (codes "age") (decimal age)

-- how the cache of that name handled the request (RFC 9211 section 2)
abbrev pub own_line : List ℕ → Handling → Field
own_line name handling = line (codes "cache-status") (member_text (record { name = name; handling = handling }))

-- that the connection closes, where it does (RFC 9112 section 9.6)
abbrev pub closing : Bool → List Field
closing closes = if closes then close_line ∷ [] else []

-- the lines behind all others
abbrev pub lines_behind : List ℕ → Handling → Bool → List Field
lines_behind name handling closes = own_line name handling ∷ closing closes
