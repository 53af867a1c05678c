-- Parts of what the origin answered, where an audit allows ranges (RFC 9110 sections 14.2, 14.4, 15.3.7 and 15.5.17).
use Rattle.std.specs.Prelude.{ℕ, Bool, false, ◌&&◌, ◌+◌, ◌-◌, ◌==◌, nat_lt, nat_le, List, length, take, drop, slice_index, Option, Some, None, option_and_then, codes, bytes_eq, if◌then◌else◌}
use Rattle.std.specs.List.{before_first, after_first}
use Rattle.hc_fields.specs.Numbers.{decimal_of}
use Rattle.hc_fields.specs.Values.{has_name, only_value}
use Rattle.hc_head.specs.Methods.{is_get}
use Rattle.hc_head.specs.Statuses.{partial_content}
use Rattle.hc_history.specs.declared.ranges.ContentRange.{ContentRange}
use Rattle.hc_history.specs.declared.ranges.ContentRange.TheVariants.{Part, NoPart}
use Rattle.hc_history.specs.Claims.{Claim}

-- ---- what a Content-Range line tells

-- the number that a decimal without a leading zero writes
abbrev pub numeral_of : List ℕ → Option ℕ
numeral_of text = if nat_lt 1 (length text) && slice_index text 0 == 48 then None else decimal_of text

-- what stands before the first octet of those, or all where none stands there; and what stands behind it
abbrev pub before_octet : ℕ → List ℕ → List ℕ
before_octet octet text = before_first (λ o. o == octet) text

abbrev pub behind_octet : ℕ → List ℕ → List ℕ
behind_octet octet text = after_first (λ o. o == octet) text

-- the part from the one octet to the other, where both are told
abbrev pub part_of : ℕ → Option ℕ → Option ℕ → Option ContentRange
part_of whole (Some first) (Some last) = Some (Part first last whole)
part_of whole first last = None

-- `A-B` tells a part of a body of that length, and `*` that there is no such part
abbrev pub range_in : List ℕ → ℕ → Option ContentRange
range_in span whole =
    if bytes_eq span (codes "*") then Some (NoPart whole) else part_of whole (numeral_of (before_octet 45 span)) (numeral_of (behind_octet 45 span))

-- `A-B/L` and `*/L`
abbrev pub range_of : List ℕ → Option ContentRange
range_of text = option_and_then (range_in (before_octet 47 text)) (numeral_of (behind_octet 47 text))

-- `bytes A-B/L` and `bytes */L`, in this spelling alone
abbrev pub range_told : List ℕ → Option ContentRange
range_told text = if bytes_eq (take 6 text) (codes "bytes ") then range_of (drop 6 text) else None

-- what the reply's one Content-Range line tells
abbrev pub content_range : Claim → Option ContentRange
content_range claim = option_and_then range_told (only_value (codes "content-range") claim.reply.head.fields)

-- ---- what a reply may be

-- the client asked for no part that the body has (RFC 9110 section 15.5.17)
abbrev pub range_not_satisfiable : ℕ
range_not_satisfiable = 416

-- whether it is a GET with a Range field, and the audit allows parts; what that asks for isn't judged
abbrev pub asks_for_part : Claim → Bool
asks_for_part claim = claim.settings.allowed.ranges && is_get claim.request.method && has_name (codes "range") claim.request.fields

-- whether those octets are the part of the body that is told
abbrev pub is_part_told : List ℕ → List ℕ → Option ContentRange → Bool
is_part_told octets body (Some (Part first last whole)) =
    nat_le first last && nat_lt last whole && whole == length body && bytes_eq octets (take (last + 1 - first) (drop first body))
is_part_told octets body told = false

-- whether it is told that there is no such part of a body of that length
abbrev pub is_no_part_told : ℕ → Option ContentRange → Bool
is_no_part_told size (Some (NoPart whole)) = whole == size
is_no_part_told size told = false

-- the reply is a 206 with the part that it tells of a response of status 200 with that body
abbrev pub is_part : Claim → ℕ → List ℕ → Bool
is_part claim status body =
    asks_for_part claim && claim.reply.head.status == partial_content && status == 200 && is_part_told claim.reply.body body (content_range claim)

-- the reply is a 416 that tells the length of the body of a response of status 200; its own body isn't compared
abbrev pub is_no_part : Claim → ℕ → List ℕ → Bool
is_no_part claim status body =
    asks_for_part claim && claim.reply.head.status == range_not_satisfiable && status == 200 && is_no_part_told (length body) (content_range claim)
