-- The requests that the cache sends to the origin (RFC 9110 section 7.6, RFC 9111 section 4.3.1, RFC 9112 section 3.2.1).
use Rattle.std.specs.Prelude.{ℕ, Bool, ◌||◌, not, List, [], ◌∷◌, ◌++◌, Option, Some, None, filter, codes}
use Rattle.std.specs.Str.{bytes_eq}
use Rattle.hc_fields.specs.declared.fields.Field.{Field}
use Rattle.hc_fields.specs.Values.{line, without}
use Rattle.hc_fields.specs.Connection.{removed}
use Rattle.hc_head.specs.declared.head.RequestHead.{RequestHead}
use Rattle.hc_head.specs.declared.head.Target.{Target}
use Rattle.hc_head.specs.declared.head.Version.{Version}
use Rattle.hc_head.specs.declared.head.Version.TheVariants.{Http10, Http11}
use Rattle.hc_rules.specs.Validators.{tag_of, last_modified_of}

-- ---- what goes forward of a request that was received

-- whether a line of that name does: none that is removed on forwarding (RFC 9110 section 7.6.1); Host is written anew, and no expectation is passed
-- on (this project's own choice)
abbrev pub goes_forward : List Field → List ℕ → Bool
goes_forward received name = not (removed name received || bytes_eq name (codes "host") || bytes_eq name (codes "expect"))

-- its lines that go forward, in order
abbrev pub passed_on : List Field → List Field
passed_on received = filter (λ f. goes_forward received f.name) received

-- the lines without the client's own conditions (RFC 9110 sections 13.1.2 and 13.1.3)
abbrev pub without_conditions : List Field → List Field
without_conditions fields = without (codes "if-modified-since") (without (codes "if-none-match") fields)

-- ---- the lines of the cache's own

-- Host, with the host of the target (RFC 9110 section 7.2)
abbrev pub host_line : Target → Field
host_line target = line (codes "host") target.host

-- the number of a version, as Via has it
abbrev pub version_number : Version → List ℕ
version_number Http10 = codes "1.0"
version_number Http11 = codes "1.1"

-- what Via says: the version in which the request was received, and the name of the cache (RFC 9110 section 7.6.3)
abbrev pub via_value : Version → List ℕ → List ℕ
via_value version name = version_number version ++ codes " " ++ name

-- the connection closes behind the message (RFC 9112 section 9.6)
abbrev pub close_line : Field
close_line = line (codes "connection") (codes "close")

-- Via, and that the connection closes
abbrev pub via_and_close : Version → List ℕ → List Field
via_and_close version name = line (codes "via") (via_value version name) ∷ close_line ∷ []

-- the condition by a tag, else by a Last-Modified, else none
abbrev pub condition_by : Option (List ℕ) → Option (List ℕ) → List Field
condition_by (Some tag) modified = line (codes "if-none-match") tag ∷ []
condition_by None (Some modified) = line (codes "if-modified-since") modified ∷ []
condition_by None None = []

-- the condition that asks whether a stored response with those fields still holds (RFC 9111 section 4.3.1)
abbrev pub condition_lines : List Field → List Field
condition_lines stored = condition_by (tag_of stored) (last_modified_of stored)

-- ---- the requests, which the cache of that name makes of one that it received

-- Host, and behind it the lines that go forward
abbrev pub front_lines : Target → List Field → List Field
front_lines target received = host_line target ∷ passed_on received

-- a request by that method for the target, with those lines
abbrev pub forward_head : List ℕ → Target → List Field → RequestHead
forward_head method target lines = record { method = method; target = target.path; version = Http11; fields = lines }

-- the request as it was received
abbrev pub plain_request : List ℕ → Target → RequestHead → RequestHead
plain_request name target received =
    forward_head received.method target (front_lines target received.fields ++ via_and_close received.version name)

-- the request without the client's own conditions, so that it isn't answered by a 304
abbrev pub unconditional_request : List ℕ → Target → RequestHead → RequestHead
unconditional_request name target received =
    forward_head received.method target (without_conditions (front_lines target received.fields) ++ via_and_close received.version name)

-- a GET that asks whether a stored response with those fields still holds, in place of what the client asks
abbrev pub conditional_request : List ℕ → Target → RequestHead → List Field → RequestHead
conditional_request name target received stored =
    forward_head (codes "GET") target
    (without_conditions (front_lines target received.fields) ++ condition_lines stored ++ via_and_close received.version name)
