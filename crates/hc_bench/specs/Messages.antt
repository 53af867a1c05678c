-- The messages that are read, as texts.
use Rattle.std.specs.Prelude.{ℕ, List, [], ◌∷◌, ◌++◌, false, codes}
use Rattle.std.specs.Fmt.{digits}
use Rattle.std.specs.List.{repeat}

-- the end of a line
abbrev pub line_end : List ℕ
line_end = 13 ∷ 10 ∷ []

-- so many octets
abbrev pub filler : ℕ → List ℕ
filler count = repeat count (codes "x")

-- a chunk of so many octets (RFC 9112 section 7.1)
abbrev pub chunk : ℕ → List ℕ
chunk size = digits 16 false size ++ (line_end ++ (filler size ++ line_end))

-- a response whose body is so many chunks of so many octets each
abbrev pub chunked_response : ℕ → ℕ → List ℕ
chunked_response chunks size =
    codes "HTTP/1.1 200 " ++ line_end ++ codes "transfer-encoding: chunked" ++ line_end ++ line_end
    ++ (repeat chunks (chunk size) ++ (codes "0" ++ line_end ++ line_end))

-- a field line (RFC 9112 section 5) whose value has so many octets
abbrev pub field_line : ℕ → List ℕ
field_line length = codes "long: " ++ (filler length ++ line_end)

-- a request that has so many such lines behind the Host line, and no body
abbrev pub long_request : ℕ → ℕ → List ℕ
long_request fields length =
    codes "GET /index.html HTTP/1.1" ++ line_end ++ codes "host: www.a-long-name.example:8080" ++ line_end
    ++ (repeat fields (field_line length) ++ line_end)
