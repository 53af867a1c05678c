-- What is shown of pieces.
use Rattle.std.specs.Prelude.{ℕ, ◌+◌, ◌-◌, nat_le, List, [], ◌∷◌, ◌++◌, length, if◌then◌else◌}
use Rattle.hc_shown.specs.declared.values.Piece.{Piece}
use Rattle.hc_shown.specs.declared.values.Piece.TheVariants.{Hidden, Octet}
use Rattle.hc_shown.specs.Octets.{all_text, length_text, most_shown, octet_text}
use Rattle.hc_shown.specs.Hidden.{pieces_of}

-- of hidden octets how many they are
abbrev pub piece_text : Piece → List ℕ
piece_text (Octet octet) = octet_text octet
piece_text (Hidden count) = length_text count

-- as how many octets a piece counts: one that is hidden as eight, since its text is about as long as that of eight octets may be
abbrev pub piece_room : Piece → ℕ
piece_room (Octet octet) = 1
piece_room (Hidden count) = 8

-- the first pieces, as many as there is room for, of so many octets: how many these are, if that isn't all
abbrev pub fitting_text : ℕ → ℕ → List Piece → List ℕ
fitting_text count room [] = []
fitting_text count room (piece ∷ rest) =
    if nat_le (piece_room piece) room then piece_text piece ++ fitting_text count (room - piece_room piece) rest
    else all_text count

-- two runs of octets as one, each with what is hidden in it
abbrev pub both_text : List ℕ → List ℕ → List ℕ
both_text one other = fitting_text (length one + length other) most_shown (pieces_of one ++ pieces_of other)
