-- Which texts name an origin.
use Rattle.std.specs.Prelude.{Bool, ◌==◌, ◌&&◌, ◌||◌, [], ◌∷◌, false, not}
use Rattle.std.specs.Str.Parse.{digits_value, without_leading_plus}
use Rattle.clap.specs.Words.{Text}
use Rattle.hc_fields.specs.Numbers.{is_number}

-- digits that write 0, perhaps behind a plus
abbrev pub writes_zero : Text → Bool
writes_zero text = is_number (without_leading_plus text) && (digits_value 10 (without_leading_plus text) == 0)

-- behind a colon nothing but port 0 stands
abbrev pub ends_in_port_zero : Text → Bool
ends_in_port_zero [] = false
ends_in_port_zero (octet ∷ rest) = (octet == 58 && writes_zero rest) || ends_in_port_zero rest

-- an origin has any port but 0, to which nothing can connect
abbrev pub is_origin : Text → Bool
is_origin text = not (ends_in_port_zero text)
