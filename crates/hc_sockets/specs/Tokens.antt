-- Of what a token tells.
use Rattle.std.specs.Prelude.{ℕ, ◌==◌, ◌/◌, ◌%◌, if◌then◌else◌}
use Rattle.hc_sockets.specs.declared.tokens.Source.{Source}
use Rattle.hc_sockets.specs.declared.tokens.Source.TheVariants.{Listener, Lookout, Watcher, Guest, Client, Origin}

-- that of a kind and a number
abbrev pub source_of_kind : (kind number : ℕ) → Source
source_of_kind kind number =
    if kind == 1 then Client number
    else if kind == 2 then Origin (number / 64) (number % 64)
    else if kind == 3 then Guest number
    else if kind == 4 then Lookout number
    else if kind == 5 then Watcher number
    else Listener number

-- that of a token
abbrev pub source_of : ℕ → Source
source_of token = source_of_kind (token % 8) (token / 8)
