-- How large what is kept of a response's head may be (this project's own choice).
use Rattle.std.specs.Prelude.{Bool, ◌&&◌, length, nat_le}
use Rattle.hc_head.specs.Weights.{fields_weight}
use Rattle.hc_update.specs.declared.stored.Stored.{Stored}

-- at most 100 lines, and at most 65,536 octets of them as they are written
abbrev pub fits : Stored → Bool
fits state = nat_le (length state.fields) 100 && nat_le (fields_weight state.fields) 65536
