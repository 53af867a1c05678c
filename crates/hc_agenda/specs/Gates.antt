-- What is known of clients who connect.
use Rattle.std.specs.Prelude.{Bool, true, false}
use Rattle.hc_agenda.specs.declared.listening.Gate.{Gate}
use Rattle.hc_agenda.specs.declared.listening.Gate.TheVariants.{Ready, Known, Idle, Full, Over}

-- whether one may have connected
abbrev pub is_ready : Gate → Bool
is_ready Ready = true
is_ready Known = true
is_ready other = false

-- whether one has, as was told
abbrev pub is_known : Gate → Bool
is_known Known = true
is_known other = false

-- whether none has, as far as is known, or no further one can
abbrev pub is_idle : Gate → Bool
is_idle Idle = true
is_idle Over = true
is_idle other = false

-- whether no further one can
abbrev pub is_over : Gate → Bool
is_over Over = true
is_over other = false

-- it is told that one has connected: where the system has no place for it, or no further one can connect, that changes nothing
abbrev pub woken_at : Gate → Gate
woken_at Idle = Known
woken_at Ready = Known
woken_at other = other

-- some may have connected of whom nothing was told
abbrev pub looked_at : Gate → Gate
looked_at Idle = Ready
looked_at other = other

-- one was accepted: further ones may have connected
abbrev pub accepted_at : Gate → Gate
accepted_at Known = Ready
accepted_at other = other

-- the system may have a place again
abbrev pub retried_at : Gate → Gate
retried_at Full = Ready
retried_at other = other
