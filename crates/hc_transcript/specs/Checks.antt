-- The checks of a record's line after a history, in their order.
use Rattle.std.specs.Prelude.{ℕ, Bool, true, ◌&&◌, List, Option, Some, None, is_some, ◌==◌, nat_lt, nat_le, not, if◌then◌else◌}
use Rattle.hc_transcript.specs.declared.fault.RecordFault.{RecordFault}
use Rattle.hc_transcript.specs.declared.fault.RecordFault.TheVariants as fault
use Rattle.hc_transcript.specs.declared.line.Kind.{Kind}
use Rattle.hc_transcript.specs.declared.line.Kind.TheVariants as kind
use Rattle.hc_transcript.specs.declared.line.Line.{Line}
use Rattle.hc_transcript.specs.declared.line.ToldCause.{ToldCause}
use Rattle.hc_transcript.specs.declared.line.ToldCause.TheVariants.{Exchange}
use Rattle.hc_transcript.specs.Limits.{greatest_number, greatest_moment, longest_message}
use Rattle.hc_transcript.specs.Items.{Item}
use Rattle.hc_transcript.specs.History.{exchange_of, forward_of, last_moment, last_exchange, last_forward}

-- a failure has no octets
abbrev pub has_right_length : Kind → ℕ → Bool
has_right_length kind.OriginFailure size = size == 0
has_right_length other size = true

-- a request opens a number greater than the last of its kind, up to the greatest; an answer has a number from 1 up to it
abbrev pub has_right_number : Kind → ℕ → ℕ → ℕ → Bool
has_right_number kind.ClientRequest exchange forward n = nat_lt exchange n && nat_le n greatest_number
has_right_number kind.OriginRequest exchange forward n = nat_lt forward n && nat_le n greatest_number
has_right_number other exchange forward n = nat_lt 0 n && nat_le n greatest_number

-- whether the exchange that is told as a cause is open; true where none is told
abbrev pub cause_is_open : ToldCause → List Item → Bool
cause_is_open (Exchange n) h = is_some (exchange_of n h)
cause_is_open other h = true

-- an exchange that is told as a cause is open, and has a number up to the greatest; true where none is told
abbrev pub has_right_cause : ToldCause → Bool → Bool
has_right_cause (Exchange n) is_open = is_open && nat_le n greatest_number
has_right_cause other is_open = true

-- an answer answers what is open
abbrev pub answers_open : Kind → Bool → Bool → Bool
answers_open kind.OriginResponse exchange forward = forward
answers_open kind.OriginFailure exchange forward = forward
answers_open kind.ClientReply exchange forward = exchange
answers_open other exchange forward = true

-- the first check that the line fails, by the last moment, the last numbers, and whether its cause, its exchange and its forward are open
abbrev pub first_fault : Line → ℕ → ℕ → ℕ → Bool → Bool → Bool → Option RecordFault
first_fault l moment exchange forward has_cause has_exchange has_forward =
    if not (nat_le l.moment greatest_moment && has_right_length l.kind l.size) then Some fault.Line
    else (if not (nat_le l.size longest_message) then Some fault.TooLong
    else (if nat_lt l.moment moment then Some fault.MomentBack
    else (if not (has_right_number l.kind exchange forward l.number) then Some fault.Number
    else (if not (has_right_cause l.cause has_cause) then Some fault.Cause
    else (if not (answers_open l.kind has_exchange has_forward) then Some fault.NothingOpen
    else None)))))

-- the first check that a line fails after a history
abbrev pub line_fault : List Item → Line → Option RecordFault
line_fault h l =
    first_fault l (last_moment h) (last_exchange h) (last_forward h) (cause_is_open l.cause h) (is_some (exchange_of l.number h)) (is_some (forward_of l.number h))
