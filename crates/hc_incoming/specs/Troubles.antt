-- What a fault tells, and the status that answers it.
use Rattle.std.specs.Prelude.{ℕ, Option, Some, None}
use Rattle.hc_incoming.specs.declared.troubles.Trouble.{Trouble}
use Rattle.hc_incoming.specs.declared.troubles.Trouble.TheVariants as troubles
use Rattle.hc_head.specs.declared.fault.HeadFault.{HeadFault}
use Rattle.hc_head.specs.declared.fault.HeadFault.TheVariants as heads
use Rattle.hc_framing.specs.declared.fault.FrameFault.{FrameFault}
use Rattle.hc_framing.specs.declared.fault.FrameFault.TheVariants as faults

-- of a head; refused memory isn't told so
abbrev pub head_trouble : HeadFault → Trouble
head_trouble heads.Syntax = troubles.Syntax
head_trouble heads.TooManyFields = troubles.TooManyFields
head_trouble heads.TooLong = troubles.HeadTooLong
head_trouble heads.Host = troubles.Host
head_trouble heads.Target = troubles.Target
head_trouble heads.Memory = troubles.Syntax

-- of a message; neither refused memory nor a reader that has failed before is told so
abbrev pub trouble_of : FrameFault → Trouble
trouble_of (faults.Head fault) = head_trouble fault
trouble_of faults.BothLengths = troubles.BothLengths
trouble_of faults.BadLength = troubles.BadLength
trouble_of faults.BadCoding = troubles.BadCoding
trouble_of faults.BadChunk = troubles.BadChunk
trouble_of faults.BodyTooLong = troubles.BodyTooLong
trouble_of faults.Truncated = troubles.EndedEarly
trouble_of faults.Memory = troubles.Syntax
trouble_of faults.Failed = troubles.Syntax

-- at the client's end, where what is merely cut off has no reply
abbrev pub last_trouble : FrameFault → Option Trouble
last_trouble faults.Truncated = None
last_trouble fault = Some (trouble_of fault)

-- the status of the reply that refuses a request (RFC 9110 sections 15.5.1, 15.5.14, 15.5.18 and 15.6.2, RFC 6585 section 5)
abbrev pub refusal_status : Trouble → ℕ
refusal_status troubles.TooManyFields = 431
refusal_status troubles.HeadTooLong = 431
refusal_status troubles.BodyTooLong = 413
refusal_status troubles.BadCoding = 501
refusal_status troubles.Expectation = 417
refusal_status other = 400
