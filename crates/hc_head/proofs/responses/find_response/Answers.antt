use Rattle.std.proofs.Common.{sym, ◌∙◌, arith}
use Rattle.hc_head.proofs.ResponseLemmas.{response_covered, whole_head, no_head_in_room, many_fields, no_status, low_status, may_become}
use Rattle.hc_head.proofs.responses.find_response.Goals as goal

pub returns-in-Some-clause-gives : goal.returns-in-Some-clause-gives
returns-in-Some-clause-gives c =
    whole_head c.args.bytes.now c.front_of-front.result.now c.args.room c.parse_response.new.headers c.in-Ok-Complete.found _
    c.front_of-front.ensures (omega (arith, c.requires)) (rw c.in-Ok-Complete.field-0-is at c.in-Ok-Complete.ensures.within) (rw c.in-Ok-Complete.field-0-is at c.in-Ok-Complete.ensures.complete)
    (response_covered c.args.bytes.now c.front_of-front.result.now c.args.room.octets c.parse_response.new.headers _ c.front_of-front.ensures (rw c.in-Ok-Complete.field-0-is at c.in-Ok-Complete.ensures.within) c.in-Some.ensures.1)
    (omega (arith, c.in-Some.ensures.0.0, c.in-Some.ensures.1))

pub returns-else-bytes-room-clause-gives : goal.returns-else-bytes-room-clause-gives
returns-else-bytes-room-clause-gives c =
    (no_head_in_room c.args.bytes.now c.front_of-front.result.now c.args.room c.front_of-front.ensures (rw c.in-Ok-Partial.field-0-is at c.in-Ok-Partial.ensures.partial), c.if-bytes-room.false)

pub returns-in-Err-TooManyHeaders-clause-gives : goal.returns-in-Err-TooManyHeaders-clause-gives
returns-in-Err-TooManyHeaders-clause-gives c =
    many_fields c.args.bytes.now c.front_of-front.result.now c.args.room _ c.front_of-front.ensures c.requires c.in-Err-TooManyHeaders.ensures.no_room

pub returns-in_default-clause-gives : goal.returns-in_default-clause-gives
returns-in_default-clause-gives c =
    no_status c.args.bytes.now c.front_of-front.result.now c.args.room c.parse_response.new.headers c.in-Ok-Complete.found
    c.front_of-front.ensures (rw c.in-Ok-Complete.field-0-is at c.in-Ok-Complete.ensures.complete) c.in_default.ensures

pub returns-then-has_low_status-clause-gives : goal.returns-then-has_low_status-clause-gives
returns-then-has_low_status-clause-gives c =
    low_status c.args.bytes.now c.front_of-front.result.now c.args.room c.front_of-front.ensures (sym c.has_low_status.ensures ∙ c.if-has_low_status.true)

pub returns-then-bytes-room-clause-unfinished : goal.returns-then-bytes-room-clause-unfinished
returns-then-bytes-room-clause-unfinished c =
    may_become c.args.bytes.now c.front_of-front.result.now c.args.room c.front_of-front.ensures
    (rw c.in-Ok-Partial.field-0-is at c.in-Ok-Partial.ensures.unfinished) (sym c.has_low_status.ensures ∙ c.if-has_low_status.false)

pub returns-else-bytes-room-clause-unfinished : goal.returns-else-bytes-room-clause-unfinished
returns-else-bytes-room-clause-unfinished c =
    may_become c.args.bytes.now c.front_of-front.result.now c.args.room c.front_of-front.ensures
    (rw c.in-Ok-Partial.field-0-is at c.in-Ok-Partial.ensures.unfinished) (sym c.has_low_status.ensures ∙ c.if-has_low_status.false)
