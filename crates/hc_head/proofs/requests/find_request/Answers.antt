use Rattle.std.proofs.Common.{arith}
use Rattle.hc_head.proofs.RequestLemmas.{request_covered, whole_head, no_head_in_room, many_fields, no_text, may_become}
use Rattle.hc_head.proofs.requests.find_request.Goals as goal

pub returns-in-Ok-Complete-clause-gives : goal.returns-in-Ok-Complete-clause-gives
returns-in-Ok-Complete-clause-gives c =
    whole_head c.args.bytes.now c.front_of-front.result.now c.args.room c.parse_request.new.headers c.in-Ok-Complete.found _
    c.front_of-front.ensures (omega (arith, c.requires)) (rw c.in-Ok-Complete.field-0-is at c.in-Ok-Complete.ensures.within) (rw c.in-Ok-Complete.field-0-is at c.in-Ok-Complete.ensures.complete)
    (request_covered c.args.bytes.now c.front_of-front.result.now c.args.room.octets c.parse_request.new.headers c.in-Ok-Complete.found c.front_of-front.ensures (rw c.in-Ok-Complete.field-0-is at c.in-Ok-Complete.ensures.within))

pub returns-else-bytes-room-clause-gives : goal.returns-else-bytes-room-clause-gives
returns-else-bytes-room-clause-gives c =
    (no_head_in_room c.args.bytes.now c.front_of-front.result.now c.args.room c.front_of-front.ensures (rw c.in-Ok-Partial.field-0-is at c.in-Ok-Partial.ensures.partial), c.if-bytes-room.false)

pub returns-in-Err-TooManyHeaders-clause-gives : goal.returns-in-Err-TooManyHeaders-clause-gives
returns-in-Err-TooManyHeaders-clause-gives c =
    many_fields c.args.bytes.now c.front_of-front.result.now c.args.room _ c.front_of-front.ensures c.requires c.in-Err-TooManyHeaders.ensures.no_room

pub returns-then-has_hopeless_target-clause-gives : goal.returns-then-has_hopeless_target-clause-gives
returns-then-has_hopeless_target-clause-gives c =
    no_text c.args.bytes.now c.front_of-front.result.now c.args.room c.front_of-front.ensures c.if-has_hopeless_target.ensures

pub returns-then-bytes-room-clause-unfinished : goal.returns-then-bytes-room-clause-unfinished
returns-then-bytes-room-clause-unfinished c =
    may_become c.args.bytes.now c.front_of-front.result.now c.args.room c.front_of-front.ensures
    (rw c.in-Ok-Partial.field-0-is at c.in-Ok-Partial.ensures.unfinished) c.if-has_hopeless_target.ensures

pub returns-else-bytes-room-clause-unfinished : goal.returns-else-bytes-room-clause-unfinished
returns-else-bytes-room-clause-unfinished c =
    may_become c.args.bytes.now c.front_of-front.result.now c.args.room c.front_of-front.ensures
    (rw c.in-Ok-Partial.field-0-is at c.in-Ok-Partial.ensures.unfinished) c.if-has_hopeless_target.ensures
