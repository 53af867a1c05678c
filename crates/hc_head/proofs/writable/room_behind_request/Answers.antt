use Rattle.std.proofs.Common.{arith}
use Rattle.hc_head.proofs.WeightLemmas.{weight_written}
use Rattle.hc_head.proofs.WrittenLemmas.{length-request_text}
use Rattle.hc_head.proofs.writable.room_behind_request.Goals as goal

pub returns-in_err-room-3 : goal.returns-in_err-room-3
returns-in_err-room-3 c = grind (arith, length-request_text c.args.head.now, weight_written c.args.head.now.fields)

pub returns : goal.returns
returns c = grind (arith, length-request_text c.args.head.now, weight_written c.args.head.now.fields)
