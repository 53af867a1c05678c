use Rattle.std.proofs.Common.{arith}
use Rattle.hc_head.proofs.WeightLemmas.{weight_written}
use Rattle.hc_head.proofs.WrittenLemmas.{length-response_text}
use Rattle.hc_head.proofs.writable.room_behind_response.Goals as goal

pub returns-in_err-room : goal.returns-in_err-room
returns-in_err-room c = grind (arith, length-response_text c.args.head.now (omega (arith, c.as_u16-status.ensures.value, c.as_u16-status.ensures.valid.0)) (omega (arith, c.as_u16-status.ensures.value, c.as_u16-status.ensures.valid.1)), weight_written c.args.head.now.fields)

pub returns : goal.returns
returns c = grind (arith, length-response_text c.args.head.now (omega (arith, c.as_u16-status.ensures.value, c.as_u16-status.ensures.valid.0)) (omega (arith, c.as_u16-status.ensures.value, c.as_u16-status.ensures.valid.1)), weight_written c.args.head.now.fields)
