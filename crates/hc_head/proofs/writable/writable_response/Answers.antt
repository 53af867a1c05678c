use Rattle.std.proofs.Common.{arith}
use Rattle.std.proofs.lemmas.Bool.Decides.{nat_tests}
use Rattle.hc_head.proofs.WrittenLemmas.{writable_response_from, writable_response_parts}
use Rattle.hc_head.proofs.writable.writable_response.Goals as goal

pub returns-then-len-room : goal.returns-then-len-room
returns-then-len-room c =
    let from = writable_response_from c.args.head.now c.args.room in
    let parts = writable_response_parts c.args.head.now c.args.room in
    grind (arith, nat_tests)

pub returns-else-len-room : goal.returns-else-len-room
returns-else-len-room c =
    let from = writable_response_from c.args.head.now c.args.room in
    let parts = writable_response_parts c.args.head.now c.args.room in
    grind (arith, nat_tests)
