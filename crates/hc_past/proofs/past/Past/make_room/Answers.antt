use Rattle.std.proofs.Common.{refl, arith}
use Rattle.hc_past.specs.Remembered.{most_ends}
use Rattle.hc_past.proofs.LatestLemmas.{forgets_one}
use Rattle.hc_past.proofs.past.Past.make_room.Goals as goal

pub returns-clause-latest : goal.returns-clause-latest
returns-clause-latest c = λ ends has.
    let left = forgets_one ends c.args.self.now.ends.items c.pop_front.new.self.items c.in-Some.oldest most_ends 1023 refl c.in-Some.ensures.items has.latest
    (omega (arith, c.len.ensures, c.if-len-lt-MOST_ENDS.false)) in
    record { all_targets = has.all_targets; latest = left.0; forgotten = left.1 }
