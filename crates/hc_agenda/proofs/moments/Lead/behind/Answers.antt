use Rattle.std.proofs.Common.{ℕ, ◌+◌, ◌-◌, Some, nat_le, arith, refl}
use Rattle.hc_agenda.specs.MomentsKept.{lasts}
use Rattle.hc_agenda.proofs.MomentsLemmas.{told_of}
use Rattle.hc_agenda.proofs.moments.Lead.behind.Goals as goal

pub returns-clause-lasts : goal.returns-clause-lasts
returns-clause-lasts c = λ begun d now.
    told_of c.args.seconds (c.args.seconds - 1) (c.args.seconds + 1) d (nat_le (c.args.counted + 5_000_000_000) now)
    (nat_le (c.since.result + 5_000_000_000) now) (nat_le (c.since-2.result + 5_000_000_000) now) (nat_le (c.since-3.result + 5_000_000_000) now)
    (λ (k : ℕ). lasts (Some c.args.self) k now) (omega arith) refl (c.since.ensures.since begun now) (c.since-2.ensures.since begun now) (c.since-3.ensures.since begun now)
