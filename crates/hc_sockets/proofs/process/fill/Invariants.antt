use Rattle.std.proofs.Common.{◌-◌, ◌≤◌, length}
use Rattle.hc_sockets.proofs.process.fill.Given as goal

-- what was read stands at the front of the buffer
abbrev pub invariant-reads : goal.invariant-reads
invariant-reads g l = l.filled ≤ length l.buffer

-- each read brings something
abbrev pub decreases-reads : goal.decreases-reads
decreases-reads g l = length l.initial.buffer - l.filled
