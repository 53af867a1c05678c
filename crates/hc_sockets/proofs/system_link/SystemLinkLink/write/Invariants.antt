use Rattle.std.proofs.Common.{◌≡◌}
use Rattle.hc_sockets.proofs.system_link.SystemLinkLink.write.Given as goal

-- no failure is counted so far
abbrev pub invariant-tries : goal.invariant-tries
invariant-tries g l = l.self.failures ≡ l.fn.self.failures
