use Rattle.std.proofs.Common.{◌≡◌, take, Some}
use Rattle.hc_bench.specs.Storing.{behind_all}
use Rattle.hc_bench.proofs.storing.ask_all.Given as goal

-- the store was asked for so many of them so far
abbrev pub invariant-responses : goal.invariant-responses
invariant-responses g l = behind_all l.presented (take l.response-index l.responses) l.initial.store ≡ Some l.store
