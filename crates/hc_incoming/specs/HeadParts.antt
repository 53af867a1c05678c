-- For the crate's own functions: what the tests of a head say.
use Rattle.std.specs.Prelude.{Result, Ok, Err}
use Rattle.std.specs.declared.alloc.AllocError.{AllocError}
use Rattle.hc_head.specs.declared.head.RequestHead.{RequestHead}
use Rattle.hc_incoming.specs.declared.heads.Tested.{Tested}
use Rattle.hc_incoming.specs.declared.heads.Tested.TheVariants.{Served, Refused}
use Rattle.hc_incoming.specs.Refusals.{IsUnservedFor}
use Rattle.hc_incoming.specs.Requests.{IsServed}

-- each answer stands only where this says so
abbrev pub GivesTested : Result Tested AllocError → RequestHead → Type 0
GivesTested (Ok (Served target)) head = IsServed head target
GivesTested (Ok (Refused trouble)) head = IsUnservedFor head trouble
GivesTested (Err e) head = Unit {0}
