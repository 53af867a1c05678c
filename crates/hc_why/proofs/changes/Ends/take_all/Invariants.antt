use Rattle.std.proofs.Common.{◌≡◌, drop, map}
use Rattle.hc_why.specs.Due.{told_by_all, told_of}
use Rattle.hc_why.specs.Listing.{Lists}
use Rattle.hc_past.specs.Remembered.{end_seen}
use Rattle.hc_why.proofs.changes.Ends.take_all.Given as goal

-- with those that are left it tells what it tells with all, and what it lists is so, if that was before
abbrev pub invariant-ends : goal.invariant-ends
invariant-ends l =
    (told_by_all l.known.claim (told_of l.self) (map end_seen (drop l.end-index l.ends)) ≡ told_by_all l.known.claim (told_of l.initial.self) (map end_seen l.ends))
    × (Lists l.known.claim l.known.nearest l.initial.self → Lists l.known.claim l.known.nearest l.self)
