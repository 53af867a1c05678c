use Rattle.std.proofs.Common.{◌≡◌, drop, map}
use Rattle.std.specs.List.{list_any}
use Rattle.hc_why.specs.Due.{is_end_at}
use Rattle.hc_past.specs.Remembered.{end_seen}
use Rattle.hc_why.proofs.changes.end_at.Given as goal

-- one stands there where one of those that are left does
abbrev pub invariant-ends : goal.invariant-ends
invariant-ends l =
    list_any (is_end_at l.target l.position) (map end_seen (drop l.end-index l.ends)) ≡ list_any (is_end_at l.target l.position) (map end_seen l.ends)
