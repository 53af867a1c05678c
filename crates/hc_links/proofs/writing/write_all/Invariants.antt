use Rattle.std.proofs.Common.{length, take, ◌-◌, ◌≡◌, ◌<◌, ℕ, List, ◌++◌, ◌≤◌}
use Rattle.hc_links.specs.Links.{greatest_count}
use Rattle.hc_links.proofs.writing.write_all.Given as goal

-- so many octets were written
abbrev pub invariant-pieces : goal.invariant-pieces
invariant-pieces g l = record {
  bound : l.at ≤ length l.octets;
  few : g.L.Link.count l.link < greatest_count;
  count : g.L.Link.count l.link ≡ g.L.Link.count l.initial.link;
  given : (given : List ℕ) → g.L.Link.has_given l.initial.link given → g.L.Link.has_given l.link given;
  reads : (times : ℕ) → g.L.Link.was_read l.initial.link times → g.L.Link.was_read l.link times;
  kept : (kept : List ℕ) → g.L.Link.has_kept l.initial.link kept → g.L.Link.has_kept l.link kept;
  got : (got : List ℕ) → g.L.Link.has_got l.initial.link got → g.L.Link.has_got l.link (got ++ take l.at l.octets);
}

abbrev pub decreases-pieces : goal.decreases-pieces
decreases-pieces g l = length l.octets - l.at
