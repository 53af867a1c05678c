use Rattle.std.proofs.Common.{length, ◌≡◌, ◌<◌, ◌≤◌, ℕ, List}
use Rattle.hc_links.specs.Buffers.{HasGot, HasKept}
use Rattle.hc_links.specs.Links.{greatest_count}
use Rattle.hc_links.proofs.buffered.Buffered.write_waiting.Given as goal

-- what was written stays so
abbrev pub invariant-pieces : goal.invariant-pieces
invariant-pieces g l = record {
  few : g.R.Link.count l.self.link < greatest_count;
  count : g.R.Link.count l.self.link ≡ g.R.Link.count l.initial.self.link;
  given : (given : List ℕ) → g.R.Link.has_given l.initial.self.link given → g.R.Link.has_given l.self.link given;
  reads : (times : ℕ) → g.R.Link.was_read l.initial.self.link times → g.R.Link.was_read l.self.link times;
  got : (octets : List ℕ) → HasGot g.R.Link.has_got l.initial.self.link l.initial.self.waiting octets → HasGot g.R.Link.has_got l.self.link l.self.waiting octets;
  kept : (kept : List ℕ) → HasKept g.R.Link.has_got l.initial.self.link kept → HasKept g.R.Link.has_got l.self.link kept;
  fewer : length l.self.waiting ≤ length l.initial.self.waiting;
}

abbrev pub decreases-pieces : goal.decreases-pieces
decreases-pieces g l = length l.self.waiting
