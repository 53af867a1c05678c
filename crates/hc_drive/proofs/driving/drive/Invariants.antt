use Rattle.std.proofs.Common.{◌≡◌, ℕ, List}
use Rattle.hc_order.specs.Log.{Move}
use Rattle.hc_links.specs.Keeping.{KeepsLinks, KeepsRecorder}
use Rattle.hc_drive.proofs.DriveLemmas.{SoFar}
use Rattle.hc_drive.proofs.driving.drive.Given as goal

-- the rounds so far
abbrev pub invariant-rounds : goal.invariant-rounds
invariant-rounds g l = record {
  so_far : (log : List Move) (text : List ℕ) → g.L.Links.tells l.initial.links log → g.R.Link.has_got l.initial.recorder text
      → SoFar (g.L.Links.most l.initial.links) (g.L.Links.tells l.links) (g.R.Link.has_got l.recorder) l.initial.core l.core log text l.counter;
  links : KeepsLinks g.L.Links.shows g.L.Links.most g.L.Links.bounds g.L.Links.may_tell l.initial.links l.links;
  recorder : KeepsRecorder g.R.Link.has_kept g.R.Link.was_read l.initial.recorder l.recorder;
  count : g.R.Link.count l.recorder ≡ g.R.Link.count l.initial.recorder;
}
