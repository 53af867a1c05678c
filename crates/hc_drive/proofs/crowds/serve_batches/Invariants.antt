use Rattle.std.proofs.Common.{◌≡◌, ℕ, List}
use Rattle.hc_order.specs.Log.{Move}
use Rattle.hc_links.specs.Keeping.{KeepsLimits, KeepsRecorder}
use Rattle.hc_drive.specs.Crowds.{telling}
use Rattle.hc_drive.specs.Rounds.{stage}
use Rattle.hc_drive.proofs.CrowdLemmas.{Laws, TurnsSoFar}
use Rattle.hc_drive.proofs.crowds.serve_batches.Given as goal

-- the turns so far, and what laws say
abbrev pub invariant-turns : goal.invariant-turns
invariant-turns g l = record {
  laws : Laws;
  so_far : (log : List Move) (text : List ℕ) → g.L.Links.tells l.initial.links log → g.R.Link.has_got l.initial.recorder text
      → TurnsSoFar (g.L.Links.most l.initial.links) (g.L.Links.shows l.initial.links log × g.R.Link.has_kept l.initial.recorder text)
      (telling g.L.Links.tells g.L.Links.shows g.R.Link.has_got g.R.Link.has_kept l.links l.recorder) (stage l.initial.core log text) l.core l.counter;
  limits : KeepsLimits g.L.Links.most g.L.Links.bounds g.L.Links.may_tell l.initial.links l.links;
  recorder : KeepsRecorder g.R.Link.has_kept g.R.Link.was_read l.initial.recorder l.recorder;
  count : g.R.Link.count l.recorder ≡ g.R.Link.count l.initial.recorder;
  watched : g.V.Watcher.may_become l.initial.watcher l.watcher;
}
