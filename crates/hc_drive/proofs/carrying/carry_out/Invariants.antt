use Rattle.std.proofs.Common.{◌≡◌, ℕ, List, take}
use Rattle.hc_order.specs.Log.{Move}
use Rattle.hc_links.specs.Keeping.{KeepsLinks, KeepsRecorder}
use Rattle.hc_drive.specs.Carrying.{AreDone}
use Rattle.hc_drive.proofs.carrying.carry_out.Given as goal

-- the actions so far were carried out
abbrev pub invariant-actions : goal.invariant-actions
invariant-actions g l = record {
  done : (log : List Move) (text : List ℕ) → g.L.Links.tells l.initial.links log → g.R.Link.has_got l.initial.recorder text
      → AreDone (g.L.Links.tells l.links) (g.R.Link.has_got l.recorder) (take l.action-index l.actions) log text;
  links : KeepsLinks g.L.Links.shows g.L.Links.most g.L.Links.bounds g.L.Links.may_tell l.initial.links l.links;
  recorder : KeepsRecorder g.R.Link.has_kept g.R.Link.was_read l.initial.recorder l.recorder;
  count : g.R.Link.count l.recorder ≡ g.R.Link.count l.initial.recorder;
}
