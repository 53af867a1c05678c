use Rattle.std.proofs.Common.{◌≡◌, ℕ, List}
use Rattle.hc_links.specs.Keeping.{KeepsRecorder}
use Rattle.hc_drive.specs.Clients.{ComeSince, LeftSince, Serving}
use Rattle.hc_drive.specs.Drives.{IsLeftIdle}
use Rattle.hc_drive.proofs.clients.serve_clients.Given as goal

-- the connections so far
abbrev pub invariant-connections : goal.invariant-connections
invariant-connections g l = record {
  so_far : (text : List ℕ) → g.R.Link.has_got l.initial.recorder text
      → Serving (g.K.Clock.may_tell l.initial.surroundings.clock.now) (ComeSince (g.A.Clients.came l.initial.clients) (g.A.Clients.came l.clients)) (LeftSince (g.A.Clients.left l.initial.clients) (g.A.Clients.left l.clients))
      (g.R.Link.has_got l.recorder) l.served 0 l.initial.core l.core text;
  idle : IsLeftIdle l.initial.core → IsLeftIdle l.core;
  count : g.R.Link.count l.recorder ≡ g.R.Link.count l.initial.recorder;
  recorder : KeepsRecorder g.R.Link.has_kept g.R.Link.was_read l.initial.recorder l.recorder;
}
