use Rattle.std.proofs.Common.{◌≡◌, ◌++◌}
use Rattle.hc_service.specs.declared.settings.CoreSettings.{CoreSettings}
use Rattle.hc_service.specs.State.{State}
use Rattle.hc_core.specs.Standing.{CanServe, GivesReadings, DeskStandsFor, from_state, at_desk}
use Rattle.hc_core.proofs.desk.Desk.read_all.Given as goal

-- those so far are read, and the others are left
abbrev pub invariant-clients : goal.invariant-clients
invariant-clients g l = record {
  can : CanServe {S = g.row.S.Denot} {H = g.row.S-Hasher.Denot} l.self;
  so_far : (settings : CoreSettings) (s : State) → DeskStandsFor {S = g.row.S.Denot} {H = g.row.S-Hasher.Denot} settings l.fn.self s
      → GivesReadings {S = g.row.S.Denot} {H = g.row.S-Hasher.Denot} (from_state settings s l.fn.actions.items) l.yielded (at_desk l.actions.items l.self);
  left : l.yielded ++ l.c-iterator.rest.items ≡ l.fn.clients.items;
}
