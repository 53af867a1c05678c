use Rattle.std.proofs.Common.{true}
use Rattle.hc_service.specs.declared.settings.CoreSettings.{CoreSettings}
use Rattle.hc_service.specs.State.{State}
use Rattle.hc_core.specs.Reading.{unread_at}
use Rattle.hc_core.specs.Standing.{CanServe, GivesReading, DeskStandsFor, from_state, at_desk}
use Rattle.hc_core.proofs.desk.Desk.read_on.Given as goal

-- what was read so far
abbrev pub invariant-loop : goal.invariant-loop
invariant-loop g l = record {
  can : CanServe {S = g.row.S.Denot} {H = g.row.S-Hasher.Denot} l.self;
  so_far : (settings : CoreSettings) (s : State) → DeskStandsFor {S = g.row.S.Denot} {H = g.row.S-Hasher.Denot} settings l.fn.self s
      → GivesReading {S = g.row.S.Denot} {H = g.row.S-Hasher.Denot} (from_state settings s l.fn.actions.items) l.c true (at_desk l.actions.items l.self);
}

abbrev pub decreases-loop : goal.decreases-loop
decreases-loop g l = unread_at l.c l.self.clients
