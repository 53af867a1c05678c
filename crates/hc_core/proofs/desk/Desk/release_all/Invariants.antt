use Rattle.std.proofs.Common.{◌≡◌, ◌++◌}
use Rattle.hc_service.specs.declared.settings.CoreSettings.{CoreSettings}
use Rattle.hc_service.specs.State.{State}
use Rattle.hc_core.specs.Standing.{CanServe, DeskStandsFor}
use Rattle.hc_core.proofs.ReleaseLemmas.{HaveReleased}
use Rattle.hc_core.proofs.desk.Desk.release_all.Given as goal

-- those so far are released, and the others are left
abbrev pub invariant-waiting : goal.invariant-waiting
invariant-waiting g l = record {
  can : CanServe {S = g.row.S.Denot} {H = g.row.S-Hasher.Denot} l.self;
  so_far : (settings : CoreSettings) (s : State) → DeskStandsFor {S = g.row.S.Denot} {H = g.row.S-Hasher.Denot} settings l.fn.self s
      → HaveReleased g.row.S.Denot g.row.S-Hasher.Denot settings s l.fn.actions.items l.yielded l.fn.clients.items l.clients.items l.actions.items l.self;
  left : l.yielded ++ l.e-iterator.rest.items ≡ l.fn.waiting.items;
}
