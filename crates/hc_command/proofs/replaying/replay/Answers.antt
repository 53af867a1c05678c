use Rattle.hc_command.proofs.ReplayLemmas.{replays_input}
use Rattle.hc_command.proofs.replaying.replay.Goals as goal

pub returns-in-Ok : goal.returns-in-Ok
returns-in-Ok g c =
    replays_input (g.R.Read.remaining c.args.input.now) _ c.in-Ok.script.items _ _ _ _ _ c.in-Ok.ensures.consumed c.in-Ok.ensures.end
    (rw c.as_slice.ensures.value at c.played.ensures)
