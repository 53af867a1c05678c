use Rattle.hc_command.proofs.ConvertLemmas.{converts_input}
use Rattle.hc_command.proofs.converting.convert.Goals as goal

pub returns-in-Ok-clause-converts : goal.returns-in-Ok-clause-converts
returns-in-Ok-clause-converts g c =
    converts_input (g.R.Read.remaining c.args.input.now) _ c.in-Ok.octets.items _ _ _ _ _ c.in-Ok.ensures.consumed c.in-Ok.ensures.end
    (rw c.as_slice.ensures.value at c.converted.ensures)
