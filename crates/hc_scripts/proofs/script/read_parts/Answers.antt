use Rattle.hc_scripts.proofs.ScriptEventLemmas.{events_break_script}
use Rattle.hc_scripts.proofs.script.read_parts.Goals as goal

pub returns-in_err-events-clause-err : goal.returns-in_err-events-clause-err
returns-in_err-events-clause-err c =
    events_break_script c.args.octets.now c.in_ok-rest.rest.now c.in_ok-size.rest.now c.in_ok-size.size.keys c.in_ok-size.size.bytes c.in_err-events.field-0.0 _
    c.from_residual-in_err-events.ensures.1 c.in_ok-rest.ensures.ok c.in_ok-size.ensures.ok c.in_err-events.ensures.err
