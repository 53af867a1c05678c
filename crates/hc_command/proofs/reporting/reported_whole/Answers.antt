use Rattle.hc_command.proofs.reporting.reported_whole.Goals as goal

pub returns : goal.returns
returns g c = (_, c.in_ok-end.ensures, c.in_ok-annotated.ensures)
