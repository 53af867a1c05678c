use Rattle.hc_links.proofs.KeepingLemmas.{limits_same, limits_stay}
use Rattle.hc_drive.proofs.crowds.pause.Goals as goal

pub returns-in_err-flush-clause-limits : goal.returns-in_err-flush-clause-limits
returns-in_err-flush-clause-limits g c = limits_same c.args.links.now

pub returns-in_err-wait-clause-limits : goal.returns-in_err-wait-clause-limits
returns-in_err-wait-clause-limits g c = limits_stay c.deliver.ensures.limits c.wait.ensures.links.limits

pub returns-clause-limits : goal.returns-clause-limits
returns-clause-limits g c = limits_stay c.deliver.ensures.limits c.wait.ensures.links.limits
