use Rattle.std.proofs.Common.{◌∙◌, sym, ap}
use Rattle.hc_status.specs.Marks.{mark_of_last}
use Rattle.hc_status.proofs.MarkLemmas.{last_is}
use Rattle.hc_status.proofs.marking.mark_of_last.Goals as goal

pub returns-in-Some : goal.returns-in-Some
returns-in-Some c = c.mark_of_member.ensures ∙ ap mark_of_last (c.in-Some.ensures.value ∙ sym (last_is c.args.members.now))
