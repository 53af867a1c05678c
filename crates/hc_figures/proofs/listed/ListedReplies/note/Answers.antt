use Rattle.hc_figures.proofs.ListedLemmas.{noted}
use Rattle.hc_figures.proofs.listed.ListedReplies.note.Goals as goal

pub returns-clause-listed : goal.returns-clause-listed
returns-clause-listed c = λ wrongs are.
    noted wrongs c.args.wrong c.args.self.now _ c.saturating_add-self.ensures c.or-self.ensures (c.in_ok-list.ensures.front wrongs are.front) are
