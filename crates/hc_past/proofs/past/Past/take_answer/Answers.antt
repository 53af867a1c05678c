use Rattle.hc_past.proofs.past.Past.take_answer.Goals as goal

pub returns-clause-kept : goal.returns-clause-kept
returns-clause-kept c = c.forbid.ensures.ends

pub returns-clause-known : goal.returns-clause-known
returns-clause-known c = c.forbid.ensures.known

pub returns-clause-latest : goal.returns-clause-latest
returns-clause-latest c = c.forbid.ensures.latest

pub returns-clause-asked : goal.returns-clause-asked
returns-clause-asked c = c.forbid.ensures.asked
