use Rattle.std.proofs.Common.{sym, ◌∙◌}
use Rattle.hc_transcript.specs.declared.format.Format.TheVariants.{First, Second}
use Rattle.hc_transcript.proofs.FormatLemmas.{unfinished, hopeless}
use Rattle.hc_transcript.proofs.format.may_open.Goals as goal

pub returns-then-starts_with-clause-may : goal.returns-then-starts_with-clause-may
returns-then-starts_with-clause-may c = λ is. unfinished c.args.octets.now First c.requires (rw c.opening.ensures at (sym c.starts_with.ensures.value ∙ is))

pub returns-else-starts_with-clause-may : goal.returns-else-starts_with-clause-may
returns-else-starts_with-clause-may c = λ is. unfinished c.args.octets.now Second c.requires (rw c.opening-else-starts_with.ensures at (sym c.starts_with-else-starts_with.ensures.value ∙ is))

pub returns-else-starts_with-clause-never : goal.returns-else-starts_with-clause-never
returns-else-starts_with-clause-never c = λ is.
    hopeless c.args.octets.now c.requires (rw c.opening.ensures at (sym c.starts_with.ensures.value ∙ c.if-starts_with.false))
    (rw c.opening-else-starts_with.ensures at (sym c.starts_with-else-starts_with.ensures.value ∙ is))
