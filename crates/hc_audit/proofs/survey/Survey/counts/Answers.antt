use Rattle.std.proofs.Common.{sym, subst}
use Rattle.hc_history.specs.declared.verdicts.Counts.{Counts}
use Rattle.hc_history.specs.declared.verdicts.Verdict.TheVariants.{Yes}
use Rattle.hc_history.specs.Verdicts.{IsVerdict}
use Rattle.hc_audit.specs.Surveying.{AreCounted}
use Rattle.hc_audit.proofs.SurveyLemmas.{open_counts, open_counts_all}
use Rattle.hc_audit.proofs.survey.Survey.counts.Goals as goal

pub returns-in-Open-clause-counted : goal.returns-in-Open-clause-counted
returns-in-Open-clause-counted g c = λ settings octets h wrongs surveys.
    subst (AreCounted octets settings h) (sym c.counts.ensures)
    (open_counts_all g.I.Index.seen c.args.self.now.reach settings octets h wrongs c.in-Open.judge c.in-Open.is surveys)

pub returns-in-Open-clause-yes : goal.returns-in-Open-clause-yes
returns-in-Open-clause-yes g c = λ settings octets h surveys whole.
    subst (λ (n : Counts). IsVerdict octets settings (Yes n)) (sym c.counts.ensures)
    (open_counts g.I.Index.seen c.args.self.now.reach settings octets h c.in-Open.judge c.in-Open.is surveys whole)
