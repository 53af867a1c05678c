use Rattle.std.proofs.Common.{arith, refl}
use Rattle.hc_agenda.specs.MomentsKept.{told_by}
use Rattle.hc_crowd.proofs.CrowdLemmas.{up_to}
use Rattle.hc_crowd.proofs.crowd.CrowdBatches.wait.Goals as goal

pub returns-clause-tells : goal.returns-clause-tells
returns-clause-tells g c = λ log t. (
  c.wait.ensures.kept.tells _ log t.0,
  up_to (told_by c.args.self.now.clock) (told_by c.look.new.self) log c.look.ensures.forward t.1,
)

pub returns-clause-links : goal.returns-clause-links
returns-clause-links g c = record {
  shown = c.wait.ensures.kept.shown;
  limits = record { as_many = refl; bounds = refl; moments = λ moment may. (omega (arith, c.look.ensures.forward, may.0), may.1) };
}
