use Rattle.std.proofs.Common.{◌∷◌, length}
use Rattle.hc_audit.specs.Hearing.{item_passed}
use Rattle.hc_why.proofs.SeekingLemmas.{answers_nothing, found_later, next_is}
use Rattle.hc_why.proofs.seeking.ReplyAtWitness.pass.Goals as goal

pub returns-clause-heard : goal.returns-clause-heard
returns-clause-heard g c = λ h heard behind.
    let item = item_passed c.args.passed.now in
    record {
      found = c.pass_by.ensures.found (item ∷ h) (found_later c.args.self.now item h (λ next. answers_nothing item h behind.is_no_reply) heard.found);
      passed = c.pass_by.ensures.passed (length h) (next_is c.args.passed.now.position h behind.position) heard.passed;
    }
