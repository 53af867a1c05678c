use Rattle.std.proofs.Common.{◌++◌, rules, subst}
use Rattle.hc_history.specs.declared.wrong.Ending.{Ending}
use Rattle.hc_audit.specs.Endings.{EndsSo}
use Rattle.hc_command.proofs.surveying.feed.Goals as goal

pub returns-in-Some-Broken : goal.returns-in-Some-Broken
returns-in-Some-Broken g c = λ settings octets so_far.
    let told = c.in_ok-feed.ensures.ok settings octets so_far in
    record {
      history = told.0;
      wrongs = told.1;
      surveys = told.2;
      told = told.3;
      heard = told.4;
      stops =
          subst (λ (e : Ending). EndsSo e settings (octets ++ c.args.piece.now) told.0 told.1) c.in-Some-Broken.field-0-is
          (c.in-Some-Broken.ensures.stands settings (octets ++ c.args.piece.now) told.0 told.1 told.2);
    }

pub returns-then-has_enough : goal.returns-then-has_enough
returns-then-has_enough g c = λ settings octets so_far.
    let told = c.in_ok-feed.ensures.ok settings octets so_far in
    record { history = told.0; wrongs = told.1; surveys = told.2; told = told.3; heard = told.4; stops = search rules }

pub returns : goal.returns
returns g c = λ settings octets so_far.
    let told = c.in_ok-feed.ensures.ok settings octets so_far in
    record { history = told.0; wrongs = told.1; surveys = told.2; told = told.3; heard = told.4; stops = tt }
