use Rattle.std.proofs.Common.{[], refl}
use Rattle.hc_audit.proofs.JudgeLemmas.{fresh_waits}
use Rattle.hc_audit.proofs.judge.Judge.new.Goals as goal

pub returns : goal.returns
returns g c = λ seen. record {
  judging = record {
    history = [];
    read = record { records = []; reads = c.new.ensures; index = λ format may. seen format; counts = λ format may. c.new-2.ensures; settings_are = refl };
    right = λ format may. tt;
  };
  waits = fresh_waits c.new.result c.new.ensures;
}
