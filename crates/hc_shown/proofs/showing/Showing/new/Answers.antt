use Rattle.std.proofs.Common.{[], arith, refl}
use Rattle.hc_shown.proofs.ShowingLemmas.{fresh_waits}
use Rattle.hc_shown.proofs.showing.Showing.new.Goals as goal

pub returns : goal.returns
returns c = record {
  has = record { span_is = refl; records = []; history = []; agrees = c.new.ensures; some = c.requires; no_more = omega arith; shown = refl };
  waits = fresh_waits c.new.result c.new.ensures;
  fewer = c.requires;
}
