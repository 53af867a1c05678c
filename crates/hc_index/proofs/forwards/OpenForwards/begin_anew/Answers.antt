use Rattle.std.proofs.Common.{Bool, cond, false, ap, refl, ◌∙◌}
use Rattle.hc_index.specs.Lists.{is_made_for}
use Rattle.hc_index.proofs.PoolLemmas.{nat_tied}
use Rattle.hc_index.proofs.forwards.OpenForwards.begin_anew.Goals as goal

pub returns : goal.returns
returns c = record {
  forward = λ f. refl;
  cause = λ f. refl;
  has_forward = λ e. c.remove.ensures.updates.0 e ∙ ap (λ (b : Bool). cond b false (is_made_for e c.args.self.now)) (nat_tied c.args.exchange e);
}
