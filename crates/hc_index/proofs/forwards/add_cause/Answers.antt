use Rattle.std.proofs.Common.{Bool, Option, ℕ, ◌||◌, cond, eqb, true, ap, sym, ◌∙◌}
use Rattle.std.specs.BTreeSet.{contains}
use Rattle.std.specs.Ordering.{nat_cmp}
use Rattle.hc_history.specs.Windows.{is_number_of}
use Rattle.hc_index.proofs.ForwardLemmas.{or_cond}
use Rattle.hc_index.proofs.PoolLemmas.{nat_tied}
use Rattle.hc_index.proofs.forwards.add_cause.Goals as goal

pub returns : goal.returns
returns c = λ e.
    let before = contains nat_cmp c.args.made_for.now e in
    c.in_ok-insert.ensures.updates.0 e
    ∙ ap (λ (b : Bool). cond b true before) (nat_tied c.in-Some.exchange e)
    ∙ or_cond (eqb c.in-Some.exchange e) before
    ∙ ap (λ (o : Option ℕ). is_number_of e o || before) (sym c.in-Some.is)
