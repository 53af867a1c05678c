use Rattle.std.proofs.Common.{Option, drop, map, inl, inr, sym, ap, ◌∙◌}
use Rattle.hc_index.specs.declared.at_target.AtTarget.{AtTarget}
use Rattle.hc_index.specs.Lists.{live_in}
use Rattle.hc_index.specs.Windows.{those_for, told_seen}
use Rattle.hc_index.specs.Maps.{error_kept, failure_kept, live_kept, pooled_exchange, window_in, window_kept}
use Rattle.hc_index.proofs.MapLemmas.{known_or_unsure, none_known}
use Rattle.hc_index.proofs.map_index.MapIndexKeeping.opened.Goals as goal

pub returns-then-not-may_be_open : goal.returns-then-not-may_be_open
returns-then-not-may_be_open c =
    none_known c.args.surely c.args.self.now c.args.number c.in-Some.pooled.now c.in-Some-get.here.now c.in-Some.ensures.value c.in-Some-get.ensures.value
    (sym c.may_be_open.ensures ∙ c.if-not-may_be_open.true)

pub returns : goal.returns
returns c =
    let index = c.args.self.now in
    let pooled = c.in-Some.pooled.now in
    let exchange = pooled.exchange in
    let here = c.in-Some-get.here.now in
    let here-is = c.in-Some-get.ensures.value in
    elim (known_or_unsure c.args.surely index c.args.number pooled here c.in-Some.ensures.value here-is (sym c.may_be_open.ensures ∙ c.if-not-may_be_open.false)) [
      | inl none ↦ inl none
      | inr known ↦ inr (record {
        is_open = ap pooled_exchange known;
        error = ap error_kept here-is;
        failure = ap failure_kept here-is;
        live = ap (live_in exchange.target) c.as_slice.ensures.value ∙ ap (live_kept exchange.target) here-is;
        window = ap (λ n. those_for exchange.number (map told_seen (drop n here.pool.answers.items))) c.saturating_sub.ensures
            ∙ ap (λ (o : Option AtTarget). those_for exchange.number (window_kept pooled.behind o)) here-is
            ∙ sym (ap (window_in index.targets) known);
      })
    ]
