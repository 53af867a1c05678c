use Rattle.std.proofs.Common.{◌≡◌, ◌+◌, ◌-◌, ◌≤◌, length, drop, rules, arith, ap, refl, ◌∙◌}
use Rattle.std.specs.Prelude.{map}
use Rattle.hc_index.specs.Windows.{told_seen}
use Rattle.hc_index.proofs.PoolLemmas.{all_within, apart, opened, none_behind}
use Rattle.hc_index.proofs.pool.Pool.open.Goals as goal

pub invariant_of-self : goal.invariant_of-self
invariant_of-self c =
    let pool = c.args.self.now in
    let fits : c.len.result ≤ length pool.answers.items = search rules in
    record {
      few = pool.few;
      in_order = all_within c.insert.result (pool.dropped + length pool.answers.items) (pool.dropped + c.len.result) c.args.number pool.windows c.insert.new.self
          c.insert.ensures.updates c.insert.ensures.err (omega (arith, fits)) pool.in_order;
    }

pub returns : goal.returns
returns c =
    let pool = c.args.self.now in
    let behind = pool.dropped + c.len.result in
    let all : c.len.result ≡ length pool.answers.items = search rules in
    record {
      opened = opened behind c.args.number pool.windows c.insert.new.self c.in_ok-insert.ensures.updates;
      nothing_yet = ap (λ n. map told_seen (drop ((pool.dropped + n) - pool.dropped) pool.answers.items)) all ∙ none_behind told_seen pool.dropped pool.answers.items;
      others = λ b n ne. c.in_ok-insert.ensures.updates.2 (b, n) (apart behind c.args.number b n ne);
      answers = λ b n is. refl;
    }
