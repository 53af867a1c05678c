use Rattle.std.proofs.Common.{◌≡◌, true, rules, ap}
use Rattle.hc_rules.specs.Storing.{may_store}
use Rattle.hc_update.specs.declared.stored.Stored.{Stored}
use Rattle.hc_index.specs.Lists.{Targeted, forward_seen}
use Rattle.hc_index.proofs.LiveLemmas.{begins_remaining, lives_begun}
use Rattle.hc_index.proofs.lives.begin_live.Goals as goal

pub invariant_of-push : goal.invariant_of-push
invariant_of-push c = record {
  remains = begins_remaining (forward_seen c.args.forward) c.args.moment c.args.response c.in_ok-initial.field-0 c.in_ok-initial.ensures;
}

pub returns : goal.returns
returns c =
    let stores : may_store c.args.forward.request c.args.response.head ≡ true = search rules in
    lives_begun (forward_seen c.args.forward) c.args.position c.args.moment c.args.response _ c.args.lives.now.items c.push.new.self.items
    stores c.in_ok-push.ensures.items
    (ap (λ (s : Stored). let x : Targeted = record { target = c.args.forward.target; live = record { position = c.args.position; state = s } } in x) c.in_ok-initial.ensures)
