use Rattle.std.proofs.Common.{rules, refl, inr}
use Rattle.hc_service.specs.State.{new_state_with}
use Rattle.hc_core.proofs.machine.Core.with_options.Goals as goal

pub invariant_of-result : goal.invariant_of-result
invariant_of-result g c = inr (record {
  settings = c.args.settings;
  state = new_state_with c.args.settings c.args.options;
  stands = c.new.ensures c.args.settings c.args.options refl refl c.in_ok-store.ensures;
})

pub returns : goal.returns
returns g c = (
  record { name = search rules; size = search rules },
  record { works = refl; stands = c.new.ensures c.args.settings c.args.options refl refl c.in_ok-store.ensures },
  search rules,
)
