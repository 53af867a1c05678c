use Rattle.hc_reactions.proofs.OutcomeLemmas.{nothing_replaces}
use Rattle.hc_reactions.proofs.outcomes.replace.Goals as goal

pub returns : goal.returns
returns g c =
    nothing_replaces (record { wanted = c.args.wanted.now; forward = c.args.forward; cause = c.args.cause; response = c.args.response }) c.args.store.now c.replace_by_store.new.store c.pass.new.store
    c.in_ok-reply.field-0 c.pass.result c.in_ok-reply.ensures c.in_default.is c.pass.ensures
