use Rattle.std.proofs.Common.{rules, not}
use Rattle.hc_directives.proofs.KnownLemmas.{seconds_are_there}
use Rattle.hc_use.proofs.StoringLemmas.{nothing_forbids}
use Rattle.hc_use.proofs.storing.what_forbids.Goals as goal

pub returns-clause-stored : goal.returns-clause-stored
returns-clause-stored c = nothing_forbids c.args.forward.now c.args.response.now
    (record {
      method = not c.is_get.result;
      by_head = c.is_head.result;
      uncacheable = c.is_uncacheable.result;
      request_no_store = c.says.result;
      status = not c.is_storable.result;
      partial = c.is_partial.result;
      must_understand = c.if-known.result;
      no_store = c.if-known-2.result;
      private = c.known-known.result.private;
      authorization = c.if-contains.result;
      uninvited = not c.invites_storing.result;
    })
    (search (rules, seconds_are_there))

pub returns-clause-each : goal.returns-clause-each
returns-clause-each c = search (rules, seconds_are_there)
