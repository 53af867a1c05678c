use Rattle.std.proofs.Common.{map}
use Rattle.std.proofs.lemmas.Result.{IfOk-weaker}
use Rattle.hc_options.proofs.ParseLemmas.{given_from, refused_from, taken_from}
use Rattle.hc_arguments.specs.Commands.{hcache}
use Rattle.hc_arguments.proofs.ArgumentLemmas.{hcache_is_plain, hcache_is_simple}
use Rattle.hc_arguments.proofs.arguments.matches_of.Goals as goal

pub returns-clause-found : goal.returns-clause-found
returns-clause-found g c =
    IfOk-weaker c.try_get_matches_from.result _ _ (λ matches has. given_from hcache hcache_is_plain c.in_ok-command.field-0
    (map g.S.AsStr.text c.args.words.now) matches c.in_ok-command.ensures.0 has) c.try_get_matches_from.ensures.matches

pub returns-clause-taken : goal.returns-clause-taken
returns-clause-taken g c =
    taken_from hcache hcache_is_simple c.in_ok-command.field-0 (map g.S.AsStr.text c.args.words.now) c.try_get_matches_from.result
    c.in_ok-command.ensures.0 c.try_get_matches_from.ensures.kinds

pub returns-clause-refused : goal.returns-clause-refused
returns-clause-refused g c =
    refused_from hcache hcache_is_simple c.in_ok-command.field-0 (map g.S.AsStr.text c.args.words.now) c.try_get_matches_from.result
    c.in_ok-command.ensures.0 c.try_get_matches_from.ensures.kinds
