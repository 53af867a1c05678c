use Rattle.std.proofs.Common.{sym, ◌∙◌}
use Rattle.hc_store.proofs.KeyLemmas.{found_few}
use Rattle.hc_store.proofs.keys.put_in.Goals as goal

pub put_into-requires-clause-few : goal.put_into-requires-clause-few
put_into-requires-clause-few g c = (found_few c.args.target c.args.keys.now.entries c.requires.few (sym c.contains.ensures ∙ c.if-contains.true)).1

pub put_into-requires-clause-some : goal.put_into-requires-clause-some
put_into-requires-clause-some g c = (found_few c.args.target c.args.keys.now.entries c.requires.few (sym c.contains.ensures ∙ c.if-contains.true)).0
