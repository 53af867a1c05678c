use Rattle.std.proofs.Common.{rules}
use Rattle.hc_gaps.proofs.NameLemmas.{grows, stays}
use Rattle.hc_gaps.proofs.differing.push_new.Goals as goal

pub returns-then-is_among : goal.returns-then-is_among
returns-then-is_among c = stays c.args.names.now.items c.args.name.now (search rules)

pub returns : goal.returns
returns c = grows c.args.names.now.items c.push.new.self.items c.args.name (search rules) c.in_ok-push.ensures.items
