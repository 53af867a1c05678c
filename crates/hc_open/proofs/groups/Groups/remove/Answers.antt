use Rattle.hc_open.proofs.GroupLemmas.{emptied}
use Rattle.hc_open.proofs.groups.Groups.remove.Goals as goal

pub returns-then-take_out : goal.returns-then-take_out
returns-then-take_out g c =
    emptied g.K.Ord.cmp c.args.self.now.sets c.take_out.new.self.sets c.remove.new.self c.args.key.now c.args.number c.take_out.ensures.removes
    (λ q. c.take_out.ensures.none q c.if-take_out.true) c.remove.ensures.updates
