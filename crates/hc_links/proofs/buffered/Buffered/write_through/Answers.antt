use Rattle.hc_links.proofs.BufferLemmas.{kept_through, through_got}
use Rattle.hc_links.proofs.buffered.Buffered.write_through.Goals as goal

pub returns-clause-got : goal.returns-clause-got
returns-clause-got g c =
    through_got g.R.Link.has_got c.args.self.now.link c.write_waiting.new.self.link c.write.new.self c.args.self.now.waiting c.write_waiting.new.self.waiting c.write.result c.args.octets.now
    c.in_ok-write_waiting.ensures.none c.in_ok-write_waiting.ensures.got c.write.ensures.got

pub returns-clause-kept : goal.returns-clause-kept
returns-clause-kept g c = λ kept had.
    kept_through g.R.Link.has_got c.write_waiting.new.self.link c.write.new.self c.write.result c.args.octets.now kept c.write.ensures.got
    (c.in_ok-write_waiting.ensures.kept kept had)
