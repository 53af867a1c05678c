use Rattle.std.proofs.Common.{List, ℕ, arith, subst, sym}
use Rattle.hc_links.specs.Buffers.{HasGot}
use Rattle.hc_links.proofs.BufferLemmas.{waiting_got, written_behind}
use Rattle.hc_links.proofs.buffered.Buffered.put.Goals as goal

pub returns-in-Ok-clause-got : goal.returns-in-Ok-clause-got
returns-in-Ok-clause-got g c = (
  omega arith,
  λ some. some,
  waiting_got g.R.Link.has_got c.args.self.now.link c.make_room.new.self.link c.args.self.now.waiting c.make_room.new.self.waiting c.push.new.self c.args.octets.now
      c.in-Ok.ensures.ok c.in_ok-make_room.ensures.got,
)

pub returns-in-Err-clause-got : goal.returns-in-Err-clause-got
returns-in-Err-clause-got g c =
    written_behind (HasGot g.R.Link.has_got c.args.self.now.link c.args.self.now.waiting) (HasGot g.R.Link.has_got c.make_room.new.self.link c.push.new.self)
    (HasGot g.R.Link.has_got c.write_through-in-Err.new.self.link c.write_through-in-Err.new.self.waiting) c.write_through-in-Err.result c.args.octets.now
    (λ written had.
    subst (λ (waiting : List ℕ). HasGot g.R.Link.has_got c.make_room.new.self.link waiting written) (sym c.in-Err.ensures.err) (c.in_ok-make_room.ensures.got written had))
    c.write_through-in-Err.ensures.got
