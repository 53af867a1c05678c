use Rattle.std.proofs.Common.{true, false}
use Rattle.hc_core.proofs.CanLemmas.{can_behind_reading}
use Rattle.hc_core.proofs.ReadLemmas.{reads_as, reads_none, reads_on}
use Rattle.hc_core.proofs.desk.Desk.read_on.Goals as goal

pub loop-init : goal.loop-init
loop-init g c = record {
  can = c.requires;
  so_far = λ settings s stands. reads_none g.row.S.Denot g.row.S-Hasher.Denot settings c.args.c c.args.self.now s c.args.actions.now.items stands;
}

pub returns-then-not-branch : goal.returns-then-not-branch
returns-then-not-branch g c = λ settings s stands.
    let first = c.loop.invariant.so_far settings s stands in
    reads_on g.row.S.Denot g.row.S-Hasher.Denot settings c.args.c c.loop.self c.read_one.new.self true false s c.args.actions.now.items c.loop.actions.items c.read_one.new.actions.items first
    (reads_as g.row.S.Denot g.row.S-Hasher.Denot settings c.args.c c.read_one.new.self c.in_ok-read_one.field-0 false first.state c.loop.actions.items c.read_one.new.actions.items c.if-not-branch.true
    (c.in_ok-read_one.ensures.reading settings first.state first.stands))

pub loop-preserved : goal.loop-preserved
loop-preserved g c = record {
  can =
      let can = c.loop.invariant.can in
      can_behind_reading g.row.S.Denot g.row.S-Hasher.Denot c.read_one.new.self can.settings c.args.c c.in_ok-read_one.field-0 can.state c.loop.actions.items c.read_one.new.actions.items
      (c.in_ok-read_one.ensures.reading can.settings can.state can.stands);
  so_far = λ settings s stands.
      let first = c.loop.invariant.so_far settings s stands in
      reads_on g.row.S.Denot g.row.S-Hasher.Denot settings c.args.c c.loop.self c.read_one.new.self true true s c.args.actions.now.items c.loop.actions.items c.read_one.new.actions.items first
      (reads_as g.row.S.Denot g.row.S-Hasher.Denot settings c.args.c c.read_one.new.self c.in_ok-read_one.field-0 true first.state c.loop.actions.items c.read_one.new.actions.items c.if-not-branch.false
      (c.in_ok-read_one.ensures.reading settings first.state first.stands));
}
