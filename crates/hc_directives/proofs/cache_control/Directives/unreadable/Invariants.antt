use Rattle.std.proofs.Common.{◌≡◌, ◌+◌, ◌≤◌, min}
use Rattle.hc_directives.specs.Directives.{read_members}
use Rattle.hc_directives.proofs.cache_control.Directives.unreadable.Given as goal

-- those counted so far and those that are left are all of them
abbrev pub invariant-loop-member : goal.invariant-loop-member
invariant-loop-member l = record {
  can : (goal.iterator-loop-member).can_next l.member-iterator;
  finite : (goal.iterator-loop-member).is_finite l.member-iterator;
  low : l.count ≤ 18446744073709551615;
  all : min (l.count + (read_members l.member-iterator).unreadable) 18446744073709551615 ≡ min l.self.unreadable 18446744073709551615;
}
