use Rattle.std.proofs.Common.{◌≡◌}
use Rattle.std.specs.List.{filter_map}
use Rattle.hc_directives.specs.Directives.{directive_of, first_directive}
use Rattle.hc_directives.proofs.cache_control.Directives.first.Given as goal

-- no member that was passed over is a directive of that name
abbrev pub invariant-loop-member : goal.invariant-loop-member
invariant-loop-member l = record {
  can : (goal.iterator-loop-member).can_next l.member-iterator;
  finite : (goal.iterator-loop-member).is_finite l.member-iterator;
  first : first_directive l.name (filter_map directive_of l.member-iterator) ≡ first_directive l.name l.self.directives;
}
