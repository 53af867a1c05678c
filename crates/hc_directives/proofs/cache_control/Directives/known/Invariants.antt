use Rattle.std.proofs.Common.{◌≡◌}
use Rattle.std.specs.List.{filter_map}
use Rattle.hc_directives.specs.Directives.{directive_of}
use Rattle.hc_directives.specs.Known.{known_directives}
use Rattle.hc_directives.specs.KnownSteps.{with_directives}
use Rattle.hc_directives.proofs.cache_control.Directives.known.Given as goal

-- the directives that are left lead from what is known so far to what all of them say
abbrev pub invariant-loop-member : goal.invariant-loop-member
invariant-loop-member l = record {
  can : (goal.iterator-loop-member).can_next l.member-iterator;
  finite : (goal.iterator-loop-member).is_finite l.member-iterator;
  known : with_directives l.known (filter_map directive_of l.member-iterator) ≡ known_directives l.self.directives;
}
