use Rattle.std.proofs.Common.{◌≡◌, drop}
use Rattle.std.specs.List.{list_all}
use Rattle.hc_history.specs.Allowing.{has_its_values}
use Rattle.hc_history.proofs.compared.has_each.Given as goal

-- the names that are left decide
abbrev pub invariant-loop-name : goal.invariant-loop-name
invariant-loop-name l =
    list_all (λ name. has_its_values l.claim l.state name.now) (drop l.name-index l.names)
    ≡ list_all (λ name. has_its_values l.claim l.state name.now) l.names
