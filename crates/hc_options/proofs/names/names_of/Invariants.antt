use Rattle.std.proofs.Common.{◌≡◌, ◌++◌, map}
use Rattle.std.specs.Str.{str_to_ascii_lowercase}
use Rattle.hc_options.specs.Values.{between_commas}
use Rattle.hc_options.proofs.names.names_of.Given as goal

-- the names so far, and those that are left
abbrev pub invariant-loop-name : goal.invariant-loop-name
invariant-loop-name l = l.names ++ map str_to_ascii_lowercase l.name-iterator ≡ map str_to_ascii_lowercase (between_commas l.list)
