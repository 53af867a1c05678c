use Rattle.std.proofs.Common.{◌≡◌}
use Rattle.std.specs.List.{list_all}
use Rattle.hc_fields.specs.Tokens.{is_token}
use Rattle.hc_options.specs.Values.{between_commas}
use Rattle.hc_options.proofs.names.are_tokens.Given as goal

-- each that was passed over is one
abbrev pub invariant-loop-text : goal.invariant-loop-text
invariant-loop-text l = list_all is_token l.text-iterator ≡ list_all is_token (between_commas l.list)
