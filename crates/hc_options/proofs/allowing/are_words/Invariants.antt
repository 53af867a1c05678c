use Rattle.std.proofs.Common.{◌≡◌}
use Rattle.std.specs.List.{list_all}
use Rattle.hc_options.specs.Allowing.{is_word}
use Rattle.hc_options.specs.Values.{between_commas}
use Rattle.hc_options.proofs.allowing.are_words.Given as goal

-- each that was passed over is one
abbrev pub invariant-loop-text : goal.invariant-loop-text
invariant-loop-text l = list_all is_word l.text-iterator ≡ list_all is_word (between_commas l.list)
