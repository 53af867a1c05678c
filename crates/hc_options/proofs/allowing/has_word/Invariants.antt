use Rattle.std.proofs.Common.{◌≡◌}
use Rattle.std.specs.List.{list_any}
use Rattle.std.specs.Str.{bytes_eq}
use Rattle.hc_options.specs.Allowing.{has_word}
use Rattle.hc_options.proofs.allowing.has_word.Given as goal

-- none that was passed over is that word
abbrev pub invariant-loop-text : goal.invariant-loop-text
invariant-loop-text l = list_any (λ text. bytes_eq text l.word) l.text-iterator ≡ has_word l.list l.word
