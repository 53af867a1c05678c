use Rattle.std.proofs.Common.{◌≡◌, ◌+◌, drop}
use Rattle.hc_fields.specs.declared.lists.Quoting.TheVariants.{Outside}
use Rattle.hc_fields.specs.Lists.{piece_len}
use Rattle.hc_fields.proofs.lists.piece_len.Given as goal

-- no octet passed over ends a piece
abbrev pub invariant-loop-index : goal.invariant-loop-index
invariant-loop-index l = piece_len l.quoting (drop l.index l.value) + l.index ≡ piece_len Outside l.value
