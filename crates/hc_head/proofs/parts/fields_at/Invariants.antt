use Rattle.std.proofs.Common.{◌≡◌, map, take}
use Rattle.hc_head.specs.Heads.{field_at}
use Rattle.hc_head.proofs.parts.fields_at.Given as goal

abbrev pub invariant-loop-span : goal.invariant-loop-span
invariant-loop-span l = l.fields ≡ map (field_at l.bytes) (take l.span-index l.spans)
