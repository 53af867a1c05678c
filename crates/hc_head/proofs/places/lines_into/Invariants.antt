use Rattle.std.proofs.Common.{◌≡◌, map, take}
use Rattle.hc_head.specs.Places.{line_of}
use Rattle.hc_head.proofs.places.lines_into.Given as goal

-- the places of the lines so far
abbrev pub invariant-loop-span : goal.invariant-loop-span
invariant-loop-span l = l.lines.items ≡ map line_of (take l.span-index l.spans)
