use Rattle.std.proofs.Common.{List, ℕ, take, ◌++◌}
use Rattle.hc_framing.specs.ChunkLineReading.{AgreesLine}
use Rattle.hc_framing.proofs.chunk_line.ChunkLineReader.feed.Given as goal

abbrev pub invariant-loop-index : goal.invariant-loop-index
invariant-loop-index l = (octets : List ℕ) → AgreesLine l.initial.self octets → AgreesLine l.self (octets ++ take l.index l.piece)
