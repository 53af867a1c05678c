use Rattle.std.proofs.Common.{ℕ, List, ◌++◌, take}
use Rattle.hc_framing.specs.TrailerReading.{AgreesTrailer}
use Rattle.hc_framing.proofs.trailer.TrailerReader.feed.Given as goal

abbrev pub invariant-loop-index : goal.invariant-loop-index
invariant-loop-index l = (octets : List ℕ) → AgreesTrailer l.fn.self octets → AgreesTrailer l.self (octets ++ take l.index l.piece)
