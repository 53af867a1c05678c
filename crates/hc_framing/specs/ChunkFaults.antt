-- What a fault of a part of a chunked body is to a message.
use Rattle.hc_framing.specs.declared.chunk_fault.ChunkFault.{ChunkFault}
use Rattle.hc_framing.specs.declared.chunk_fault.ChunkFault.TheVariants as chunks
use Rattle.hc_framing.specs.declared.fault.FrameFault.{FrameFault}
use Rattle.hc_framing.specs.declared.fault.FrameFault.TheVariants.{BadChunk, Memory}

-- what is wrong with a message of which a part of a chunked body is wrong
abbrev pub of_chunk : ChunkFault → FrameFault
of_chunk chunks.Syntax = BadChunk
of_chunk chunks.Memory = Memory
