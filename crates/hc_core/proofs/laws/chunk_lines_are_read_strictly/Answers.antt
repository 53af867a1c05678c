use Rattle.hc_core.proofs.ChunkLemmas.{never_awaited, no_bare_line_feed, no_plus}
use Rattle.hc_core.proofs.laws.chunk_lines_are_read_strictly.Goals as goal

pub returns-clause-plus : goal.returns-clause-plus
returns-clause-plus c = no_plus

pub returns-clause-line_feed : goal.returns-clause-line_feed
returns-clause-line_feed c = no_bare_line_feed

pub returns-clause-awaited : goal.returns-clause-awaited
returns-clause-awaited c = never_awaited
