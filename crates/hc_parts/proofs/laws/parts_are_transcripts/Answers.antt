use Rattle.hc_parts.proofs.TranscriptLemmas.{first_keeps, part_is_transcript}
use Rattle.hc_parts.proofs.laws.parts_are_transcripts.Goals as goal

pub returns-clause-first_format : goal.returns-clause-first_format
returns-clause-first_format c = λ part octets records h is. first_keeps part records h is.are_read

pub returns-clause-part : goal.returns-clause-part
returns-clause-part c = part_is_transcript
