use Rattle.hc_transcript.proofs.OnceLemmas.{one_break, break_last, broken_is_no_transcript, no_opening_no_records, no_opening_is_hopeless}
use Rattle.hc_transcript.proofs.laws.breaks_once.Goals as goal

pub returns : goal.returns
returns c = record { one = one_break; last = break_last; whole = broken_is_no_transcript; opening = no_opening_no_records; hopeless = no_opening_is_hopeless }
