use Rattle.hc_transcript.proofs.OnceLemmas.{one_unfinished, unfinished_last, unfinished_is_no_transcript, unfinished_is_unbroken, unfinished_opening_no_records}
use Rattle.hc_transcript.proofs.laws.unfinished_once.Goals as goal

pub returns : goal.returns
returns c =
    record { one = one_unfinished; last = unfinished_last; whole = unfinished_is_no_transcript; unbroken = unfinished_is_unbroken; opening = unfinished_opening_no_records }
