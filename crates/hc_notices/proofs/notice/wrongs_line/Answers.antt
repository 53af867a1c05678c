use Rattle.hc_notices.proofs.notice.wrongs_line.Goals as goal

pub returns : goal.returns
returns c = rw c.times_word-times.ensures at c.format.ensures.ok
