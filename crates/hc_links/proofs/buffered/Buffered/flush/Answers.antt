use Rattle.std.proofs.Common.{◌≡◌, []}
use Rattle.std.proofs.lemmas.Result.{on_ok_weaker}
use Rattle.hc_links.proofs.BufferLemmas.{all_got}
use Rattle.hc_links.proofs.buffered.Buffered.flush.Goals as goal

pub returns-clause-all : goal.returns-clause-all
returns-clause-all g c =
    on_ok_weaker c.write_waiting.result
    (λ (none : c.write_waiting.new.self.waiting ≡ []) octets had.
    all_got g.R.Link.has_got c.write_waiting.new.self.link c.write_waiting.new.self.waiting octets none (c.write_waiting.ensures.got octets had))
    c.write_waiting.ensures.none
