use Rattle.std.proofs.Common.{List, ℕ}
use Rattle.std.proofs.lemmas.Result.{on_ok_weaker}
use Rattle.hc_links.specs.Buffers.{HasGot}
use Rattle.hc_links.proofs.BufferLemmas.{all_kept}
use Rattle.hc_links.proofs.recorder.BufferedRecorder.flush.Goals as goal

pub returns-clause-all : goal.returns-clause-all
returns-clause-all g c =
    on_ok_weaker c.flush.result
    (λ (all : (octets : List ℕ) → HasGot g.R.Link.has_got c.args.self.now.link c.args.self.now.waiting octets → g.R.Link.has_got c.flush.new.self.link octets) octets had.
    all_kept g.R.Link.has_got c.flush.new.self.link octets (all octets had))
    c.flush.ensures.all
