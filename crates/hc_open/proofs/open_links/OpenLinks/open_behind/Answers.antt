use Rattle.hc_open.proofs.BehindLemmas.{told_behind}
use Rattle.hc_open.proofs.open_links.OpenLinks.open_behind.Goals as goal

pub returns : goal.returns
returns c = λ forwards are.
    told_behind c.args.self.now.behind forwards c.args.target.now c.contains_key.result c.len.result are.behind c.contains_key.ensures c.len.ensures.len
