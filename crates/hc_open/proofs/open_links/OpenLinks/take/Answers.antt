use Rattle.std.proofs.Common.{None, sym}
use Rattle.hc_open.proofs.BehindLemmas.{misses_link, takes_link}
use Rattle.hc_open.proofs.open_links.OpenLinks.take.Goals as goal

pub returns-in_err-link : goal.returns-in_err-link
returns-in_err-link c = rw c.from_residual.ensures (λ forwards are.
    misses_link c.args.self.now forwards c.args.number c.remove.new.self None are (sym c.in_err-link.ensures.value) c.in_err-link.ensures.updates c.in_err-link.ensures.value c.in_err-link.ensures.len)

pub returns : goal.returns
returns c = λ forwards are.
    takes_link c.args.self.now forwards c.args.number c.in_ok-link.link c.remove.new.self c.forget.new.self are (sym c.in_ok-link.ensures.value)
    c.in_ok-link.ensures.updates c.in_ok-link.ensures.value c.in_ok-link.ensures.len c.forget.ensures.by_number c.forget.ensures.others
