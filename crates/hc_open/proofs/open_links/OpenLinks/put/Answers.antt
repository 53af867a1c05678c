use Rattle.hc_open.proofs.BehindLemmas.{puts_link}
use Rattle.hc_open.proofs.open_links.OpenLinks.put.Goals as goal

pub returns : goal.returns
returns c = λ forwards a are like place.
    puts_link c.take.new.self c.note.new.self forwards c.args.number c.args.link a c.take.result c.insert.new.self c.in_ok-insert.field-0
    (c.take.ensures forwards are) like place c.in_ok-note.ensures.by_number c.in_ok-note.ensures.others
    c.in_ok-insert.ensures.updates c.in_ok-insert.ensures.old c.in_ok-insert.ensures.len
