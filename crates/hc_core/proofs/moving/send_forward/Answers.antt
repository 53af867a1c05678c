use Rattle.std.proofs.Common.{ℕ, OnOk, subst}
use Rattle.std.specs.FinMap.{insert}
use Rattle.hc_service.specs.Turns.{sent_forward}
use Rattle.hc_open.specs.Links.{AreLinks}
use Rattle.hc_open.proofs.LinkLemmas.{linked}
use Rattle.hc_core.proofs.moving.send_forward.Goals as goal

pub returns-clause-links : goal.returns-clause-links
returns-clause-links c = λ forwards alike place.
    let sent = sent_forward c.args.request.head c.args.target c.args.numbers.now.moment c.args.purpose in
    subst (λ (n : ℕ). OnOk c.put.result (AreLinks c.put.new.self (insert forwards n sent))) c.in_ok-number.ensures.number
    (c.put.ensures forwards sent alike
    (linked c.args.request.head c.args.target c.args.numbers.now.moment c.args.purpose c.is_head-to_head.result c.new.result c.is_head-to_head.ensures c.new.ensures.agrees)
    place)
