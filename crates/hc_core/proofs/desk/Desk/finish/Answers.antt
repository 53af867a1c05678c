use Rattle.hc_core.proofs.SendLemmas.{on_ok_by}
use Rattle.hc_core.proofs.ServeLemmas.{finishes}
use Rattle.hc_core.proofs.desk.Desk.finish.Goals as goal

pub read_all-requires : goal.read_all-requires
read_all-requires g c =
    let can = c.requires in
    let gives = c.in_ok-release_all.ensures can.settings can.state can.stands in
    record { settings = can.settings; state = gives.state; stands = gives.stands }

pub returns : goal.returns
returns g c = λ settings s stands.
    let first = c.in_ok-release_all.ensures settings s stands in
    on_ok_by c.read_all.result _ _
    (finishes g.row.S.Denot g.row.S-Hasher.Denot settings s c.args.f c.args.client c.in_ok-waiting.waiting.items c.in_ok-clients.clients.items c.release_all.new.clients.items
    c.args.actions.now.items c.release_all.new.actions.items c.read_all.new.actions.items c.release_all.new.self c.read_all.new.self
    (c.in_ok-waiting.ensures s.exchanges stands.exchanges) c.in_ok-clients.ensures first)
    (c.read_all.ensures settings first.state first.stands)
