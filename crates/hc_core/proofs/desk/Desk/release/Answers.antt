use Rattle.hc_core.proofs.ReleaseLemmas.{releases_missing, releases_one}
use Rattle.hc_core.proofs.SendLemmas.{on_ok_by}
use Rattle.hc_core.proofs.desk.Desk.release.Goals as goal

pub returns-in_default : goal.returns-in_default
returns-in_default g c = λ settings s stands.
    releases_missing g.row.S.Denot g.row.S-Hasher.Denot settings c.args.self.now s c.args.e stands c.take_exchange.new.clients c.take_exchange.new.exchanges c.args.actions.now.items c.args.clients.now.items
    (c.in_default.ensures s.exchanges s.connections stands.exchanges stands.clients)

pub returns : goal.returns
returns g c = λ settings s stands.
    on_ok_by c.release_held.result _ _
    (releases_one g.row.S.Denot g.row.S-Hasher.Denot settings c.args.self.now s c.args.e stands c.in-Some.held c.take_exchange.new.clients c.take_exchange.new.exchanges
    (c.in-Some.ensures s.exchanges s.connections stands.exchanges stands.clients) c.args.actions.now.items c.release_held.new.actions.items c.release_held.new.self
    c.args.clients.now.items c.push.new.self.items c.in_ok-push.ensures.items)
    c.release_held.ensures
