use Rattle.std.proofs.Common.{refl}
use Rattle.hc_service.specs.Turns.Failure.{IsLost}
use Rattle.std.specs.FinMap.{get}
use Rattle.hc_core.proofs.UnreadLemmas.{none_or_some, same_forward, stands_without, taken_link}
use Rattle.hc_core.proofs.desk.Desk.lose.Goals as goal

pub returns-in-None : goal.returns-in-None
returns-in-None g c = λ settings s awaited stands there.
    absurd (none_or_some (get s.forwards c.args.f) awaited (c.in-None.ensures s.forwards stands.links).0 there)

pub returns-in-Some : goal.returns-in-Some
returns-in-Some g c = λ settings s awaited stands there.
    let d = c.args.self.now in
    let link = c.in-Some.link in
    let taken = c.in-Some.ensures s.forwards stands.links in
    let was = taken_link link (get s.forwards c.args.f) taken.0 awaited taken.1 there taken.2 in
    c.break_off.ensures settings s awaited IsLost
    (stands_without g.row.S.Denot g.row.S-Hasher.Denot settings d s c.args.f awaited stands there c.take.new.self taken.3) there
    (same_forward link awaited was) refl tt
