use Rattle.std.proofs.Common.{◌≡◌, IsSome, length, refl, rules, subst, sym}
use Rattle.hc_connection.proofs.ForwardLemmas.{least_is, none_is}
use Rattle.hc_connection.proofs.forwards.Forwards.least.Goals as goal

pub returns-in-Some-clause-least : goal.returns-in-Some-clause-least
returns-in-Some-clause-least g c =
    least_is g.O.Link.Link.has_given g.O.Link.Link.has_got c.args.self.now.links c.in-Some.forward.now (subst IsSome (sym c.in-Some.ensures.value) refl) c.in-Some.ensures.least

pub returns-in-None-clause-least : goal.returns-in-None-clause-least
returns-in-None-clause-least g c =
    let none : length c.args.self.now.links.entries ≡ 0 = search rules in
    none_is g.O.Link.Link.has_given g.O.Link.Link.has_got c.args.self.now.links none
