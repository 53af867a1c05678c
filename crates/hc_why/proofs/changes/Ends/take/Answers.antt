use Rattle.std.proofs.Common.{◌≡◌, ◌∙◌, sym, subst, true}
use Rattle.hc_why.specs.declared.explaining.Explanation.{Explanation}
use Rattle.hc_why.specs.Listing.{is_of}
use Rattle.hc_why.proofs.changes.Ends.take.Goals as goal

pub returns-clause-lists : goal.returns-clause-lists
returns-clause-lists c = λ before.
    let of : is_of c.args.known.now.claim c.args.end.now ≡ true =
    subst (λ (e : Explanation). is_of e.claim c.args.end.now ≡ true) c.known.view_is (sym c.is_of.ensures ∙ c.if-not-is_of.false) in
    c.take_change.ensures.lists of
    (c.in_ok-take_wrong.ensures.lists of (c.in_ok-take_source.ensures.lists (c.take_place.ensures.lists c.args.known.now.nearest before)))
