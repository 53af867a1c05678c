use denote.Ref.{Bor}
use Rattle.std.proofs.Common.{◌≡◌, ◌∙◌, ℕ, Option, Some, sym, subst, true}
use Rattle.hc_past.specs.declared.past.End.{End}
use Rattle.hc_why.specs.Listing.{has_invalidated, is_invalidator, is_of, is_since_it}
use Rattle.hc_why.proofs.ListingLemmas.{all_three, on_ok, pushed}
use Rattle.hc_why.proofs.changes.Ends.take_since.Goals as goal

pub returns-then-invalidates-clause-lists : goal.returns-then-invalidates-clause-lists
returns-then-invalidates-clause-lists c = λ claim of since before.
    let end = c.args.end.now in
    let nearest = c.args.nearest.now in
    let is_since : c.args.is_since ≡ true = search in
    let has : has_invalidated end.method end.status ≡ true =
    subst (λ (s : Option ℕ). has_invalidated end.method s ≡ true) (sym c.in-Some.is) (sym c.invalidates.ensures ∙ c.if-invalidates.true) in
    on_ok c.push.result c.push.ensures.named (λ named. record {
      unstored = before.unstored;
      window = before.window;
      invalidators = pushed (λ (e : Bor End). is_invalidator claim (Some nearest) e.now ≡ true) _ _ _ c.args.end named before.invalidators
          (all_three (is_of claim end) (is_since_it nearest end) (has_invalidated end.method end.status) of (sym since ∙ is_since) has);
      not_about = c.none.ensures claim (Some nearest);
    })
