use denote.Ref.{Bor}
use Rattle.std.proofs.Common.{◌≡◌, true}
use Rattle.hc_past.specs.declared.past.End.{End}
use Rattle.hc_why.specs.Listing.{is_behind, is_invalidator, is_unstored}
use Rattle.hc_why.proofs.ListingLemmas.{of_none}
use Rattle.hc_why.proofs.changes.Ends.none.Goals as goal

pub returns-clause-lists : goal.returns-clause-lists
returns-clause-lists c = λ claim nearest. record {
  unstored = of_none (λ (end : Bor End). is_unstored claim end.now ≡ true) _ c.new-2.ensures.named;
  window = of_none (λ (end : Bor End). is_behind claim end.now ≡ true) _ c.new-3.ensures.named;
  invalidators = of_none (λ (end : Bor End). is_invalidator claim nearest end.now ≡ true) _ c.new-5.ensures.named;
  not_about = c.none.ensures claim nearest;
}
