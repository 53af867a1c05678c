use Rattle.std.proofs.Common.{◌≡◌, ◌∙◌, refl, sym, true}
use Rattle.hc_why.specs.Listing.{IsNotAboutOf, is_unselected}
use Rattle.hc_why.specs.declared.changes.NotAbout.{NotAbout}
use Rattle.hc_why.proofs.ListingLemmas.{later_is, later_none, on_ok, pushed}
use Rattle.hc_why.proofs.changes.NotAboutIt.push.Goals as goal

pub returns : goal.returns
returns c = λ claim nearest is before.
    let one = c.args.one in
    on_ok c.push.result c.push.ensures.named (λ named. record {
      listed = pushed (IsNotAboutOf claim nearest) _ _ _ one named before.listed is;
      stricter = later_is (λ (other : NotAbout). IsNotAboutOf claim nearest other × (other.is_stricter ≡ true)) one.is_stricter one _ _ c.later-self.ensures
          (λ stricter. (is, stricter)) before.stricter;
      unselected = later_is (λ (other : NotAbout). IsNotAboutOf claim nearest other × (is_unselected other ≡ true)) c.is_unselected.result one _ _ c.later-self-2.ensures
          (λ unselected. (is, sym c.is_unselected.ensures ∙ unselected)) before.unselected;
      none_stricter = later_none (λ (other : NotAbout). other.is_stricter) _ _ _ one one.is_stricter _ _ c.later-self.ensures refl named before.none_stricter;
      none_unselected = later_none is_unselected _ _ _ one c.is_unselected.result _ _ c.later-self-2.ensures c.is_unselected.ensures named before.none_unselected;
    })
