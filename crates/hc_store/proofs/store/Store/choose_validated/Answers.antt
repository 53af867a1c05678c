use Rattle.std.proofs.Common.{◌≡◌, false, sym, ap, ◌∙◌, subst}
use Rattle.hc_store.specs.Entries.{Holdings, variants_of}
use Rattle.hc_store.specs.Calls.{has_vary}
use Rattle.hc_store.proofs.AddLemmas.{true_is_false}
use Rattle.hc_store.proofs.KeyLemmas.{known}
use Rattle.hc_store.proofs.store.Store.choose_validated.Goals as goal

pub returns-in_err-place-clause-no_vary : goal.returns-in_err-place-clause-no_vary
returns-in_err-place-clause-no_vary g c = λ none.
    let target = c.args.target.now in let es = c.self.inside.keys.entries in
    let is = known target es c.in-Some.variants.now (sym c.in-Some.ensures) in
    let plain = subst (λ (h : Holdings). has_vary (variants_of target h.entries) ≡ false) (sym c.self.view_is) none in
    absurd (true_is_false (c.in_err-place.ensures.no_vary (ap has_vary (c.as_slice.ensures ∙ sym is.variants) ∙ plain)))
