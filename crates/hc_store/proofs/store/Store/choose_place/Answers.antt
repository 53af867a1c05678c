use Rattle.std.proofs.Common.{◌≡◌, ◌∷◌, List, false, sym, ap, ◌∙◌, subst}
use Rattle.hc_store.specs.Entries.{Entries, Holdings, IsWithin, entries_weight, knows, recent_variants, variants_of}
use Rattle.std.specs.Prelude.{option_and_then, slice_get}
use Rattle.lru.specs.LruCache.{promoted}
use Rattle.hc_head.specs.Targets.{same_target}
use Rattle.hc_update.specs.declared.stored.Stored.{Stored}
use Rattle.hc_store.specs.Choosing.{chosen}
use Rattle.hc_store.specs.Changes.{after_choose, without}
use Rattle.hc_store.specs.Calls.{has_vary, holding}
use Rattle.hc_store.specs.Views.{held}
use Rattle.hc_store.proofs.AddLemmas.{true_is_false}
use Rattle.hc_store.proofs.KeyLemmas.{holdings_are, known, not_known, unknown}
use Rattle.hc_store.proofs.WithinLemmas.{choose_within, choose_weighs, chosen_is, unknown_stays}
use Rattle.hc_store.proofs.store.Store.choose_place.Goals as goal

pub returns-in_default-clause-ok : goal.returns-in_default-clause-ok
returns-in_default-clause-ok g c =
    let target = c.args.target.now in let store = held c.self.inside.bytes c.self.inside.keeps_cookies c.self.inside.keys in
    subst (λ (h : Holdings). h ≡ holding (after_choose target h.entries) h) c.self.view_is
    (unknown_stays store target (unknown target store.entries (not_known target store.entries c.in_default.ensures)))

pub returns-in_default-clause-known : goal.returns-in_default-clause-known
returns-in_default-clause-known g c =
    let target = c.args.target.now in
    sym (not_known target c.self.inside.keys.entries c.in_default.ensures) ∙ ap (λ (h : Holdings). knows target h.entries) c.self.view_is

pub returns-in_err-place-clause-no_vary : goal.returns-in_err-place-clause-no_vary
returns-in_err-place-clause-no_vary g c = λ none.
    let target = c.args.target.now in let es = c.self.inside.keys.entries in
    let is = known target es c.in-Some.variants.now (sym c.in-Some.ensures) in
    let plain = subst (λ (h : Holdings). has_vary (variants_of target h.entries) ≡ false) (sym c.self.view_is) none in
    absurd (true_is_false (c.in_err-place.ensures.no_vary (ap has_vary (c.as_slice.ensures ∙ sym is.variants) ∙ plain)))

pub invariant_of-self : goal.invariant_of-self
invariant_of-self g c =
    let target = c.args.target.now in let keys = c.self.inside.keys in let bytes = c.self.inside.bytes in
    let is = known target keys.entries c.in-Some.variants.now (sym c.in-Some.ensures) in
    let entries = ap (λ k. k.entries) c.promote.ensures.entries ∙ chosen_is target keys.entries c.in-Some.variants.now is c.self.invariant.1.few_variants in (
      c.self.invariant.0 ∙ sym (choose_weighs target keys.entries) ∙ sym (ap entries_weight entries),
      subst IsWithin (sym (holdings_are bytes c.self.inside.keeps_cookies entries (ap (λ k. k.cap) c.promote.ensures.entries))) (choose_within (held bytes c.self.inside.keeps_cookies keys) target c.self.invariant.1),
    )

pub returns-clause-ok : goal.returns-clause-ok
returns-clause-ok g c =
    let target = c.args.target.now in let keys = c.self.inside.keys in let bytes = c.self.inside.bytes in
    let is = known target keys.entries c.in-Some.variants.now (sym c.in-Some.ensures) in
    let entries = ap (λ k. k.entries) c.promote.ensures.entries ∙ chosen_is target keys.entries c.in-Some.variants.now is c.self.invariant.1.few_variants in
    holdings_are bytes c.self.inside.keeps_cookies entries (ap (λ k. k.cap) c.promote.ensures.entries)
    ∙ ap (λ (h : Holdings). holding (after_choose target h.entries) h) c.self.view_is

pub returns-clause-known : goal.returns-clause-known
returns-clause-known g c =
    let target = c.args.target.now in
    let is = known target c.self.inside.keys.entries c.in-Some.variants.now (sym c.in-Some.ensures) in
    sym is.is_known ∙ ap (λ (h : Holdings). knows target h.entries) c.self.view_is

pub returns-clause-answer : goal.returns-clause-answer
returns-clause-answer g c =
    let target = c.args.target.now in let keys = c.self.inside.keys in let presented = c.args.presented.now in
    let old = c.in-Some.variants.now in
    let is = known target keys.entries old (sym c.in-Some.ensures) in
    let first : c.promote.new.self.entries ≡ (target, old) ∷ without target keys.entries =
    ap (λ k. k.entries) c.promote.ensures.entries ∙ sym (ap (promoted (same_target target)) is.same) ∙ is.first old in
    ap (λ (l : Entries). option_and_then (slice_get (recent_variants l)) c.in_ok-place.place) first
    ∙ ap (λ (vs : List Stored). option_and_then (slice_get vs) c.in_ok-place.place) (sym c.as_slice.ensures)
    ∙ c.in_ok-place.ensures.answer
    ∙ ap (chosen presented) (c.as_slice.ensures ∙ sym is.variants)
    ∙ ap (λ (h : Holdings). chosen presented (variants_of target h.entries)) c.self.view_is
