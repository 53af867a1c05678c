use Rattle.std.proofs.Common.{refl, ap, ◌∙◌}
use Rattle.std.specs.Prelude.{option_and_then, slice_get}
use Rattle.hc_store.specs.Entries.{Holdings, recent_variants}
use Rattle.hc_store.proofs.store.Store.choose.Goals as goal

pub returns : goal.returns
returns g c = (
  (refl, (λ _. tt), c.self.view_is ∙ c.in_ok-found.ensures.ok),
  record {
    leaves = tt;
    known = c.in_ok-found.ensures.known;
    answer = c.lend_of_recent.ensures
        ∙ ap (λ (h : Holdings). option_and_then (slice_get (recent_variants h.entries)) c.in_ok-found.found.place) c.self.view_is
        ∙ c.in_ok-found.ensures.answer;
    no_vary = λ _. refl;
  },
)
