use Rattle.std.proofs.Common.{ℕ, ◌-◌, ◌/◌, Some, ap, max, nat_lt, refl, ◌∙◌}
use Rattle.std.specs.Duration.{as_nanos}
use Rattle.hc_agenda.proofs.MomentsLemmas.{counts, tells_read}
use Rattle.hc_agenda.proofs.moments.Moments.look.Goals as goal

pub returns-in-Some-clause-tells : goal.returns-in-Some-clause-tells
returns-in-Some-clause-tells c = λ history told.
    let passed = c.saturating_sub-counted.ensures ∙ ap (λ (n : ℕ). n - c.args.self.now.start) c.as_nanos.ensures in
    let counted = c.max-self.ensures ∙ ap (λ (n : ℕ). max c.args.self.now.counted n) passed in
    let behind = ap (λ (n : ℕ). nat_lt n c.saturating_sub.result) c.as_secs.ensures
    ∙ ap (λ (n : ℕ). nat_lt (as_nanos c.in-Some.wall / 1_000_000_000) n) (c.saturating_sub.ensures ∙ ap (λ (n : ℕ). n - 10) c.now.ensures.told) in
    rw c.in-Some.is
    (tells_read c.follow.new.self _ (as_nanos c.in-Some.wall) (as_nanos c.args.monotonic) history
    (c.follow.ensures.keeps (as_nanos c.args.monotonic) history (counts c.args.self.now _ (Some (as_nanos c.in-Some.wall)) (as_nanos c.args.monotonic) history told refl refl counted refl)) refl refl refl refl behind)
