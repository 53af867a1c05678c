use Rattle.std.proofs.Common.{rules, ap, sym, ◌∙◌}
use Rattle.hc_index.proofs.FindLemmas.{most_at_first, most_goes_on, enough_is_found, before_is_most, end_is_enough}
use Rattle.hc_index.proofs.finding.furthest.Goals as goal

pub loop-live-init : goal.loop-live-init
loop-live-init c =
    most_at_first c.args.among c.args.claim.now c.args.lives.now _
    (ap (λ r. r.iter.rest.now) c.into_iter-live-iterator.ensures.into_iter_gives ∙ ap (λ i. i.rest.now) c.rev-live-items.ensures.source ∙ c.iter.ensures.rest)

pub returns-then-is_before : goal.returns-then-is_before
returns-then-is_before c = λ h are.
    before_is_most c.args.among c.args.claim.now c.args.lives.now c.loop-live.live-iterator.iter.rest.now c.next.new.self.iter.rest.now c.loop-live.most c.args.enough
    c.in-Some.live.now h c.loop-live.invariant c.in-Some.ensures.steps (sym c.is_before.ensures ∙ c.if-is_before.true) are

pub returns-then-enough-here : goal.returns-then-enough-here
returns-then-enough-here c = λ h are.
    enough_is_found c.args.among c.args.claim.now c.args.lives.now c.loop-live.live-iterator.iter.rest.now c.next.new.self.iter.rest.now c.loop-live.most c.in_ok-here.here c.args.enough
    c.in-Some.live.now h c.loop-live.invariant c.in-Some.ensures.steps c.in_ok-here.ensures c.if-enough-here.true are

pub loop-live-preserved : goal.loop-live-preserved
loop-live-preserved c =
    most_goes_on c.args.among c.args.claim.now c.args.lives.now c.loop-live.live-iterator.iter.rest.now c.next.new.self.iter.rest.now c.loop-live.most c.in_ok-here.here c.max-most.result c.in-Some.live.now
    c.loop-live.invariant c.in-Some.ensures.steps c.in_ok-here.ensures (search rules)

pub returns : goal.returns
returns c = λ h are.
    end_is_enough c.args.among c.args.claim.now c.args.lives.now c.loop-live.live-iterator.iter.rest.now c.loop-live.most c.args.enough h c.loop-live.invariant c.in-None.ensures.steps.0 are
