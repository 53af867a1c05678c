use Rattle.std.proofs.Common.{◌∙◌, ap, refl, Ok}
use Rattle.hc_bench.proofs.FeedingLemmas.{IsNext, feeding_end, feeding_fault, feeding_more, feeding_whole, next_piece}
use Rattle.hc_bench.proofs.feeding.feed.Goals as goal

pub returns-in_err-feed : goal.returns-in_err-feed
returns-in_err-feed g c =
    let next : IsNext c.args.octets.now c.args.size c.pieces.before c.split_at-in-pieces.result.0.now =
    next_piece _ _ _ _ _ _ c.pieces-test.true c.split_at.ensures.back c.min.ensures c.split_at-in-pieces.ensures.front in
    feeding_fault g.H.MessageHead.form
    c.args.kind c.args.room c.args.octets.now c.args.size c.pieces.before c.pieces.calls c.pieces.reader c.feed.new.self
    c.split_at-in-pieces.result.0.now c.feed.result c.pieces.invariant next c.requires
    (c.feed.ensures.gives _ _ _ c.pieces.invariant.agrees)
    c.in_err-feed.field-0.0 c.in_err-feed.was c.from_residual.result c.from_residual.ensures.1

pub pieces-preserved : goal.pieces-preserved
pieces-preserved g c =
    let next : IsNext c.args.octets.now c.args.size c.pieces.before c.split_at-in-pieces.result.0.now =
    next_piece _ _ _ _ _ _ c.pieces-test.true c.split_at.ensures.back c.min.ensures c.split_at-in-pieces.ensures.front in
    let more = c.in_ok-feed.was ∙ ap Ok c.in-More.is in
    feeding_more g.H.MessageHead.form
    c.args.kind c.args.room c.args.octets.now c.args.size c.pieces.before c.pieces.calls c.pieces.reader c.feed.new.self
    c.split_at-in-pieces.result.0.now c.feed.result c.pieces.invariant next c.requires
    (c.feed.ensures.gives _ _ _ c.pieces.invariant.agrees)
    more (c.feed.ensures.unfinished more _ _ _ c.pieces.invariant.agrees) (c.feed.ensures.can more)

pub returns-in-Whole : goal.returns-in-Whole
returns-in-Whole g c =
    let next : IsNext c.args.octets.now c.args.size c.pieces.before c.split_at-in-pieces.result.0.now =
    next_piece _ _ _ _ _ _ c.pieces-test.true c.split_at.ensures.back c.min.ensures c.split_at-in-pieces.ensures.front in
    feeding_whole g.H.MessageHead.form
    c.args.kind c.args.room c.args.octets.now c.args.size c.pieces.before c.pieces.calls c.pieces.reader c.feed.new.self
    c.split_at-in-pieces.result.0.now c.feed.result c.pieces.invariant next c.requires
    (c.feed.ensures.gives _ _ _ c.pieces.invariant.agrees)
    c.in-Whole.used (c.in_ok-feed.was ∙ ap Ok c.in-Whole.is) _ c.take.ensures refl refl

pub returns : goal.returns
returns g c =
    feeding_end g.H.MessageHead.form
    c.args.kind c.args.room c.args.octets.now c.args.size c.pieces.before c.pieces.calls c.pieces.reader c.pieces.invariant c.pieces-test.false
