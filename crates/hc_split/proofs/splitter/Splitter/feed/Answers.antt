use Rattle.std.proofs.Common.{◌++◌, refl}
use Rattle.hc_split.proofs.SplitLemmas.{splits_from, splits_nothing, splits_on}
use Rattle.hc_split.proofs.splitter.Splitter.feed.Goals as goal

pub records-init : goal.records-init
records-init g c = λ octets records h is. splits_nothing g.W.Write.contents c.args.outlets.now c.take.new.self c.take.new.self octets records h is refl refl

pub records-preserved : goal.records-preserved
records-preserved g c = λ octets records h is.
    let one = c.records.invariant octets records h is in
    splits_on g.W.Write.contents c.args.outlets.now c.records.outlets c.step.new.outlets c.take.new.self c.records.self c.step.new.self octets octets records h one
    (c.in_ok-step.ensures.on octets one.others one.items one.is)

pub returns : goal.returns
returns g c = λ octets records h is.
    let fed = c.in_ok-take.ensures.fed octets records h is in
    let piece = c.args.piece.now in
    let one = c.records.invariant (octets ++ piece) records h fed in
    splits_from g.W.Write.contents c.args.outlets.now c.step.new.outlets c.args.self.now c.take.new.self c.step.new.self (octets ++ piece) records h c.in_ok-take.ensures.parts c.in_ok-take.ensures.format
    (splits_on g.W.Write.contents c.args.outlets.now c.records.outlets c.step.new.outlets c.take.new.self c.records.self c.step.new.self (octets ++ piece) (octets ++ piece) records h one
    (c.in_ok-step.ensures.on (octets ++ piece) one.others one.items one.is))
