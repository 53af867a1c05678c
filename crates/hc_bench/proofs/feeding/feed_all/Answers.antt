use Rattle.std.proofs.Common.{List, subst, sym}
use Rattle.hc_framing.specs.declared.message.Message.{Message}
use Rattle.hc_bench.specs.Feeding.{AreReadThen}
use Rattle.hc_bench.proofs.FeedingLemmas.{read_more}
use Rattle.hc_bench.proofs.feeding.feed_all.Goals as goal

pub messages-preserved : goal.messages-preserved
messages-preserved g c =
    subst (λ (messages : List (Message g.row.H.Denot)). AreReadThen g.H.MessageHead.form
    c.args.kind c.args.room messages c.args.octets.now c.split_at.result.1.now) (sym c.in_ok-push.ensures.items)
    (read_more g.H.MessageHead.form
    c.args.kind c.args.room c.messages.messages.items c.in_ok-fed.fed.message c.args.octets.now c.messages.rest.now c.split_at.result.1.now c.in_ok-fed.fed.octets
    c.messages.invariant c.in_ok-fed.ensures.read c.split_at.ensures.back)
