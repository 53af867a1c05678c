use Rattle.std.proofs.Common.{◌≡◌, ◌++◌, OnOk, subst}
use Rattle.hc_head.specs.declared.head.ResponseHead.{ResponseHead}
use Rattle.hc_framing.specs.declared.message.Message.{Message}
use Rattle.hc_service.specs.Sending.{refusal_actions}
use Rattle.hc_reactions.proofs.sending.refuse.Goals as goal

pub returns : goal.returns
returns c =
    subst (λ (reply : Message ResponseHead). OnOk c.send_refusal.result
    (c.send_refusal.new.actions.items ≡ c.args.actions.now.items ++ refusal_actions c.args.connection reply))
    c.in_ok-reply.ensures c.send_refusal.ensures
