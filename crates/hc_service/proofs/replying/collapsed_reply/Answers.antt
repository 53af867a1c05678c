use Rattle.std.proofs.Common.{◌≡◌, subst, IfOk}
use Rattle.hc_status.specs.declared.cache_status.Handling.{Handling}
use Rattle.hc_service.specs.Replying.{entry_reply}
use Rattle.hc_service.proofs.replying.collapsed_reply.Goals as goal

pub returns : goal.returns
returns c =
    subst (λ (handling : Handling). IfOk c.entry_reply.result (λ reply. reply ≡ entry_reply c.args.wanted.now handling c.args.stored.now)) c.in_ok-handling.ensures
    c.entry_reply.ensures
