use Rattle.std.proofs.Common.{take}
use Rattle.hc_access.specs.Accounts.{Accounts, replies_in}
use Rattle.hc_access.proofs.replies.Replies.see.Given as goal

-- the actions so far are accounted for
abbrev pub invariant-actions : goal.invariant-actions
invariant-actions g l = Accounts (replies_in (take l.action-index l.actions)) l.initial.self l.self
