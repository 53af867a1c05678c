use Rattle.std.proofs.Common.{refl}
use Rattle.hc_access.proofs.AccountLemmas.{none_yet}
use Rattle.hc_access.proofs.replies.Replies.note.Goals as goal

pub returns-in-CloseClient : goal.returns-in-CloseClient
returns-in-CloseClient g c = rw c.in-CloseClient.is (none_yet _ _ refl refl)

pub returns-in-Forward : goal.returns-in-Forward
returns-in-Forward g c = rw c.in-Forward.is (none_yet _ _ refl refl)

pub returns-in-CloseForward : goal.returns-in-CloseForward
returns-in-CloseForward g c = rw c.in-CloseForward.is (none_yet _ _ refl refl)

pub returns-in-Record : goal.returns-in-Record
returns-in-Record g c = rw c.in-Record.is (none_yet _ _ c.note_record.ensures.0 c.note_record.ensures.1)
