use Rattle.std.proofs.Common.{◌≡◌, ◌+◌, length, refl, rules}
use Rattle.hc_access.proofs.AccountLemmas.{one_drafted}
use Rattle.hc_access.proofs.replies.Replies.keep.Goals as goal

pub returns-else-is_err : goal.returns-else-is_err
returns-else-is_err c =
    let more : length c.push.new.self.items ≡ length c.args.self.now.fresh.items + 1 = search rules in
    one_drafted _ _ more refl
