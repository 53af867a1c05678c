use Rattle.std.proofs.Common.{◌≡◌}
use Rattle.hc_serving.proofs.herald.Herald.look_at_replies.Given as goal

-- nothing is said
abbrev pub invariant-guests : goal.invariant-guests
invariant-guests g l = l.self.voice ≡ l.initial.self.voice
