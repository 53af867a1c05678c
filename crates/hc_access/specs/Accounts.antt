-- A line for each reply: it is drafted, or counted as lost.
use Rattle.std.specs.Prelude.{◌≡◌, ◌+◌, ◌-◌, ◌^◌, ℕ, zero, suc, List, length, min}
use Rattle.std.specs.List.{sum_by}
use Rattle.hc_service.specs.declared.action.Action.{Action}
use Rattle.hc_service.specs.declared.action.Action.TheVariants.{ToClient, CloseClient, Forward, CloseForward, Record}
use Rattle.hc_access.specs.declared.replies.Replies.{Replies}

-- an action is a reply, or none
abbrev pub reply_in : Action → ℕ
reply_in (ToClient client text) = 1
reply_in (CloseClient client) = 0
reply_in (Forward forward text) = 0
reply_in (CloseForward forward) = 0
reply_in (Record given) = 0

-- how many replies there are
abbrev pub replies_in : List Action → ℕ
replies_in actions = sum_by reply_in actions

-- a count, where so many more were counted, one after another, as far as numbers go
abbrev pub counted_on : ℕ → ℕ → ℕ
counted_on zero count = count
counted_on (suc more) count = counted_on more (min (count + 1) (2 ^ 64 - 1))

-- so many replies have come: for each there is one draft more, or one line more is lost
pub record Accounts (replies : ℕ) (old new : Replies) : Type 0 where
  pub drafted : ℕ
  pub lost : ℕ
  pub all : replies ≡ drafted + lost
  pub drafts : length new.fresh.items ≡ length old.fresh.items + drafted
  pub lost_are : new.lost ≡ counted_on lost old.lost

-- one reply has come
abbrev pub DraftsOne : Replies → Replies → Type 0
DraftsOne old new = Accounts 1 old new
