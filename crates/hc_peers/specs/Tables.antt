-- Tables of links by number.
use Rattle.std.specs.Prelude.{◌≡◌, ℕ, Bool, false, List, Option, Some, None}
use Rattle.std.specs.BTreeMap.{BTreeMap, get, is_at}
use Rattle.std.specs.Ordering.{nat_cmp}
use Rattle.hc_order.specs.declared.receiver.Receiver.{Receiver}
use Rattle.hc_order.specs.Log.{Move}
use Rattle.hc_order.specs.Passages.{Passage, passage_of}

-- all but that one are as they were
abbrev pub KeepsOthers : {V : Type 0} → ℕ → BTreeMap ℕ V → BTreeMap ℕ V → Type 0
KeepsOthers k before after = (n : ℕ) → is_at (nat_cmp k) n ≡ false → get nat_cmp after n ≡ get nat_cmp before n

-- whether something is there, and is so
abbrev pub is_there_and : {V : Type 0} → Option V → (V → Bool) → Bool
is_there_and None test = false
is_there_and (Some value) test = test value

-- what is kept of each link, by number, agrees with what the log says passed there
abbrev pub AreAt : {V : Type 0} → (Option V → Passage → Type 0) → (ℕ → Receiver) → BTreeMap ℕ V → List Move → Type 0
AreAt Is link table log = (n : ℕ) → Is (get nat_cmp table n) (passage_of (link n) log)
