-- Links to the origin that linger.
use Rattle.std.specs.Prelude.{◌≡◌, ℕ, Bool, true, is_some}
use Rattle.std.specs.BTreeMap.{get}
use Rattle.std.specs.Ordering.{nat_cmp}
use Rattle.hc_peers.specs.declared.lingerer.Lingerer.{Lingerer}
use Rattle.hc_peers.specs.declared.table.Table.{Table}

-- whether the link of that forward lingers
abbrev pub is_lingering : {S : Type 0} → ℕ → Table (Lingerer S) → Bool
is_lingering f lingering = is_some (get nat_cmp lingering.links f)

-- none lingers that didn't before
abbrev pub GainsNoLingerer : {S : Type 0} → Table (Lingerer S) → Table (Lingerer S) → Type 0
GainsNoLingerer before after = (f : ℕ) → is_lingering f after ≡ true → is_lingering f before ≡ true
