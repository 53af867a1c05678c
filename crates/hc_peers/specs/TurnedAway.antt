-- Those for whom there was no room.
use Rattle.std.specs.Prelude.{ℕ, Bool, true, List, length, nat_lt, take}
use Rattle.hc_peers.specs.declared.turned_away.TheConstants.{MOST_TURNED_AWAY}
use Rattle.hc_peers.specs.declared.table.Table.{Table}

-- whether there is room for the link of one more
abbrev pub has_room : {S : Type 0} → Table S → Bool
has_room turned_away = nat_lt (length turned_away.links.entries) MOST_TURNED_AWAY

-- a link got a beginning of the refusal, nothing else, and our half was ended behind that
pub record IsRefused {S : Type 0} (has_got : S → List ℕ → Type 0) (was_ended : S → Bool → Type 0) (refusal : List ℕ) (stream : S) : Type 0 where
  pub count : ℕ
  pub got : has_got stream (take count refusal)
  pub ended : was_ended stream true
