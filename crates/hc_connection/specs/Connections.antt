-- What passed at a connection.
use Rattle.std.specs.Prelude.{ℕ, Bool, List, Option}
use Rattle.std.specs.BTreeMap.{BTreeMap}
use Rattle.hc_connection.specs.declared.client_side.ClientSide.{ClientSide}
use Rattle.hc_connection.specs.Forwards.{AreInOrder, AreKept}
use Rattle.hc_connection.specs.Moves.{AreMoments}
use Rattle.hc_order.specs.Log.{Move}
use Rattle.hc_connection.specs.Sides.{Opens, Tells}

-- what a client's link tells: what was read from it and written to it, how often it was read, and how often it failed
module _ {C L : Type 0} (gave got : C → List ℕ → Type 0) (was_read : C → ℕ → Type 0) (count : C → ℕ) where
  -- what passed at the client's link, and at those of forwards that are open, is what the log says; what happened first is that the connection was opened; each
  -- moment is one that the clock may tell; and links were read in order
  abbrev pub HasPassed : (origin_gave origin_got : L → List ℕ → Type 0) (may_tell : ℕ → Type 0) (opened : Bool) → ClientSide C → BTreeMap ℕ (Option L) → List Move → Type 0
  HasPassed origin_gave origin_got may_tell opened client links log =
      Tells gave got was_read count client log × Opens opened client.number log × AreMoments may_tell log × AreKept origin_gave origin_got links log × AreInOrder log
