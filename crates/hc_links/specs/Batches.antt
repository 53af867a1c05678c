-- Links that are served in batches.
use Rattle.std.specs.Prelude.{◌≡◌, ℕ, false, List}
use Rattle.hc_order.specs.Log.{Move}
use Rattle.hc_order.specs.Mirrors.{is_connected, is_underway}

-- by the log no connection is open, and no forward
abbrev pub NothingIsOpen : List Move → Type 0
NothingIsOpen log = ((c : ℕ) → is_connected c log ≡ false) × ((f : ℕ) → is_underway f log ≡ false)
