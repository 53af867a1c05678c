-- What calls keep, of links and of a recorder.
use Rattle.std.specs.Prelude.{◌≡◌, ℕ, List}
use Rattle.hc_order.specs.Log.{Move}

-- as many connections are open at once at most, within the same bounds, and at no other moments things may happen
pub record KeepsLimits {L B : Type 0} (most : L → ℕ) (bounds_of : L → B) (may_tell : L → ℕ → Type 0) (old new : L) : Type 0 where
  pub as_many : most new ≡ most old
  pub bounds : bounds_of new ≡ bounds_of old
  pub moments : (moment : ℕ) → may_tell new moment → may_tell old moment

-- and nothing more was shown to clients
pub record KeepsLinks {L B : Type 0} (shows : L → List Move → Type 0) (most : L → ℕ) (bounds_of : L → B) (may_tell : L → ℕ → Type 0) (old new : L) : Type 0 where
  pub shown : (log : List Move) → shows old log → shows new log
  pub limits : KeepsLimits most bounds_of may_tell old new

-- what stood for good does still, and nothing was read
pub record KeepsRecorder {R : Type 0} (has_kept : R → List ℕ → Type 0) (was_read : R → ℕ → Type 0) (old new : R) : Type 0 where
  pub kept : (octets : List ℕ) → has_kept old octets → has_kept new octets
  pub unread : (times : ℕ) → was_read old times → was_read new times
