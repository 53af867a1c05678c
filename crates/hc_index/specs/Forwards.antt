-- What becomes of the open forwards, and of the open exchanges for which one was made.
use Rattle.std.specs.Prelude.{◌≡◌, ◌==◌, ◌||◌, ℕ, false, Option, Some, None, if◌then◌else◌}
use Rattle.std.specs.Option.{option_map}
use Rattle.hc_history.specs.Seen.{Seen}
use Rattle.hc_history.specs.Windows.{is_number_of}
use Rattle.hc_index.specs.declared.forwards.OpenForwards.{OpenForwards}
use Rattle.hc_index.specs.declared.kept.RecordedForward.{RecordedForward}
use Rattle.hc_index.specs.Lists.{cause_in, cause_seen, forward_in, forward_seen, is_made_for}

-- what is seen of forwards is these
pub record AreForwardsOf (seen : Seen) (forwards : OpenForwards) : Type 0 where
  pub forward : (f : ℕ) → seen.forward f ≡ forward_in f forwards
  pub cause : (f : ℕ) → seen.cause f ≡ cause_in f forwards
  pub has_forward : (e : ℕ) → seen.has_forward e ≡ is_made_for e forwards

-- an exchange of that number is opened or closed
pub record BeginsAnew (number : ℕ) (old new : OpenForwards) : Type 0 where
  pub forward : (f : ℕ) → forward_in f new ≡ forward_in f old
  pub cause : (f : ℕ) → cause_in f new ≡ cause_in f old
  pub has_forward : (e : ℕ) → is_made_for e new ≡ (if number == e then false else is_made_for e old)

-- the forward is opened, with that number
pub record Opens (number : ℕ) (opened : RecordedForward) (old new : OpenForwards) : Type 0 where
  pub forward : (f : ℕ) → forward_in f new ≡ (if number == f then Some (forward_seen opened) else forward_in f old)
  pub cause : (f : ℕ) → cause_in f new ≡ (if number == f then opened.cause else cause_in f old)
  pub has_forward : (e : ℕ) → is_made_for e new ≡ (is_number_of e opened.cause || is_made_for e old)

-- the forward of that number is closed, if it was open
pub record Takes (number : ℕ) (taken : Option RecordedForward) (old new : OpenForwards) : Type 0 where
  pub was_open : option_map forward_seen taken ≡ forward_in number old
  pub its_cause : cause_seen taken ≡ cause_in number old
  pub forward : (f : ℕ) → forward_in f new ≡ (if number == f then None else forward_in f old)
  pub cause : (f : ℕ) → cause_in f new ≡ (if number == f then None else cause_in f old)
  pub has_forward : (e : ℕ) → is_made_for e new ≡ is_made_for e old
