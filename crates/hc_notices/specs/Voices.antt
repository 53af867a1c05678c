-- What a voice has said.
use Rattle.std.specs.Prelude.{◌≡◌, ℕ, true, false, List, Option}
use Rattle.std.specs.Io.KnownBytes.{Keeps}
use Rattle.hc_notices.specs.declared.voice.Voice.{Voice}
use Rattle.hc_notices.specs.Notices.{SaysAll, SaysSome}

-- it writes where it did, whole lines until one is cut short, and nothing behind that
pub record GoesOn {E : Type 0} (contents : E → Option (List ℕ)) (old new : Voice E) : Type 0 where
  pub same_reference : new.to.ghost_name ≡ old.to.ghost_name
  pub still : old.silent ≡ true → (new.silent ≡ true) × Keeps (contents old.to.now) (contents new.to.now)
  pub whole : old.silent ≡ false → new.silent ≡ false → SaysAll (contents old.to.now) (contents new.to.now)
  pub some : old.silent ≡ false → SaysSome (contents old.to.now) (contents new.to.now)
