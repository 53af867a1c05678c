-- The lifetime that is counted with.
use Rattle.std.proofs.Common.{◌≡◌, ◌&&◌, ℕ, Bool, true, false, not, Option, Some, None, refl}
use Rattle.std.specs.Prelude.{max, is_some, if◌then◌else◌}
use Rattle.hc_history.specs.Allowing.{at_least}

-- where the audit gives one
pub with_lent : (default : Option ℕ) (stated invited : Bool) (lifetime seconds : ℕ) → (if not stated && invited then default else None) ≡ Some seconds
    → max lifetime seconds ≡ at_least default ((is_some default && not stated) && invited) lifetime
with_lent None true invited lifetime seconds told = cc
with_lent None false true lifetime seconds told = cc
with_lent None false false lifetime seconds told = cc
with_lent (Some given) true invited lifetime seconds told = cc
with_lent (Some given) false true lifetime seconds told = cc
with_lent (Some given) false false lifetime seconds told = cc

-- and where it gives none
pub without : (default : Option ℕ) (stated invited : Bool) (lifetime : ℕ) → (if not stated && invited then default else None) ≡ None
    → lifetime ≡ at_least default ((is_some default && not stated) && invited) lifetime
without None true invited lifetime told = refl
without None false true lifetime told = refl
without None false false lifetime told = refl
without (Some given) true invited lifetime told = refl
without (Some given) false true lifetime told = cc
without (Some given) false false lifetime told = refl
