-- Which verdicts hold however the octets go on.
use Rattle.std.specs.Prelude.{◌≡◌, ◌≢◌, ℕ, List, ◌++◌}
use Rattle.hc_transcript.specs.declared.fault.RecordFault.TheVariants as fault
use Rattle.hc_history.specs.declared.settings.Settings.{Settings}
use Rattle.hc_history.specs.declared.verdicts.Verdict.{Verdict}
use Rattle.hc_history.specs.declared.verdicts.Verdict.TheVariants.{Yes, No, Malformed}
use Rattle.hc_history.specs.Verdicts.{IsVerdict}

-- a No, or a Malformed by any fault but Torn
abbrev pub IsFinal : Verdict → Type 0
IsFinal (Yes counts) = ⊥
IsFinal (No position why) = Unit {0}
IsFinal (Malformed position broken) = broken ≢ fault.Torn

-- a Yes, or a Malformed by Torn
abbrev pub MayChange : Verdict → Type 0
MayChange (Yes counts) = Unit {0}
MayChange (No position why) = ⊥
MayChange (Malformed position broken) = broken ≡ fault.Torn

-- it is the verdict on the octets, whatever follows them
pub record Stands (verdict : Verdict) (settings : Settings) (octets : List ℕ) : Type 0 where
  pub is_final : IsFinal verdict
  pub holds : (more : List ℕ) → IsVerdict (octets ++ more) settings verdict
