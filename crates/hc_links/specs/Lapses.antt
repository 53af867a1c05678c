-- Recorders that may fall silent, over another beneath.
use Rattle.std.specs.Prelude.{◌≡◌, ◌⊎◌, ℕ, ◌≤◌, Bool, false, true, nat_le, List, Option, Some, None, if◌then◌else◌}
use Rattle.hc_links.specs.declared.lapsing.Lapse.{Lapse}
use Rattle.hc_links.specs.declared.lapsing.Silence.{Silence}
use Rattle.hc_links.specs.declared.lapsing.Silence.TheVariants.{Failed, Full}
use Rattle.hc_links.specs.Links.{IsBeginning}

-- ---- what it tells

-- where it is silent as it is full, that stands for good
abbrev pub StandsIfFull : Silence → Type 0 → Type 0
StandsIfFull Failed stands = Unit {0}
StandsIfFull Full stands = stands

-- these octets were written to it: the one beneath got them all, or once it is silent a beginning of them, all of which stands for good where it is full
abbrev pub GotBeneath : {R : Type 0} → (has_got has_kept : R → List ℕ → Type 0) → Option Lapse → R → List ℕ → Type 0
GotBeneath has_got has_kept None recorder octets = has_got recorder octets
GotBeneath has_got has_kept (Some lapse) recorder octets =
    (front : List ℕ) × has_got recorder front × IsBeginning front octets × StandsIfFull lapse.why (has_kept recorder front)

-- these stand for good at the front of what was written to it, as the one beneath tells; once it is silent they do, or were written to it, as above
abbrev pub KeptBeneath : {R : Type 0} → (has_got has_kept : R → List ℕ → Type 0) → Option Lapse → R → List ℕ → Type 0
KeptBeneath has_got has_kept None recorder octets = has_kept recorder octets
KeptBeneath has_got has_kept (Some lapse) recorder octets = has_kept recorder octets ⊎ GotBeneath has_got has_kept (Some lapse) recorder octets

-- it was read so often, and so was the one beneath; once it is silent that was read no oftener
abbrev pub ReadBeneath : {R : Type 0} → (R → ℕ → Type 0) → Option Lapse → R → ℕ → Type 0
ReadBeneath was_read None recorder times = was_read recorder times
ReadBeneath was_read (Some lapse) recorder times = (reads : ℕ) × was_read recorder reads × (reads ≤ times)

-- how often it failed: as often as the one beneath, but for the failure for which it fell silent
abbrev pub failures_beneath : {R : Type 0} → (R → ℕ) → Option Lapse → R → ℕ
failures_beneath count None recorder = count recorder
failures_beneath count (Some lapse) recorder = lapse.failures

-- ---- why it falls silent

-- it is silent since it is full
abbrev pub IsFull : Option Lapse → Type 0
IsFull None = ⊥
IsFull (Some lapse) = lapse.why ≡ Full

-- as many octets were written as may be
abbrev pub is_full : Option ℕ → ℕ → Bool
is_full None written = false
is_full (Some limit) written = nat_le limit written

-- it is silent since the one beneath failed, unless it is strict, or since it is full
abbrev pub IsSilentFor : (strict : Bool) (failed : Type 0) (full : Bool) → Silence → Type 0
IsSilentFor strict failed full Failed = (strict ≡ false) × failed
IsSilentFor strict failed full Full = full ≡ true

-- a call left it so: it speaks, or there is a reason that it doesn't
abbrev pub FallsSilentFor : (strict : Bool) (failed : Type 0) (full : Bool) → Option Lapse → Type 0
FallsSilentFor strict failed full None = Unit {0}
FallsSilentFor strict failed full (Some lapse) = IsSilentFor strict failed full lapse.why

-- ---- what private functions return

-- it falls silent for that, where the one beneath had failed so often before
abbrev pub lapse_for : Silence → (failures : ℕ) → Lapse
lapse_for why failures = record { why = why; failures = failures }

-- and so it does behind a flush if it is full
abbrev pub lapse_if_full : (limit : Option ℕ) (written failures : ℕ) → Option Lapse
lapse_if_full limit written failures = if is_full limit written then Some (lapse_for Full failures) else None
