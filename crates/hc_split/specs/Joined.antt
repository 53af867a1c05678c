-- What is told of the parts of a transcript, and what that tells of the whole.
use Rattle.std.specs.Prelude.{◌≡◌, ◌≢◌, ◌<◌, ℕ, List, Some, slice_get}
use Rattle.hc_head.specs.declared.head.Target.{Target}
use Rattle.hc_transcript.specs.declared.format.Format.{Format}
use Rattle.hc_transcript.specs.declared.record.Record.{Record}
use Rattle.hc_transcript.specs.Items.{Item}
use Rattle.hc_history.specs.declared.reasons.Reason.{Reason}
use Rattle.hc_history.specs.declared.settings.Settings.{Settings}
use Rattle.hc_history.specs.declared.verdicts.Verdict.TheVariants.{Yes, No}
use Rattle.hc_history.specs.Verdicts.{IsVerdict}
use Rattle.hc_parts.specs.Joining.{AreRightParts, IsClearBefore, IsPartWrong}
use Rattle.hc_parts.specs.Parts.{part_octets}
use Rattle.hc_split.specs.declared.joining.Joined.{Joined}
use Rattle.hc_split.specs.declared.joining.Joined.TheVariants as whole
use Rattle.hc_split.specs.declared.joining.Told.{Told}
use Rattle.hc_split.specs.declared.joining.Told.TheVariants as part

module _ (parted : Target → ℕ) (format : Format) (settings : Settings) (records : List Record) (h : List Item) where
  -- what is told of a part is so: its verdict, with where a wrong reply stands in the whole
  abbrev pub IsTold : ℕ → Told → Type 0
  IsTold k (part.Right counts) = IsVerdict (part_octets parted format k records h) settings (Yes counts)
  IsTold k (part.Wrong position why) = IsPartWrong parted format settings records h k position why
  IsTold k part.Nothing = Unit {0}

  -- and so is all that is told of the parts, each at its place
  abbrev pub AreTold : List Told → Type 0
  AreTold told = (k : ℕ) (one : Told) → slice_get told k ≡ Some one → IsTold k one

  -- ---- what private functions promise

  -- a part is wrong at that position, by that reason, and the first n are right before it
  pub record IsFirstOf (n position : ℕ) (why : Reason) : Type 0 where
    pub number : ℕ
    pub is_wrong : IsPartWrong parted format settings records h number position why
    pub clear : (j : ℕ) → j < n → IsClearBefore parted format settings records h position j

  -- what the first n parts tell
  abbrev pub JoinsFirst : ℕ → Joined → Type 0
  JoinsFirst n (whole.Right counts) = AreRightParts parted format settings records h n counts
  JoinsFirst n (whole.Wrong position why) = IsFirstOf n position why
  JoinsFirst n (whole.Lacking k) = Unit {0}
  JoinsFirst n whole.TooMany = Unit {0}

-- what is said of the whole is its verdict
abbrev pub SaysOfWhole : List ℕ → Settings → Joined → Type 0
SaysOfWhole octets settings (whole.Right counts) = IsVerdict octets settings (Yes counts)
SaysOfWhole octets settings (whole.Wrong position why) = IsVerdict octets settings (No position why)
SaysOfWhole octets settings (whole.Lacking k) = Unit {0}
SaysOfWhole octets settings whole.TooMany = Unit {0}

-- something is told of each of the first n parts
abbrev pub AllAreTold : ℕ → List Told → Type 0
AllAreTold n told = (j : ℕ) → j < n → slice_get told j ≢ Some part.Nothing

-- where something is said of the whole, something is told of each of the first n parts; the part that lacks is one of which nothing is told
abbrev pub FindsLacking : ℕ → List Told → Joined → Type 0
FindsLacking n told (whole.Right counts) = AllAreTold n told
FindsLacking n told (whole.Wrong position why) = AllAreTold n told
FindsLacking n told (whole.Lacking k) = slice_get told k ≡ Some part.Nothing
FindsLacking n told whole.TooMany = Unit {0}
