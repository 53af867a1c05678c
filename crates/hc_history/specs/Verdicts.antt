-- The verdict on octets.
use Rattle.std.specs.Prelude.{◌≡◌, ℕ, ◌⊎◌, List, ◌∷◌}
use Rattle.hc_transcript.specs.declared.fault.RecordFault.{RecordFault}
use Rattle.hc_transcript.specs.declared.format.Format.{Format}
use Rattle.hc_transcript.specs.declared.record.Record.{Record}
use Rattle.hc_transcript.specs.Items.{Item}
use Rattle.hc_transcript.specs.History.{next_position}
use Rattle.hc_transcript.specs.Transcript.{Splits, IsTranscript}
use Rattle.hc_transcript.specs.Malformed.{BreaksOpening, IsMalformedAfter}
use Rattle.hc_history.specs.declared.reasons.Reason.{Reason}
use Rattle.hc_history.specs.declared.settings.Settings.{Settings}
use Rattle.hc_history.specs.declared.verdicts.Counts.{Counts}
use Rattle.hc_history.specs.declared.verdicts.Verdict.{Verdict}
use Rattle.hc_history.specs.declared.verdicts.Verdict.TheVariants.{Yes, No, Malformed}
use Rattle.hc_history.specs.Counting.{counts_of}
use Rattle.hc_history.specs.Right.{AllRight, IsWrong}

-- ---- yes

-- the octets are a transcript of which every reply is right, and so much is counted in it
pub record IsAllRight (octets : List ℕ) (settings : Settings) (counts : Counts) : Type 0 where
  pub format : Format
  pub records : List Record
  pub history : List Item
  pub is_transcript : IsTranscript format octets records history
  pub all_right : AllRight format settings history
  pub counts_are : counts ≡ counts_of format settings history

-- ---- no

-- behind records of which every reply is right stands, at that position, a reply that is wrong by that reason, whatever follows
pub record IsWrongAt (octets : List ℕ) (settings : Settings) (position : ℕ) (why : Reason) : Type 0 where
  pub format : Format
  pub records : List Record
  pub history : List Item
  pub item : Item
  pub rest : List ℕ
  pub splits : Splits format octets records (item ∷ history) rest
  pub all_right : AllRight format settings history
  pub is_wrong : IsWrong format settings history item why
  pub position_is : position ≡ next_position history

-- ---- malformed

-- behind records of which every reply is right, the record at that position breaks the octets
pub record IsMalformedAt (octets : List ℕ) (settings : Settings) (position : ℕ) (broken : RecordFault) : Type 0 where
  pub format : Format
  pub history : List Item
  pub all_right : AllRight format settings history
  pub breaks : IsMalformedAfter format octets history broken
  pub position_is : position ≡ next_position history

-- ---- the verdict: what comes first in the octets wins; the opening has position 0, the first record 1
abbrev pub IsVerdict : List ℕ → Settings → Verdict → Type 0
IsVerdict octets settings (Yes counts) = IsAllRight octets settings counts
IsVerdict octets settings (No position why) = IsWrongAt octets settings position why
IsVerdict octets settings (Malformed position broken) =
    ((position ≡ 0) × BreaksOpening octets broken) ⊎ IsMalformedAt octets settings position broken
