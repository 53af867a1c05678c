-- The strict verdict on octets: what an audit answers that allows nothing beside the rules. Nothing of what may be allowed is read here.
use Rattle.std.specs.Prelude.{◌≡◌, ℕ, ◌⊎◌, List, [], ◌∷◌}
use Rattle.hc_transcript.specs.declared.fault.RecordFault.{RecordFault}
use Rattle.hc_transcript.specs.declared.format.Format.{Format}
use Rattle.hc_transcript.specs.declared.record.Record.{Record}
use Rattle.hc_transcript.specs.Items.{Item}
use Rattle.hc_transcript.specs.History.{next_position}
use Rattle.hc_transcript.specs.Transcript.{Splits, IsTranscript}
use Rattle.hc_transcript.specs.Malformed.{BreaksOpening, IsMalformedAfter}
use Rattle.hc_history.specs.declared.reasons.Reason.{Reason}
use Rattle.hc_history.specs.declared.settings.Settings.{Settings}
use Rattle.hc_history.specs.declared.verdicts.Counts.{Counts}
use Rattle.hc_history.specs.declared.verdicts.Verdict.{Verdict}
use Rattle.hc_history.specs.declared.verdicts.Verdict.TheVariants.{Yes, No, Malformed}
use Rattle.hc_history.specs.Strict.{IsStrictlyRight, IsStrictlyWrong, strict_counts}

-- every reply of the history is strictly right
abbrev pub AllStrictlyRight : Format → Settings → List Item → Type 0
AllStrictlyRight format settings [] = Unit {0}
AllStrictlyRight format settings (item ∷ h) = AllStrictlyRight format settings h × IsStrictlyRight format settings h item

-- yes: the octets are a transcript of which every reply is strictly right, and so much is counted in it
pub record IsAllStrictlyRight (octets : List ℕ) (settings : Settings) (counts : Counts) : Type 0 where
  pub format : Format
  pub records : List Record
  pub history : List Item
  pub is_transcript : IsTranscript format octets records history
  pub all_right : AllStrictlyRight format settings history
  pub counts_are : counts ≡ strict_counts history

-- no: behind records of which every reply is strictly right stands, at that position, a reply that is strictly wrong by that reason, whatever follows
pub record IsStrictlyWrongAt (octets : List ℕ) (settings : Settings) (position : ℕ) (why : Reason) : Type 0 where
  pub format : Format
  pub records : List Record
  pub history : List Item
  pub item : Item
  pub rest : List ℕ
  pub splits : Splits format octets records (item ∷ history) rest
  pub all_right : AllStrictlyRight format settings history
  pub is_wrong : IsStrictlyWrong format settings history item why
  pub position_is : position ≡ next_position history

-- malformed: behind records of which every reply is strictly right, the record at that position breaks the octets
pub record IsStrictlyMalformedAt (octets : List ℕ) (settings : Settings) (position : ℕ) (broken : RecordFault) : Type 0 where
  pub format : Format
  pub history : List Item
  pub all_right : AllStrictlyRight format settings history
  pub breaks : IsMalformedAfter format octets history broken
  pub position_is : position ≡ next_position history

-- what comes first in the octets wins; the opening has position 0, the first record 1
abbrev pub IsStrictVerdict : List ℕ → Settings → Verdict → Type 0
IsStrictVerdict octets settings (Yes counts) = IsAllStrictlyRight octets settings counts
IsStrictVerdict octets settings (No position why) = IsStrictlyWrongAt octets settings position why
IsStrictVerdict octets settings (Malformed position broken) =
    ((position ≡ 0) × BreaksOpening octets broken) ⊎ IsStrictlyMalformedAt octets settings position broken
