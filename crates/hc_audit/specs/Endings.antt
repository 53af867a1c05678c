-- How octets end, and which endings hold however they go on.
use Rattle.std.specs.Prelude.{◌≡◌, ◌≢◌, ℕ, ◌⊎◌, List, [], ◌++◌}
use Rattle.hc_transcript.specs.declared.fault.RecordFault.TheVariants as fault
use Rattle.hc_transcript.specs.declared.format.Format.{Format}
use Rattle.hc_transcript.specs.declared.record.Record.{Record}
use Rattle.hc_transcript.specs.Items.{Item}
use Rattle.hc_transcript.specs.History.{next_position}
use Rattle.hc_transcript.specs.Transcript.{IsTranscript}
use Rattle.hc_transcript.specs.Malformed.{BreaksOpening, IsMalformedAfter}
use Rattle.hc_history.specs.declared.settings.Settings.{Settings}
use Rattle.hc_history.specs.declared.wrong.WrongReply.{WrongReply}
use Rattle.hc_history.specs.declared.wrong.Ending.{Ending}
use Rattle.hc_history.specs.declared.wrong.Ending.TheVariants.{Whole, Broken}
use Rattle.hc_history.specs.WrongReplies.{AreWrongReplies}

-- ---- what a survey comes to

-- these are the items of all records of the octets, the newest first, up to their end or to the first record that breaks them, and they end so
abbrev pub AreItemsOf : List ℕ → List Item → Ending → Type 0
AreItemsOf octets h Whole = (format : Format) × (records : List Record) × IsTranscript format octets records h
AreItemsOf octets h (Broken position broken) =
    ((position ≡ 0) × BreaksOpening octets broken × (h ≡ [])) ⊎ ((format : Format) × IsMalformedAfter format octets h broken × (position ≡ next_position h))

-- and these are all wrong replies of the octets
pub record IsSurveyOf (octets : List ℕ) (settings : Settings) (h : List Item) (wrongs : List WrongReply) (ending : Ending) : Type 0 where
  pub items : AreItemsOf octets h ending
  pub wrong : AreWrongReplies octets settings wrongs ending

-- ---- which endings hold

-- they break by any fault but Torn
abbrev pub IsLast : Ending → Type 0
IsLast Whole = ⊥
IsLast (Broken position broken) = broken ≢ fault.Torn

-- they are whole, or Torn
abbrev pub MayGoOn : Ending → Type 0
MayGoOn Whole = Unit {0}
MayGoOn (Broken position broken) = broken ≡ fault.Torn

-- so it is whatever follows them
pub record EndsSo (ending : Ending) (settings : Settings) (octets : List ℕ) (h : List Item) (wrongs : List WrongReply) : Type 0 where
  pub is_last : IsLast ending
  pub holds : (more : List ℕ) → IsSurveyOf (octets ++ more) settings h wrongs ending
