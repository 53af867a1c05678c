-- All wrong replies of octets.
use Rattle.std.specs.Prelude.{◌≡◌, ℕ, ◌⊎◌, List, [], ◌∷◌, ◌++◌}
use Rattle.hc_transcript.specs.declared.fault.RecordFault.{RecordFault}
use Rattle.hc_transcript.specs.declared.format.Format.{Format}
use Rattle.hc_transcript.specs.declared.record.Record.{Record}
use Rattle.hc_transcript.specs.Items.{Item}
use Rattle.hc_transcript.specs.History.{next_position}
use Rattle.hc_transcript.specs.Transcript.{IsTranscript}
use Rattle.hc_transcript.specs.Malformed.{BreaksOpening, IsMalformedAfter}
use Rattle.hc_history.specs.declared.reasons.Reason.{Reason}
use Rattle.hc_history.specs.declared.settings.Settings.{Settings}
use Rattle.hc_history.specs.declared.wrong.WrongReply.{WrongReply}
use Rattle.hc_history.specs.declared.wrong.Ending.{Ending}
use Rattle.hc_history.specs.declared.wrong.Ending.TheVariants.{Whole, Broken}
use Rattle.hc_history.specs.Right.{IsRight, IsWrong}

-- ---- of a history

-- the next reply behind a history, wrong by that reason
abbrev pub wrong_after : List Item → Reason → WrongReply
wrong_after h why = record { position = next_position h; reason = why }

module _ (format : Format) (settings : Settings) where
  -- the wrong replies of a history, the oldest first: those before its newest item, and behind them that item itself, where it is a wrong reply. Whether a reply
  -- is right never asks whether an earlier one was
  abbrev pub AreWrongIn : List Item → List WrongReply → Type 0
  AreWrongIn [] wrongs = wrongs ≡ []
  AreWrongIn (item ∷ h) wrongs =
      (AreWrongIn h wrongs × IsRight format settings h item)
      ⊎ ((earlier : List WrongReply) × (why : Reason) × AreWrongIn h earlier × IsWrong format settings h item why × (wrongs ≡ earlier ++ wrong_after h why ∷ []))

-- ---- of octets

-- the octets are a transcript, and these are its wrong replies
pub record AreWrongInWhole (octets : List ℕ) (settings : Settings) (wrongs : List WrongReply) : Type 0 where
  pub format : Format
  pub records : List Record
  pub history : List Item
  pub is_transcript : IsTranscript format octets records history
  pub are_wrong : AreWrongIn format settings history wrongs

-- behind records of which these are the wrong replies, the record at that position breaks the octets
pub record AreWrongBefore (octets : List ℕ) (settings : Settings) (wrongs : List WrongReply) (position : ℕ) (broken : RecordFault) : Type 0 where
  pub format : Format
  pub history : List Item
  pub are_wrong : AreWrongIn format settings history wrongs
  pub breaks : IsMalformedAfter format octets history broken
  pub position_is : position ≡ next_position history

-- ---- all wrong replies of the octets, up to their end or to the first record that breaks them, and how they end; the opening has position 0, the first record 1
abbrev pub AreWrongReplies : List ℕ → Settings → List WrongReply → Ending → Type 0
AreWrongReplies octets settings wrongs Whole = AreWrongInWhole octets settings wrongs
AreWrongReplies octets settings wrongs (Broken position broken) =
    ((position ≡ 0) × BreaksOpening octets broken × (wrongs ≡ [])) ⊎ AreWrongBefore octets settings wrongs position broken
