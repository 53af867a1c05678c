-- What a survey is after octets that it doesn't keep, and after whom it has told of them.
use Rattle.std.specs.Prelude.{◌≡◌, ℕ, ◌⊎◌, List, [], ◌∷◌, ◌++◌, Option, Some, None, Result, Ok, Err}
use Rattle.std.specs.declared.alloc.AllocError.{AllocError}
use Rattle.hc_transcript.specs.declared.format.Format.{Format}
use Rattle.hc_transcript.specs.declared.record.Record.{Record}
use Rattle.hc_transcript.specs.Items.{Item}
use Rattle.hc_transcript.specs.Transcript.{Splits}
use Rattle.hc_transcript.specs.Reader.{Waits, format_read, octets_held}
use Rattle.hc_history.specs.declared.reasons.Reason.{Reason}
use Rattle.hc_history.specs.declared.settings.Settings.{Settings}
use Rattle.hc_history.specs.declared.verdicts.Counts.{Counts}
use Rattle.hc_history.specs.declared.wrong.WrongReply.{WrongReply}
use Rattle.hc_history.specs.declared.wrong.Ending.{Ending}
use Rattle.hc_history.specs.Counting.{counts_of, no_counts}
use Rattle.hc_history.specs.Right.{IsRight, IsWrong}
use Rattle.hc_history.specs.Seen.{Seen}
use Rattle.hc_history.specs.WrongReplies.{wrong_after, AreWrongIn}
use Rattle.hc_audit.specs.declared.judge.Judge.{Judge}
use Rattle.hc_audit.specs.declared.survey.Survey.{Survey}
use Rattle.hc_audit.specs.declared.survey.SurveyStage.{SurveyStage}
use Rattle.hc_audit.specs.declared.survey.SurveyStage.TheVariants.{Open, Ended, Failed}
use Rattle.hc_audit.specs.Endings.{EndsSo}
use Rattle.hc_audit.specs.Told.{IsToldOf}
use Rattle.hc_audit.specs.Judging.{MayBeOf, HasRead, IsAhead}

-- ---- the wrong replies of a history

-- they are those of the history, in each format that the octets may be of
abbrev pub AreWrong : Option Format → Settings → List Item → List WrongReply → Type 0
AreWrong read settings h wrongs = (format : Format) → MayBeOf read format → AreWrongIn format settings h wrongs

-- with the next item they go on by that one, if it is a wrong reply
abbrev pub GoOnBy : Format → Settings → List Item → Item → List WrongReply → List WrongReply → Type 0
GoOnBy format settings h item old new =
    (IsRight format settings h item × (new ≡ old)) ⊎ ((why : Reason) × IsWrong format settings h item why × (new ≡ old ++ wrong_after h why ∷ []))

-- so much is counted of these items of the octets, in the format in which they are read; where there are none, nothing
pub record AreCounted (octets : List ℕ) (settings : Settings) (h : List Item) (counts : Counts) : Type 0 where
  pub read : (format : Format) (records : List Record) (rest : List ℕ) → Splits format octets records h rest → counts ≡ counts_of format settings h
  pub nothing : h ≡ [] → counts ≡ no_counts

-- ---- a judge that goes on behind them

module _ {I : Type 0} (seen : I → Seen) where
  -- these are the items that the judge has read of the octets, and by these settings these are the wrong replies among them
  pub record IsSurveying (j : Judge I) (settings : Settings) (octets : List ℕ) (h : List Item) (wrongs : List WrongReply) : Type 0 where
    pub read : HasRead seen j settings octets h
    pub wrong : AreWrong (format_read j.reader) settings h wrongs

  -- and no whole record is left
  pub record IsSurveyed (j : Judge I) (settings : Settings) (octets : List ℕ) (h : List Item) (wrongs : List WrongReply) : Type 0 where
    pub surveying : IsSurveying j settings octets h wrongs
    pub waits : Waits j.reader h

  -- these are the items, and the wrong replies, before a record that was read, of which nobody was told yet
  pub record IsAheadOf (j : Judge I) (settings : Settings) (octets : List ℕ) (format : Format) (h : List Item) (wrongs : List WrongReply) : Type 0 where
    pub ahead : IsAhead seen j settings octets h format
    pub wrong : AreWrongIn format settings h wrongs

  -- what the survey of a piece says, of which a witness has heard and tells
  abbrev pub GivesSurveyed : Result (Option Ending) AllocError → Judge I → Settings → List ℕ → (List WrongReply → Type 0) → (List Item → Type 0) → Type 0
  GivesSurveyed (Ok None) j settings octets tells hears = IsToldOf (IsSurveyed j settings octets) tells hears
  GivesSurveyed (Ok (Some ending)) j settings octets tells hears = IsToldOf (EndsSo ending settings octets) tells hears
  GivesSurveyed (Err e) j settings octets tells hears = Unit {0}

-- ---- the survey

-- it was given these settings and was fed these octets, in whatever pieces, and has told of these items and these wrong replies: they are those of the whole
-- records among the octets, or of all octets, where it has the ending that holds however they go on
abbrev pub SurveysBy : {I : Type 0} → (I → Seen) → SurveyStage I → Settings → List ℕ → List Item → List WrongReply → Type 0
SurveysBy seen (Open judge) settings octets h wrongs = IsSurveyed seen judge settings octets h wrongs
SurveysBy seen (Ended ending) settings octets h wrongs = EndsSo ending settings octets h wrongs
SurveysBy seen Failed settings octets h wrongs = ⊥

abbrev pub Surveys : {I : Type 0} → (I → Seen) → Survey I → Settings → List ℕ → List Item → List WrongReply → Type 0
Surveys seen survey settings octets h wrongs = SurveysBy seen survey.reach settings octets h wrongs

-- it has answered a fault
abbrev pub HasFailed : {I : Type 0} → Survey I → Type 0
HasFailed survey = survey.reach ≡ Failed

-- the ending that it knows to hold
abbrev pub ended_by : {I : Type 0} → SurveyStage I → Option Ending
ended_by (Open judge) = None
ended_by (Ended ending) = Some ending
ended_by Failed = None

abbrev pub ended : {I : Type 0} → Survey I → Option Ending
ended survey = ended_by survey.reach

-- how many octets wait to be judged: none where they have broken, or a fault was answered
abbrev pub rest_by : {I : Type 0} → SurveyStage I → ℕ
rest_by (Open judge) = octets_held judge.reader
rest_by (Ended ending) = 0
rest_by Failed = 0

abbrev pub rest : {I : Type 0} → Survey I → ℕ
rest survey = rest_by survey.reach
