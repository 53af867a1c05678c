-- What a report on a transcript, and the explanation of a reply, leave on their two writers.
use Rattle.std.specs.Prelude.{◌≡◌, ◌≤◌, ◌⊎◌, ℕ, List, [], ◌∷◌, ◌++◌, Bool, true, false, Option, Some, None, IfSome, codes, length, unwrap_or}
use Rattle.std.specs.Io.KnownBytes.{Appends, Consumes, Keeps}
use Rattle.hc_transcript.specs.declared.fault.RecordFault.{RecordFault}
use Rattle.hc_transcript.specs.Items.{Item}
use Rattle.hc_history.specs.declared.settings.Settings.{Settings}
use Rattle.hc_history.specs.declared.verdicts.Counts.{Counts}
use Rattle.hc_history.specs.declared.verdicts.Finding.{Finding}
use Rattle.hc_history.specs.declared.verdicts.Finding.TheVariants.{Right, Wrong}
use Rattle.hc_history.specs.declared.verdicts.Verdict.{Verdict}
use Rattle.hc_history.specs.declared.verdicts.Verdict.TheVariants.{Malformed, No, Yes}
use Rattle.hc_history.specs.declared.wrong.WrongReply.{WrongReply}
use Rattle.hc_history.specs.declared.wrong.Ending.{Ending}
use Rattle.hc_history.specs.declared.wrong.Ending.TheVariants as ending
use Rattle.hc_history.specs.Seen.{Seen}
use Rattle.hc_history.specs.Verdicts.{IsVerdict}
use Rattle.hc_audit.specs.declared.survey.Survey.{Survey}
use Rattle.hc_audit.specs.Endings.{EndsSo, IsSurveyOf}
use Rattle.hc_audit.specs.Surveying.{AreCounted, Surveys}
use Rattle.hc_why.specs.Seeking.{reason_in, wrong_at}
use Rattle.hc_past.specs.Standing.{stands_at}
use Rattle.hc_explain.specs.declared.explaining.Form.{Form}
use Rattle.hc_explain.specs.declared.explaining.Form.TheVariants.{Json, Text}
use Rattle.hc_explain.specs.Heads.{IsHead}
use Rattle.hc_explain.specs.Hearing.{IsToldAmong}
use Rattle.hc_why.specs.declared.explaining.Way.{Way}
use Rattle.hc_command.specs.declared.surveying.Outcome.{Outcome}
use Rattle.hc_command.specs.declared.surveying.Outcome.TheVariants.{Whole, Broken}
use Rattle.hc_command.specs.declared.surveying.Stop.{Stop}
use Rattle.hc_command.specs.declared.surveying.Stop.TheVariants as stop
use Rattle.hc_command.specs.declared.surveying.Stop.TheVariants.{Enough}
use Rattle.hc_auditing.specs.Audit.{SaysLine}
use Rattle.hc_auditing.specs.Line.{IsVerdictLine, status_of}

-- ---- an input that is read

-- the octets that an input had before, and those that are left of them, where they are known
pub record Input : Type 0 where
  pub had : Option (List ℕ)
  pub left : Option (List ℕ)

-- ---- how the reading of octets ends

abbrev pub ending_of : Outcome → Ending
ending_of (Whole counts) = ending.Whole
ending_of (Broken position fault) = ending.Broken position fault

-- what was counted, where they are whole
abbrev pub whole_counts : Outcome → Option Counts
whole_counts (Whole counts) = Some counts
whole_counts (Broken position fault) = None

-- where the octets are whole, what is counted is that of their items, right or wrong
abbrev pub CountsAll : List ℕ → Settings → List Item → Outcome → Type 0
CountsAll octets settings h (Whole counts) = AreCounted octets settings h counts
CountsAll octets settings h (Broken position fault) = Unit {0}

-- these are all items and all wrong replies of the octets, which end so
pub record IsSurveyed (octets : List ℕ) (settings : Settings) (h : List Item) (wrongs : List WrongReply) (outcome : Outcome) : Type 0 where
  pub is : IsSurveyOf octets settings h wrongs (ending_of outcome)
  pub counted : CountsAll octets settings h outcome

-- ---- what a survey of an input tells

-- what was read of the input was surveyed, and who was told of it has heard of its items and tells its wrong replies; who has not seen enough was told of all
-- that the input had
pub record SurveysFor (tells : List WrongReply → Type 0) (hears : List Item → Type 0) (enough : Type 0) (settings : Settings) (input : Input) (outcome : Outcome) : Type 0 where
  pub read : List ℕ
  pub consumed : Consumes input.had input.left read
  pub history : List Item
  pub wrongs : List WrongReply
  pub told : tells wrongs
  pub heard : hears history
  pub are : IsSurveyed read settings history wrongs outcome
  pub all : enough ⊎ IfSome input.had (λ octets. IsSurveyed octets settings history wrongs outcome)

-- ---- what is told of a reply, when the input is read again

-- what was read of the input has these items, these wrong replies and this outcome
pub record IsReadOf (settings : Settings) (input : Input) (history : List Item) (wrongs : List WrongReply) (outcome : Outcome) : Type 0 where
  pub read : List ℕ
  pub consumed : Consumes input.had input.left read
  pub are : IsSurveyed read settings history wrongs outcome

-- in JSON, or as text
abbrev pub form_of : Bool → Form
form_of true = Json
form_of false = Text

-- that is told, in JSON or as text, of the reply at that place, of which that is found, among the items of what was read of the input when it was read again
pub record IsToldAgain (json : Bool) (settings : Settings) (again : Input) (place : ℕ) (finding : Finding) (text : List ℕ) : Type 0 where
  pub history : List Item
  pub wrongs : List WrongReply
  pub outcome : Outcome
  pub are : IsReadOf settings again history wrongs outcome
  pub told : IsToldAmong (form_of json) history place finding text

-- what is told behind a verdict: of a no what is told of the reply that is wrong first, and else nothing
abbrev pub IsToldBehind : Bool → Settings → Input → Verdict → Option (List ℕ) → Type 0
IsToldBehind json settings again (Yes counts) told = told ≡ None
IsToldBehind json settings again (Malformed position fault) told = told ≡ None
IsToldBehind json settings again (No position why) None = ⊥
IsToldBehind json settings again (No position why) (Some told) = IsToldAgain json settings again position (Wrong why) told

-- ---- what is said

-- an object on one line: of a verdict, and of what is told of a reply; each is null where there is none
abbrev pub reply_text : Option (List ℕ) → List ℕ
reply_text None = codes "null"
reply_text (Some told) = told

pub record IsObject (verdict : Option Verdict) (told : Option (List ℕ)) (text : List ℕ) : Type 0 where
  pub verdict_text : List ℕ
  pub null : verdict ≡ None → verdict_text ≡ codes "null"
  pub is : text ≡ codes "{\"verdict\":" ++ (verdict_text ++ (codes ",\"reply\":" ++ (reply_text told ++ codes "}\n")))

-- the writer got the line of the verdict, and that behind it, and this is its status
pub record SaysLineThen (verdict : Verdict) (more : List ℕ) (status : ℕ) (old new : Option (List ℕ)) : Type 0 where
  pub line : List ℕ
  pub has_status : status ≡ status_of verdict
  pub is_line : IsVerdictLine verdict line
  pub written : Appends old new (line ++ more)

-- the same, and something behind it
abbrev pub SaysLineFirst : Verdict → ℕ → Option (List ℕ) → Option (List ℕ) → Type 0
SaysLineFirst verdict status old new = (more : List ℕ) × SaysLineThen verdict more status old new

-- the writer got an object of that verdict, with what is told, and this is its status
pub record SaysText (verdict : Verdict) (told : Option (List ℕ)) (status : ℕ) (old new : Option (List ℕ)) : Type 0 where
  pub text : List ℕ
  pub is_object : IsObject (Some verdict) told text
  pub has_status : status ≡ status_of verdict
  pub written : Appends old new text

-- in JSON, or as text
abbrev pub SaysOf : Bool → Verdict → Option (List ℕ) → ℕ → Option (List ℕ) → Option (List ℕ) → Type 0
SaysOf true verdict told status old new = SaysText verdict told status old new
SaysOf false verdict told status old new = SaysLineThen verdict (unwrap_or told []) status old new

module _ (json : Bool) (settings : Settings) where
  -- the verdict is that on all octets that the input had, where these are known, and behind it is told what there is to tell
  pub record SaysReport (had : Option (List ℕ)) (again : Input) (status : ℕ) (old new : Option (List ℕ)) : Type 0 where
    pub verdict : Verdict
    pub is : IfSome had (λ octets. IsVerdict octets settings verdict)
    pub told : Option (List ℕ)
    pub explained : IsToldBehind json settings again verdict told
    pub says : SaysOf json verdict told status old new

  -- an explanation says so on the output and leaves the faults as they were; where there is none, the status is 3
  abbrev pub ReportsFor : Option (List ℕ) → Input → ℕ → Option (List ℕ) → Option (List ℕ) → Option (List ℕ) → Option (List ℕ) → Type 0
  ReportsFor had again status old new faults_old faults_new = (status ≡ 3) ⊎ (SaysReport had again status old new × Keeps faults_old faults_new)

  -- it says so, if there is a status
  abbrev pub SaysIfSome : Option (List ℕ) → Input → Option ℕ → Option (List ℕ) → Option (List ℕ) → Type 0
  SaysIfSome had again None old new = ⊥
  SaysIfSome had again (Some status) old new = SaysReport had again status old new

-- ---- what is said of the reply at a position

-- the exit status of a reply
abbrev pub reply_status : Finding → ℕ
reply_status Right = 0
reply_status (Wrong why) = 1

-- the line heads the explanation of the reply at that position
abbrev pub IsHeadLine : ℕ → Finding → List ℕ → Type 0
IsHeadLine position finding line = (way : Way) × (head : List ℕ) × IsHead position finding way head × (line ≡ head ++ 10 ∷ [])

-- the writer got the line that heads the explanation of that reply, and behind it what is told of it, and this is its status
pub record SaysHead (position : ℕ) (finding : Finding) (told : List ℕ) (old new : Option (List ℕ)) (status : ℕ) : Type 0 where
  pub line : List ℕ
  pub has_status : status ≡ reply_status finding
  pub is_line : IsHeadLine position finding line
  pub written : Appends old new (line ++ told)

-- the writer got an object without a verdict, in which that is told of it, and this is the status of a reply of that finding
pub record SaysFinding (finding : Finding) (told : List ℕ) (old new : Option (List ℕ)) (status : ℕ) : Type 0 where
  pub text : List ℕ
  pub is_object : IsObject None (Some told) text
  pub has_status : status ≡ reply_status finding
  pub written : Appends old new text

-- in JSON, or as text
abbrev pub SaysReplyIn : Bool → ℕ → Finding → List ℕ → Option (List ℕ) → Option (List ℕ) → ℕ → Type 0
SaysReplyIn true position finding told old new status = SaysFinding finding told old new status
SaysReplyIn false position finding told old new status = SaysHead position finding told old new status

-- the writer got the line of that verdict, and nothing else; or an object of it, in JSON
abbrev pub SaysBreakIn : Bool → Verdict → ℕ → Option (List ℕ) → Option (List ℕ) → Type 0
SaysBreakIn true verdict status old new = SaysText verdict None status old new
SaysBreakIn false verdict status old new = SaysLine verdict status old new

-- a reply stands at that place in what was read of the input, and that is found of it: it is wrong by the reason of the wrong reply that stands there among those of
-- the octets that were read, and right where none does
pub record IsFindingAt (settings : Settings) (input : Input) (place : ℕ) (finding : Finding) : Type 0 where
  pub history : List Item
  pub wrongs : List WrongReply
  pub outcome : Outcome
  pub are : IsReadOf settings input history wrongs outcome
  pub stands : stands_at place history ≡ true
  pub reason : reason_in finding ≡ wrong_at place wrongs

-- no reply stands at that place: what was read of the input has none there, right or wrong, and has the record there, or is all that the input had
pub record HasNoReplyAt (settings : Settings) (input : Input) (place : ℕ) : Type 0 where
  pub history : List Item
  pub wrongs : List WrongReply
  pub outcome : Outcome
  pub are : IsReadOf settings input history wrongs outcome
  pub none_stands : stands_at place history ≡ false
  pub none_wrong : wrong_at place wrongs ≡ None
  pub all : (place ≤ length history) ⊎ IfSome input.had (λ octets. IsSurveyed octets settings history wrongs outcome)

-- the outcome is that a record at that place or before it breaks the transcript, and the writer got that, and this is its status
pub record SaysBreak (json : Bool) (outcome : Outcome) (place status : ℕ) (old new : Option (List ℕ)) : Type 0 where
  pub position : ℕ
  pub fault : RecordFault
  pub is : outcome ≡ Broken position fault
  pub no_later : position ≤ place
  pub says : SaysBreakIn json (Malformed position fault) status old new

-- the writer got that the transcript breaks by that outcome, if there is a status, and else nothing
abbrev pub BreaksIfSome : Bool → Outcome → ℕ → Option ℕ → Option (List ℕ) → Option (List ℕ) → Type 0
BreaksIfSome json outcome place None old new = Keeps old new
BreaksIfSome json outcome place (Some status) old new = SaysBreak json outcome place status old new

module _ (json : Bool) (settings : Settings) where
  -- the writer got what is said of the reply at that place, of which that is found, and what is told of it when it is read again
  pub record SaysFound (input again : Input) (place status : ℕ) (old new : Option (List ℕ)) : Type 0 where
    pub finding : Finding
    pub is : IsFindingAt settings input place finding
    pub told : List ℕ
    pub explained : IsToldAgain json settings again place finding told
    pub says : SaysReplyIn json place finding told old new status

  -- the writer got that a record of what was read of the input breaks the transcript, at that place or before it
  pub record SaysBrokenBefore (input : Input) (place status : ℕ) (old new : Option (List ℕ)) : Type 0 where
    pub history : List Item
    pub wrongs : List WrongReply
    pub outcome : Outcome
    pub are : IsReadOf settings input history wrongs outcome
    pub says : SaysBreak json outcome place status old new

  -- the writer got an explanation or that the transcript breaks, if there is a status, and else nothing, since no reply stands there
  abbrev pub WritesIfSome : Input → Input → ℕ → Option ℕ → Option (List ℕ) → Option (List ℕ) → Type 0
  WritesIfSome input again place None old new = Keeps old new × HasNoReplyAt settings input place
  WritesIfSome input again place (Some status) old new = SaysFound input again place status old new ⊎ SaysBrokenBefore input place status old new

  -- an explanation of the reply at that place says on the output what is found there, or that a record before it breaks the transcript, and leaves the faults as they
  -- were; where it says neither, no reply stands there, the output gets nothing and the status is 64; where there is none for want of memory or by a device, the
  -- status is 3
  abbrev pub ExplainsAt : Input → Input → ℕ → ℕ → Option (List ℕ) → Option (List ℕ) → Option (List ℕ) → Option (List ℕ) → Type 0
  ExplainsAt input again place status old new faults_old faults_new =
      (status ≡ 3) ⊎ ((status ≡ 64) × (Keeps old new × HasNoReplyAt settings input place))
      ⊎ ((SaysFound input again place status old new ⊎ SaysBrokenBefore input place status old new) × Keeps faults_old faults_new)

-- ---- where the input isn't known

-- the writer got what is said of the verdict on some input, and behind it what is told, and this is its status
pub record SaysSomeReport (json : Bool) (status : ℕ) (old new : Option (List ℕ)) : Type 0 where
  pub settings : Settings
  pub had : Option (List ℕ)
  pub again : Input
  pub says : SaysReport json settings had again status old new

-- an explanation of the first wrong reply of some input, in JSON or as text
abbrev pub Reported : Bool → ℕ → Option (List ℕ) → Option (List ℕ) → Option (List ℕ) → Option (List ℕ) → Type 0
Reported json status old new faults_old faults_new =
    (status ≡ 3) ⊎ (SaysSomeReport json status old new × Keeps faults_old faults_new)

-- an explanation of the reply at that place of some input
pub record ExplainsSome (json : Bool) (place status : ℕ) (old new faults_old faults_new : Option (List ℕ)) : Type 0 where
  pub settings : Settings
  pub input : Input
  pub again : Input
  pub explains : ExplainsAt json settings input again place status old new faults_old faults_new

-- an explanation of a reply of some input, which is read twice: of the first wrong one, or else of the one at that place
abbrev pub ExplainedTwice : Bool → Option ℕ → ℕ → Option (List ℕ) → Option (List ℕ) → Option (List ℕ) → Option (List ℕ) → Type 0
ExplainedTwice json None status old new faults_old faults_new = Reported json status old new faults_old faults_new
ExplainedTwice json (Some place) status old new faults_old faults_new = (status ≡ 3) ⊎ ExplainsSome json place status old new faults_old faults_new

-- the input can't be read twice, and the output gets nothing
abbrev pub IsRefused : ℕ → Option (List ℕ) → Option (List ℕ) → Type 0
IsRefused status old new = (status ≡ 64) × Keeps old new

-- one of both
abbrev pub Explained : Bool → Option ℕ → ℕ → Option (List ℕ) → Option (List ℕ) → Option (List ℕ) → Option (List ℕ) → Type 0
Explained json position status old new faults_old faults_new =
    IsRefused status old new ⊎ ExplainedTwice json position status old new faults_old faults_new

-- ---- what private functions promise

-- a survey stops by that only where its witness has seen enough, or where the ending that it gives stands
abbrev pub StopsBy : Type 0 → Settings → List ℕ → List Item → List WrongReply → Stop → Type 0
StopsBy enough settings octets h wrongs Enough = enough
StopsBy enough settings octets h wrongs (stop.Broken position fault) = EndsSo (ending.Broken position fault) settings octets h wrongs

-- the survey was fed these octets, who was told of it has heard of their items and tells their wrong replies, and it stops only where it may
pub record FeedsSurvey {I : Type 0} (seen : I → Seen) (survey : Survey I) (tells : List WrongReply → Type 0) (hears : List Item → Type 0) (enough : Type 0) (settings : Settings)
    (octets : List ℕ) (stop : Option Stop) : Type 0 where
  pub history : List Item
  pub wrongs : List WrongReply
  pub surveys : Surveys seen survey settings octets history wrongs
  pub told : tells wrongs
  pub heard : hears history
  pub stops : IfSome stop (StopsBy enough settings octets history wrongs)
