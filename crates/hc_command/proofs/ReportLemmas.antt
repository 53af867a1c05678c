-- What a survey of what was read says of all octets of an input, and what is said of it.
use Rattle.std.proofs.Common.{◌≡◌, ◌≤◌, ◌∙◌, ap, inl, inr, ℕ, Bool, true, false, length, List, [], ◌∷◌, ◌++◌, Option, None, Some, IfSome, append-nil, arith, refl, rules, subst, sym}
use Rattle.std.specs.Prelude.{nat_le, slice_get, IsSome}
use Rattle.std.proofs.lemmas.Bool.Decides.{nat_tests}
use Rattle.std.specs.Io.KnownBytes.{Consumes, IsAtEnd, Keeps}
use Rattle.hc_transcript.specs.declared.fault.RecordFault.{RecordFault}
use Rattle.hc_transcript.specs.Items.{Item}
use Rattle.hc_history.specs.declared.settings.Settings.{Settings}
use Rattle.hc_history.specs.declared.verdicts.Verdict.{Verdict}
use Rattle.hc_history.specs.declared.verdicts.Counts.{Counts}
use Rattle.hc_history.specs.declared.verdicts.Finding.{Finding}
use Rattle.hc_history.specs.declared.verdicts.Verdict.TheVariants.{Yes, No, Malformed}
use Rattle.hc_history.specs.declared.wrong.WrongReply.{WrongReply}
use Rattle.hc_history.specs.declared.wrong.Ending.TheVariants as ending
use Rattle.hc_history.specs.Seen.{Seen}
use Rattle.hc_history.specs.Verdicts.{IsVerdict}
use Rattle.hc_history.proofs.VerdictLemmas.{no_stays}
use Rattle.hc_history.proofs.WrongLemmas.{first_is_no, none_is_malformed}
use Rattle.hc_audit.specs.declared.survey.Survey.{Survey}
use Rattle.hc_audit.specs.Endings.{EndsSo}
use Rattle.hc_audit.proofs.SurveyLemmas.{counted_whole}
use Rattle.hc_why.specs.Seeking.{IsOfPlace, wrong_at}
use Rattle.hc_past.specs.Standing.{stands_at}
use Rattle.hc_auditing.proofs.AuditLemmas.{at_end, before_end}
use Rattle.hc_command.specs.declared.surveying.Stop.{Stop}
use Rattle.hc_command.specs.declared.surveying.Stop.TheVariants as stop
use Rattle.hc_command.specs.declared.surveying.Outcome.{Outcome}
use Rattle.hc_command.specs.declared.surveying.Outcome.TheVariants.{Whole, Broken}
use Rattle.hc_auditing.specs.Line.{status_of}
use Rattle.hc_history.specs.declared.verdicts.Finding.TheVariants.{Right, Wrong}
use Rattle.hc_why.specs.Found.{IsThat}
use Rattle.hc_command.specs.Reporting.{verdict_without}
use Rattle.hc_command.specs.Report.{BreaksIfSome, ExplainedTwice, ExplainsAt, FeedsSurvey, HasNoReplyAt, Input, IsReadOf, IsSurveyed, IsToldAgain, IsToldBehind, Reported, ReportsFor, SaysLineFirst, SaysReplyIn, StopsBy, SurveysFor, WritesIfSome, ending_of}

-- ---- the verdict

nothing_first : (wrongs : List WrongReply) → None ≡ slice_get wrongs 0 → wrongs ≡ []
nothing_first [] none = refl
nothing_first (one ∷ later) none = absurd cc

pub no_of_first : (octets : List ℕ) (settings : Settings) (h : List Item) (wrongs : List WrongReply) (outcome : Outcome) (wrong : WrongReply)
    → IsSurveyed octets settings h wrongs outcome → Some wrong ≡ slice_get wrongs 0 → IsVerdict octets settings (No wrong.position wrong.reason)
no_of_first octets settings h [] outcome wrong is first = absurd cc
no_of_first octets settings h (one ∷ later) outcome wrong is first =
    let same : wrong ≡ one = search rules in
    subst (λ (w : WrongReply). IsVerdict octets settings (No w.position w.reason)) (sym same) (first_is_no octets settings one later (ending_of outcome) is.is.wrong)

pub none_wrong : (octets : List ℕ) (settings : Settings) (h : List Item) (wrongs : List WrongReply) (outcome : Outcome) → IsSurveyed octets settings h wrongs outcome
    → None ≡ slice_get wrongs 0 → IsSurveyed octets settings h [] outcome
none_wrong octets settings h wrongs outcome is none = subst (λ (ws : List WrongReply). IsSurveyed octets settings h ws outcome) (nothing_first wrongs none) is

pub malformed_of : (octets : List ℕ) (settings : Settings) (h : List Item) (position : ℕ) (fault : RecordFault) → IsSurveyed octets settings h [] (Broken position fault)
    → IsVerdict octets settings (Malformed position fault)
malformed_of octets settings h position fault is = none_is_malformed octets settings position fault is.is.wrong

pub yes_of : (octets : List ℕ) (settings : Settings) (h : List Item) (counts : Counts) → IsSurveyed octets settings h [] (Whole counts) → IsVerdict octets settings (Yes counts)
yes_of octets settings h counts is = counted_whole octets settings h counts is.is is.counted

-- ---- all octets of an input

module _ {I : Type 0} (seen : I → Seen) (survey : Survey I) (tells : List WrongReply → Type 0) (hears : List Item → Type 0) (enough : Type 0) (settings : Settings)
    (input : Input) (read : List ℕ) (consumed : Consumes input.had input.left read) (stopped : Option Stop) (f : FeedsSurvey seen survey tells hears enough settings read stopped) where
  -- why it stopped
  stops_by : (known : Stop) → stopped ≡ Some known → StopsBy enough settings read f.history f.wrongs known
  stops_by known is = subst (λ s. IfSome s (StopsBy enough settings read f.history f.wrongs)) is f.stops

  -- a break that stands
  pub surveyed_to_a_break : (position : ℕ) (fault : RecordFault) → stopped ≡ Some (stop.Broken position fault)
      → SurveysFor tells hears enough settings input (Broken position fault)
  surveyed_to_a_break position fault is =
      let ends : EndsSo (ending.Broken position fault) settings read f.history f.wrongs = stops_by (stop.Broken position fault) is in
      let so : (more : List ℕ) → IsSurveyed (read ++ more) settings f.history f.wrongs (Broken position fault) = λ more. record { is = ends.holds more; counted = tt } in
      record {
        read = read;
        consumed = consumed;
        history = f.history;
        wrongs = f.wrongs;
        told = f.told;
        heard = f.heard;
        are = subst (λ (o : List ℕ). IsSurveyed o settings f.history f.wrongs (Broken position fault)) (append-nil read) (so []);
        all = inr (before_end (λ o. IsSurveyed o settings f.history f.wrongs (Broken position fault)) input.had input.left read consumed so);
      }

  -- what the witness wants to see
  pub surveyed_enough : (outcome : Outcome) → stopped ≡ Some stop.Enough → IsSurveyed read settings f.history f.wrongs outcome
      → SurveysFor tells hears enough settings input outcome
  surveyed_enough outcome is surveyed = record {
    read = read;
    consumed = consumed;
    history = f.history;
    wrongs = f.wrongs;
    told = f.told;
    heard = f.heard;
    are = surveyed;
    all = inl (stops_by stop.Enough is);
  }

  -- the end of the input
  pub surveyed_to_the_end : (outcome : Outcome) → IsAtEnd input.left → IsSurveyed read settings f.history f.wrongs outcome
      → SurveysFor tells hears enough settings input outcome
  surveyed_to_the_end outcome end surveyed = record {
    read = read;
    consumed = consumed;
    history = f.history;
    wrongs = f.wrongs;
    told = f.told;
    heard = f.heard;
    are = surveyed;
    all = inr (at_end (λ o. IsSurveyed o settings f.history f.wrongs outcome) input.had input.left read consumed end surveyed);
  }

-- ---- what is said

known : {P Q : List ℕ → Type 0} (old : Option (List ℕ)) → ((octets : List ℕ) → P octets → Q octets) → IfSome old P → IfSome old Q
known None f is = tt
known (Some octets) f is = f octets is

-- the verdict of who reads all
pub verdict_of_all : (tells : List WrongReply → Type 0) (hears : List Item → Type 0) (settings : Settings) (input : Input) (outcome : Outcome) (verdict : Verdict)
    → SurveysFor tells hears ⊥ settings input outcome
    → ((octets : List ℕ) (h : List Item) (wrongs : List WrongReply) → tells wrongs → IsSurveyed octets settings h wrongs outcome → IsVerdict octets settings verdict)
    → IfSome input.had (λ octets. IsVerdict octets settings verdict)
verdict_of_all tells hears settings input outcome verdict told is = elim told.all [
  | inl never ↦ absurd never
  | inr surveyed ↦ known input.had (λ octets. is octets told.history told.wrongs told.told) surveyed
]

-- and of who reads up to the first wrong reply
some_wrong : (first : Option WrongReply) (octets more : List ℕ) (settings : Settings) (verdict : Verdict) → IsSome first
    → IfSome first (λ wrong. verdict ≡ No wrong.position wrong.reason) → IsVerdict octets settings verdict → IsVerdict (octets ++ more) settings verdict
some_wrong None octets more settings verdict there is_no is = absurd cc
some_wrong (Some wrong) octets more settings verdict there is_no is =
    subst (λ (v : Verdict). IsVerdict (octets ++ more) settings v) (sym is_no)
    (no_stays octets more settings wrong.position wrong.reason (subst (λ (v : Verdict). IsVerdict octets settings v) is_no is))

pub verdict_of_first : (tells : List WrongReply → Type 0) (hears : List Item → Type 0) (settings : Settings) (input : Input) (outcome : Outcome) (verdict : Verdict)
    (first : Option WrongReply) → SurveysFor tells hears (IsSome first) settings input outcome
    → ((octets : List ℕ) (h : List Item) (wrongs : List WrongReply) → tells wrongs → IsSurveyed octets settings h wrongs outcome → IsVerdict octets settings verdict)
    → IfSome first (λ wrong. verdict ≡ No wrong.position wrong.reason)
    → IfSome input.had (λ octets. IsVerdict octets settings verdict)
verdict_of_first tells hears settings input outcome verdict first told is is_no = elim told.all [
  | inl there ↦ before_end (λ o. IsVerdict o settings verdict) input.had input.left told.read told.consumed
      (λ more. some_wrong first told.read more settings verdict there is_no (is told.read told.history told.wrongs told.told told.are))
  | inr surveyed ↦ known input.had (λ octets. is octets told.history told.wrongs told.told) surveyed
]

-- ---- what an explanation of the reply at a place leaves

keeps_same : (known : Option (List ℕ)) → Keeps known known
keeps_same None = tt
keeps_same (Some octets) = refl

module _ (json : Bool) (settings : Settings) (input again : Input) where
  pub explains_so : (place status : ℕ) (old new faults : Option (List ℕ)) → WritesIfSome json settings input again place (Some status) old new
      → ExplainsAt json settings input again place status old new faults faults
  explains_so place status old new faults says = inr (inr (says, keeps_same faults))

  pub explains_nothing : (place status : ℕ) (old new faults_old faults_new : Option (List ℕ)) → status ≡ 64 → WritesIfSome json settings input again place None old new
      → ExplainsAt json settings input again place status old new faults_old faults_new
  explains_nothing place status old new faults_old faults_new is nothing = inr (inl (is, nothing))

  -- what was read, by who reads up to a place
  module _ (tells : List WrongReply → Type 0) (hears : List Item → Type 0) (enough : Type 0) (outcome : Outcome) (told : SurveysFor tells hears enough settings input outcome) where
    is_read : IsReadOf settings input told.history told.wrongs outcome
    is_read = record { read = told.read; consumed = told.consumed; are = told.are }

    no_reply : (place : ℕ) → ((h : List Item) → hears h → stands_at place h ≡ false)
        → ((h : List Item) (wrongs : List WrongReply) → hears h → tells wrongs → wrong_at place wrongs ≡ None)
        → (enough → (h : List Item) → hears h → place ≤ length h) → HasNoReplyAt settings input place
    no_reply place standing none passed = record {
      history = told.history;
      wrongs = told.wrongs;
      outcome = outcome;
      are = is_read;
      none_stands = standing told.history told.heard;
      none_wrong = none told.history told.wrongs told.heard told.told;
      all = elim told.all [
        | inl has ↦ inl (passed has told.history told.heard)
        | inr surveyed ↦ inr surveyed
      ];
    }

    -- what is said where nothing is found
    pub breaks : (place : ℕ) (status : Option ℕ) (old new : Option (List ℕ)) → ((h : List Item) → hears h → stands_at place h ≡ false)
        → ((h : List Item) (wrongs : List WrongReply) → hears h → tells wrongs → wrong_at place wrongs ≡ None)
        → (enough → (h : List Item) → hears h → place ≤ length h) → BreaksIfSome json outcome place status old new
        → WritesIfSome json settings input again place status old new
    breaks place None old new standing none passed kept = (kept, no_reply place standing none passed)
    breaks place (Some status) old new standing none passed says =
        inr (record { history = told.history; wrongs = told.wrongs; outcome = outcome; are = is_read; says = says })

    -- and of what is found at a place
    pub finds : (place position status : ℕ) (finding : Finding) (text : List ℕ) (old new : Option (List ℕ))
        → ((wrongs : List WrongReply) → tells wrongs → IsOfPlace place wrongs position finding) → ((h : List Item) → hears h → stands_at place h ≡ true)
        → IsToldAgain json settings again position finding text
        → SaysReplyIn json position finding text old new status → WritesIfSome json settings input again place (Some status) old new
    finds place position status finding text old new is stands explained says =
        let of_place = is told.wrongs told.told in
        inl (record {
          finding = finding;
          told = text;
          explained = subst (λ (at : ℕ). IsToldAgain json settings again at finding text) of_place.0 explained;
          is = record {
            history = told.history;
            wrongs = told.wrongs;
            outcome = outcome;
            are = is_read;
            stands = stands told.history told.heard;
            reason = of_place.1;
          };
          says = subst (λ (at : ℕ). SaysReplyIn json at finding text old new status) of_place.0 says;
        })

-- a position that has passed
pub is_below : (m n : ℕ) → nat_le m n ≡ true → m ≤ n
is_below m n is = grind (arith, nat_tests)

-- ---- where the input isn't known

reported_of : (json : Bool) (settings : Settings) (had : Option (List ℕ)) (again : Input) (status : ℕ) (old new faults_old faults_new : Option (List ℕ))
    → ReportsFor json settings had again status old new faults_old faults_new → Reported json status old new faults_old faults_new
reported_of json settings had again status old new faults_old faults_new reports = elim reports [
  | inl is ↦ inl is
  | inr says ↦ inr (record { settings = settings; had = had; again = again; says = says.0 }, says.1)
]

pub explained_of : (json : Bool) (position : Option ℕ) (settings : Settings) (input again : Input) (status : ℕ) (old new faults_old faults_new : Option (List ℕ))
    → (position ≡ None → ReportsFor json settings input.had again status old new faults_old faults_new)
    → ((place : ℕ) → position ≡ Some place → ExplainsAt json settings input again place status old new faults_old faults_new)
    → ExplainedTwice json position status old new faults_old faults_new
explained_of json None settings input again status old new faults_old faults_new first at = reported_of json settings input.had again status old new faults_old faults_new (first refl)
explained_of json (Some place) settings input again status old new faults_old faults_new first at = inr (record { settings = settings; input = input; again = again; explains = at place refl })

-- ---- what is said

-- what is said of a verdict is said with its own status
pub says_own : (verdict : Verdict) (status : ℕ) (old new : Option (List ℕ)) → SaysLineFirst verdict status old new → SaysLineFirst verdict (status_of verdict) old new
says_own verdict status old new s = (s.0, record { line = s.1.line; has_status = refl; is_line = s.1.is_line; written = s.1.written })

-- ---- what is told behind a verdict

not_some : false ≡ true → ⊥
not_some same = cc

some_none : (one : WrongReply) → Some one ≡ None → ⊥
some_none one same = cc

one_of : (one other : WrongReply) → Some one ≡ Some other → one ≡ other
one_of one other same = cc

-- of the first wrong reply, which was found
pub told_behind : (json : Bool) (settings : Settings) (again : Input) (first : Option WrongReply) (verdict : Verdict) (position : ℕ) (finding : Finding) (told : List ℕ)
    → IsThat first position finding → IfSome first (λ wrong. verdict ≡ No wrong.position wrong.reason) → IsToldAgain json settings again position finding told
    → IsToldBehind json settings again verdict (Some told)
told_behind json settings again None verdict position finding told is said explained = absurd (not_some is.0)
told_behind json settings again (Some wrong) verdict position Right told is said explained = absurd (some_none wrong is.1)
told_behind json settings again (Some wrong) verdict position (Wrong why) told is said explained =
    let same : wrong ≡ record { position = position; reason = why } = one_of wrong _ is.1 in
    subst (λ (v : Verdict). IsToldBehind json settings again v (Some told))
    (sym (said ∙ ap (λ (w : WrongReply). No w.position w.reason) same)) explained

none_there : {X : Type 0} (found : Option X) → found ≡ None → IsSome found → ⊥
none_there {X} None is some = cc
none_there {X} (Some x) is some = cc

-- where nothing was found, no reply is wrong
pub none_first : {X : Type 0} (first : Option WrongReply) (found : Option X) → (IsSome first → IsSome found) → found ≡ None → first ≡ None
none_first {X} None found there is = refl
none_first {X} (Some wrong) found there is = absurd (none_there found is (there refl))

-- nothing where no reply is wrong
pub nothing_behind : (json : Bool) (settings : Settings) (again : Input) (outcome : Outcome)
    → IsToldBehind json settings again (verdict_without outcome) None
nothing_behind json settings again (Whole counts) = refl
nothing_behind json settings again (Broken position fault) = refl
