-- By which verdict a report ends.
use Rattle.std.proofs.Common.{◌≡◌, ◌⊎◌, ◌&&◌, ◌==◌, ◌++◌, ◌∙◌, ℕ, Bool, true, false, not, List, [], ap, append-nil, cond, nat_lt, Option, None, Some, IfOk, Result, inl, inr, option_map, refl, subst, sym}
use Rattle.std.specs.Io.KnownBytes.{Appends, Consumes, IsAtEnd, Keeps}
use Rattle.std.proofs.KnownBytes.{Appends-trans}
use Rattle.serde_json.specs.Data.{Data}
use Rattle.hc_transcript.specs.Items.{Item}
use Rattle.hc_history.specs.declared.settings.Settings.{Settings}
use Rattle.hc_history.specs.declared.verdicts.Verdict.{Verdict}
use Rattle.hc_history.specs.declared.wrong.WrongReply.{WrongReply}
use Rattle.hc_history.specs.Verdicts.{IsVerdict}
use Rattle.hc_figures.specs.declared.baseline.Baseline.{Baseline}
use Rattle.hc_figures.specs.Reports.{IsBaseline}
use Rattle.hc_report.specs.declared.counting.CountingReport.{CountingReport}
use Rattle.hc_report.specs.Counting.{HasCountedIn, HasHeardOf, TellsAllOf}
use Rattle.hc_arguments.specs.Tasks.{Form}
use Rattle.hc_options.specs.declared.auditing.AuditTerms.{AuditTerms}
use Rattle.hc_options.specs.declared.auditing.Minimums.{Minimums}
use Rattle.hc_command.specs.declared.baseline.BaselineTrouble.{BaselineTrouble}
use Rattle.hc_command.specs.declared.baseline.BaselineTrouble.TheVariants as trouble
use Rattle.hc_command.specs.declared.reporting.Concluded.{Concluded}
use Rattle.hc_command.specs.declared.reporting.ReportEnd.{ReportEnd}
use Rattle.hc_command.specs.declared.reporting.ReportForm.{ReportForm}
use Rattle.hc_command.specs.declared.surveying.Outcome.{Outcome}
use Rattle.hc_auditing.specs.declared.trouble.Trouble.{Trouble}
use Rattle.hc_command.specs.Baseline.{IsNoBaseline, status_without}
use Rattle.hc_auditing.specs.Line.{status_of}
use Rattle.hc_auditing.specs.Minimums.{EndsBy, shortfall_lines, status_by}
use Rattle.hc_command.specs.Report.{Input, IsSurveyed, SurveysFor}
use Rattle.hc_command.specs.Reporting.{AreOfInput, EndsFor, EndsStrictly, IsLast, IsMadeBy, IsMadeByOthers, ReportedAlone, ReportedBy, ReportedFor, ReportedIn, ReportsBy, SaysAll, SaysReportIn, SaysReportOf, WritesIn, ends_by_gone, form_with, gone_line, is_fewer}
use Rattle.hc_auditing.proofs.AuditLemmas.{at_end}

-- who reads all is told of all that the input has
of_input : (tells : List WrongReply → Type 0) (hears : List Item → Type 0) (settings : Settings) (outcome : Outcome) (input : Input)
    (told : SurveysFor tells hears ⊥ settings input outcome) → AreOfInput settings input told.history told.wrongs outcome
of_input tells hears settings outcome input told = record {
  read = told.read;
  consumed = told.consumed;
  are = told.are;
  all = elim told.all [
    | inl never ↦ absurd never
    | inr all ↦ all
  ];
}

pub ends_for : (base : Option Baseline) (report : CountingReport) (settings : Settings) (verdict : Verdict) (end : ReportEnd) (outcome : Outcome) (input : Input)
    → SurveysFor (TellsAllOf report) (HasHeardOf report) ⊥ settings input outcome
    → ((h : List Item) (wrongs : List WrongReply) → TellsAllOf report wrongs → HasCountedIn report h → IsLast base h wrongs outcome verdict end)
    → EndsFor base settings verdict end input
ends_for None report settings verdict end outcome input told is = is told.history told.wrongs told.told told.heard.counted
ends_for (Some baseline) report settings verdict end outcome input told is = record {
  history = told.history;
  wrongs = told.wrongs;
  outcome = outcome;
  of_input = of_input (TellsAllOf report) (HasHeardOf report) settings outcome input told;
  is_last = (is told.history told.wrongs told.told told.heard.counted).0;
  gone_is = (is told.history told.wrongs told.told told.heard.counted).1;
}

-- ---- what is said

pub says_report : (json : Bool) (base : Option Baseline) (report : CountingReport) (settings : Settings) (concluded : Concluded) (status : ℕ) (input : Input) (old new : Option (List ℕ))
    → SurveysFor (TellsAllOf report) (HasHeardOf report) ⊥ settings input concluded.outcome
    → ((octets : List ℕ) (h : List Item) (wrongs : List WrongReply) → TellsAllOf report wrongs → IsSurveyed octets settings h wrongs concluded.outcome
    → IsVerdict octets settings concluded.verdict)
    → WritesIn json report base settings concluded status old new → SaysReportIn json base settings concluded.verdict (status_of concluded.verdict) input old new
unfolding of_input
says_report true base report settings concluded status input old new told is said = record {
  text = said.text;
  has_status = refl;
  written = said.written;
  history = told.history;
  wrongs = told.wrongs;
  outcome = concluded.outcome;
  of_input = of_input (TellsAllOf report) (HasHeardOf report) settings concluded.outcome input told;
  is = is told.read told.history told.wrongs told.told told.are;
  report = report;
  told = told.told;
  heard = told.heard;
  all = said.all told.history told.wrongs told.told told.heard.counted;
}
says_report false base report settings concluded status input old new told is said =
    (said.0, record { line = said.1.line; has_status = refl; is_line = said.1.is_line; written = said.1.written })

-- ---- the baseline in an input

-- where it is none, the input had none
pub no_baseline_in : (why : BaselineTrouble) (old new : Option (List ℕ)) (octets : List ℕ) → Consumes old new octets → IsAtEnd new → IsNoBaseline why (Some octets) → IsNoBaseline why old
no_baseline_in trouble.NoReport old new octets consumed end is = at_end (λ (o : List ℕ). (report : Data) → ¬ IsBaseline o report) old new octets consumed end is
no_baseline_in (trouble.Trouble why) old new octets consumed end is = tt

-- ---- in which form it is said

-- without a baseline, and not in JSON
pub says_as : (json : Bool) (base : Option Baseline) (result : Result ReportEnd Trouble) (settings : Settings) (input : Input) (old new : Option (List ℕ)) → json ≡ false → base ≡ None
    → IfOk result (λ end. SaysReportOf false None settings end input old new) → IfOk result (λ end. SaysReportOf json base settings end input old new)
says_as json base result settings input old new is none says =
    subst (λ (b : Option Baseline). IfOk result (λ end. SaysReportOf json b settings end input old new)) (sym none)
    (subst (λ (j : Bool). IfOk result (λ end. SaysReportOf j None settings end input old new)) (sym is) says)

-- ---- by which status it ends

-- where nothing is gone, or it isn't asked for, it ends as by the verdict alone
none_fewer : (strict : Bool) (gone status : ℕ) → gone ≡ 0 → is_fewer strict gone status ≡ false
none_fewer true gone status none = ap (λ (n : ℕ). nat_lt 0 n && (status == 0)) none
none_fewer false gone status none = refl

pub ends_as_ever : (strict : Bool) (least : Minimums) (end : ReportEnd) (status : ℕ) (old new : Option (List ℕ)) → ends_by_gone strict least end ≡ false
    → EndsBy least end.verdict status old new → EndsStrictly strict least end status old new
ends_as_ever strict least end status old new apart ends = record {
  has_status = ends.has_status ∙ ap (λ (b : Bool). cond b 5 (status_by least end.verdict)) (sym apart);
  says = subst (λ (b : Bool). Appends old new (shortfall_lines least end.verdict ++ cond b (gone_line end.gone) [])) (sym apart)
      (subst (Appends old new) (sym (append-nil (shortfall_lines least end.verdict))) ends.says);
}

plain_end : (strict : Bool) (least : Minimums) (end : ReportEnd) (verdict : Verdict) (status : ℕ) (old new : Option (List ℕ)) → (end.verdict ≡ verdict) × (end.gone ≡ 0)
    → EndsStrictly strict least end status old new → EndsBy least verdict status old new
plain_end strict least end verdict status old new is ends =
    let apart = none_fewer strict end.gone (status_by least end.verdict) is.1 in
    subst (λ (v : Verdict). EndsBy least v status old new) is.0 (record {
      has_status = ends.has_status ∙ ap (λ (b : Bool). cond b 5 (status_by least end.verdict)) apart;
      says = subst (Appends old new) (append-nil (shortfall_lines least end.verdict))
          (subst (λ (b : Bool). Appends old new (shortfall_lines least end.verdict ++ cond b (gone_line end.gone) [])) apart ends.says);
    })

fewer_by : (strict : Bool) (gone status other : ℕ) (b : Bool) → status ≡ other → is_fewer strict gone status ≡ b → is_fewer strict gone other ≡ b
fewer_by strict gone status other b same is = subst (λ (n : ℕ). is_fewer strict gone n ≡ b) same is

-- and where the status isn't 0
pub ends_unchanged : (strict : Bool) (least : Minimums) (end : ReportEnd) (status : ℕ) (old new : Option (List ℕ)) → is_fewer strict end.gone status ≡ false
    → (status ≡ 3) ⊎ EndsBy least end.verdict status old new → (status ≡ 3) ⊎ EndsStrictly strict least end status old new
ends_unchanged strict least end status old new apart (inl failed) = inl failed
ends_unchanged strict least end status old new apart (inr ends) =
    inr (ends_as_ever strict least end status old new (fewer_by strict end.gone status (status_by least end.verdict) false ends.has_status apart) ends)

not_three : (strict some : Bool) → strict && (some && (3 == 0)) ≡ true → ⊥
not_three true true is = cc
not_three true false is = cc
not_three false some is = cc

-- where some are gone, it ends with 5
pub ends_with_gone : (strict : Bool) (least : Minimums) (end : ReportEnd) (status : ℕ) (old mid new : Option (List ℕ)) → is_fewer strict end.gone status ≡ true
    → (status ≡ 3) ⊎ EndsBy least end.verdict status old mid → Appends mid new (gone_line end.gone) → EndsStrictly strict least end 5 old new
ends_with_gone strict least end status old mid new fewer (inl failed) said = absurd (not_three strict (nat_lt 0 end.gone) (fewer_by strict end.gone status 3 true failed fewer))
ends_with_gone strict least end status old mid new fewer (inr ends) said =
    let by = fewer_by strict end.gone status (status_by least end.verdict) true ends.has_status fewer in
    record {
      has_status = ap (λ (b : Bool). cond b 5 (status_by least end.verdict)) (sym by);
      says = subst (λ (b : Bool). Appends old new (shortfall_lines least end.verdict ++ cond b (gone_line end.gone) [])) (sym by)
          (Appends-trans old mid new (shortfall_lines least end.verdict) (gone_line end.gone) ends.says said);
    }

-- ---- where the input isn't known

-- a form by its parts
abbrev form_by : Bool → Option Baseline → Bool → Bool → ReportForm
form_by json base strict annotates = record { json = json; baseline = base; strict = strict; annotates = annotates }

reported_by : (json : Bool) (base : Option Baseline) (strict annotates : Bool) (terms : AuditTerms) (input : Input) (status : ℕ) (old new faults_old faults_new : Option (List ℕ))
    → ReportsBy (form_by json base strict annotates) terms input status old new faults_old faults_new
    → ReportedIn base (form_by json base strict annotates) terms status old new faults_old faults_new
reported_by json None strict annotates terms input status old new faults_old faults_new (inl failed) = inl failed
reported_by json None strict annotates terms input status old new faults_old faults_new (inr (inl others)) = absurd others.1
reported_by json None strict annotates terms input status old new faults_old faults_new (inr (inr is)) =
    let says = is.2.1 in
    inr (says.verdict, (input, is.2.0, says.says, is.2.2), plain_end strict terms.minimums is.0 says.verdict status faults_old faults_new says.ends is.3)
reported_by json (Some baseline) strict annotates terms input status old new faults_old faults_new is = (input, is)

pub reported_in : (form : ReportForm) (terms : AuditTerms) (input : Input) (status : ℕ) (old new faults_old faults_new : Option (List ℕ))
    → ReportsBy form terms input status old new faults_old faults_new → ReportedIn form.baseline form terms status old new faults_old faults_new
reported_in form terms input status old new faults_old faults_new is = reported_by form.json form.baseline form.strict form.annotates terms input status old new faults_old faults_new is

pub failed_in : (base : Option Baseline) (form : ReportForm) (terms : AuditTerms) (status : ℕ) (old new faults_old faults_new : Option (List ℕ)) → status ≡ 3
    → ReportedIn base form terms status old new faults_old faults_new
failed_in None form terms status old new faults_old faults_new failed = inl failed
failed_in (Some baseline) form terms status old new faults_old faults_new failed = (record { had = None; left = None }, inl failed)

keeps_same : (known : Option (List ℕ)) → Keeps known known
keeps_same None = tt
keeps_same (Some octets) = refl

-- no baseline was named
pub unnamed_on : {A : Type 0} (asked : Option A) (name : A → List ℕ) (form : Form) (terms : AuditTerms) (status : ℕ) (old new faults_old faults_new : Option (List ℕ)) → asked ≡ None
    → ReportedAlone form.strict form terms status old new faults_old faults_new → ReportedFor (option_map name asked) form terms status old new faults_old faults_new
unnamed_on None name form terms status old new faults_old faults_new is reported = reported
unnamed_on (Some one) name form terms status old new faults_old faults_new is reported = absurd cc

-- one that was there
pub held_on : {A : Type 0} (asked : Option A) (name : A → List ℕ) (one : A) (form : Form) (baseline : Baseline) (terms : AuditTerms) (status : ℕ)
    (old new faults_old faults_new : Option (List ℕ)) → asked ≡ Some one → ReportedIn (Some baseline) (form_with baseline form) terms status old new faults_old faults_new
    → ReportedFor (option_map name asked) form terms status old new faults_old faults_new
held_on None name one form baseline terms status old new faults_old faults_new is held = absurd cc
held_on (Some other) name one form baseline terms status old new faults_old faults_new is held = inr (inr (baseline, held))

-- and one that wasn't
pub refused_on : {A : Type 0} (asked : Option A) (name : A → List ℕ) (one : A) (form : Form) (terms : AuditTerms) (status : ℕ) (out faults_old faults_new : Option (List ℕ)) → asked ≡ Some one
    → (status ≡ 64) ⊎ (status ≡ 3) → ReportedFor (option_map name asked) form terms status out out faults_old faults_new
refused_on None name one form terms status out faults_old faults_new is ends = absurd cc
refused_on (Some other) name one form terms status out faults_old faults_new is ends = inl (ends, keeps_same out)

-- where there is no baseline the status is one of two
pub one_of_both : (why : BaselineTrouble) (status : ℕ) → status ≡ status_without why → (status ≡ 64) ⊎ (status ≡ 3)
one_of_both trouble.NoReport status is = inl is
one_of_both (trouble.Trouble why) status is = inr is

-- where none is named
pub alone_refused : (strict : Bool) (form : Form) (terms : AuditTerms) (status : ℕ) (old new faults_old faults_new : Option (List ℕ)) → strict ≡ true
    → ((status ≡ 64) ⊎ (status ≡ 3)) × Keeps old new → ReportedAlone strict form terms status old new faults_old faults_new
alone_refused true form terms status old new faults_old faults_new is refused = refused
alone_refused false form terms status old new faults_old faults_new is refused = absurd cc

pub alone_reported : (strict : Bool) (form : Form) (terms : AuditTerms) (status : ℕ) (old new faults_old faults_new : Option (List ℕ)) → strict ≡ false
    → ReportedBy form.json form.annotates terms status old new faults_old faults_new → ReportedAlone strict form terms status old new faults_old faults_new
alone_reported true form terms status old new faults_old faults_new is reported = absurd cc
alone_reported false form terms status old new faults_old faults_new is reported = reported

-- ---- what a report comes to

pub made_by_others : (made : Bool) → true ≡ not made → made ≡ false
made_by_others true is = absurd cc
made_by_others false is = refl

pub made_by_these : (made : Bool) → false ≡ not made → made ≡ true
made_by_these true is = refl
made_by_these false is = absurd cc

-- a baseline that was made by other settings is refused
pub refused_by : (form : ReportForm) (terms : AuditTerms) (input : Input) (status : ℕ) (out faults_old faults_new : Option (List ℕ))
    → (status ≡ 3) ⊎ ((status ≡ 64) × IsMadeByOthers form.baseline terms.settings) → ReportsBy form terms input status out out faults_old faults_new
refused_by form terms input status out faults_old faults_new (inl failed) = inl failed
refused_by form terms input status out faults_old faults_new (inr others) = inr (inl (others.0, others.1, keeps_same out))

-- and else it ends so
pub reports_by : (form : ReportForm) (terms : AuditTerms) (end : ReportEnd) (input : Input) (status : ℕ) (old new faults_old faults_mid faults_new : Option (List ℕ))
    → IsMadeBy form.baseline terms.settings → SaysAll form terms.settings end input old new → faults_mid ≡ faults_old
    → (status ≡ 3) ⊎ EndsStrictly form.strict terms.minimums end status faults_mid faults_new → ReportsBy form terms input status old new faults_old faults_new
reports_by form terms end input status old new faults_old faults_mid faults_new made says quiet (inl failed) = inl failed
reports_by form terms end input status old new faults_old faults_mid faults_new made says quiet (inr ends) =
    inr (inr (end, made, says, subst (λ (faults : Option (List ℕ)). EndsStrictly form.strict terms.minimums end status faults faults_new) quiet ends))

-- and where a file is written behind it, it may end with 3
pub kept_in : (form : ReportForm) (terms : AuditTerms) (input : Input) (status result : ℕ) (old new faults_old faults_mid faults_new : Option (List ℕ))
    → ReportsBy form terms input status old new faults_old faults_mid → (result ≡ 3) ⊎ ((result ≡ status) × (faults_new ≡ faults_mid))
    → ReportedIn form.baseline form terms result old new faults_old faults_new
kept_in form terms input status result old new faults_old faults_mid faults_new reports (inl failed) = failed_in form.baseline form terms result old new faults_old faults_new failed
kept_in form terms input status result old new faults_old faults_mid faults_new reports (inr same) =
    subst (λ (n : ℕ). ReportedIn form.baseline form terms n old new faults_old faults_new) (sym same.0)
    (subst (λ (faults : Option (List ℕ)). ReportedIn form.baseline form terms status old new faults_old faults) (sym same.1)
    (reported_in form terms input status old new faults_old faults_mid reports))
