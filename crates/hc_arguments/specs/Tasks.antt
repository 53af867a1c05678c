-- What the words of a command line ask, and why they are refused.
use Rattle.std.specs.Prelude.{◌≡◌, ◌<◌, ◌⊎◌, ⊤, ℕ, List, [], ◌∷◌, ◌++◌, Option, None, Some, Bool, false, true, codes, map, option_and_then, option_map}
use Rattle.std.specs.Borrow.{Bor}
use Rattle.std.specs.Str.{bytes_eq}
use Rattle.clap.specs.Words.{HasKind, Row, Text, all_of, fault_of, kind_of, matched_of, raw_values, subcommand_of}
use Rattle.clap.specs.declared.parser.matches.Found.{Found}
use Rattle.clap.specs.declared.error.Error.{Error}
use Rattle.clap.specs.declared.error.ErrorKind.TheVariants.{OutOfMemory}
use Rattle.hc_transcript.specs.Limits.{greatest_number}
use Rattle.hc_service.specs.declared.settings.CoreSettings.{CoreSettings}
use Rattle.hc_service.specs.Settings.{AreGood}
use Rattle.hc_shown.specs.declared.span.Span.{Span}
use Rattle.hc_options.specs.declared.auditing.AuditTerms.{AuditTerms}
use Rattle.hc_options.specs.declared.auditing.Minimums.{Minimums}
use Rattle.hc_options.specs.declared.refusal.Refusal.{Refusal}
use Rattle.hc_options.specs.declared.refusal.Refusal.TheVariants.{Memory, Missing, Value}
use Rattle.hc_options.specs.declared.rows.Takes.TheVariants.{Number}
use Rattle.hc_options.specs.Auditing.{AsksAudit, AsksAuditTerms, AsksMinimums}
use Rattle.hc_options.specs.Commands.{value_in}
use Rattle.hc_options.specs.Refusals.{Refuses, refused_kind}
use Rattle.hc_options.specs.Settings.{AsksSettings, plain}
use Rattle.hc_options.specs.Values.{flag_by, number_by}
use Rattle.hc_arguments.specs.declared.order.ExplainTerms.{ExplainTerms}
use Rattle.hc_arguments.specs.declared.order.Order.{Order}
use Rattle.hc_arguments.specs.declared.order.Order.TheVariants.{Audit, Report, Explain, Show, Replay, Convert, Split, Join, Serve, Proxy}
use Rattle.hc_arguments.specs.declared.order.ProxyLimits.{ProxyLimits}
use Rattle.hc_arguments.specs.declared.order.RecordTerms.{RecordTerms}
use Rattle.hc_arguments.specs.declared.order.ReportTerms.{ReportTerms}
use Rattle.hc_arguments.specs.Cache.{AsksCache, keys_proxied, keys_served, plain_cache}
use Rattle.hc_arguments.specs.Commands.{hcache}
use Rattle.hc_arguments.specs.Limits.{AsksLimits, AsksTerms, plain_limits, plain_terms}
use Rattle.hc_arguments.specs.Origins.{is_origin}
use Rattle.hc_arguments.specs.Positions.{span_of}
use Rattle.hc_arguments.specs.Tables.{Command, command_named, entries_of, taken_by}
use Rattle.hc_arguments.specs.Tables.Command.{Audits, Reports, Explains, Shows, Replays, Converts, Splits, Joins, Serves, Proxies}

-- ---- what is asked

-- a report is one JSON object or else text, what an earlier report has isn't held against the file, if one is named, and it is asked whether that has more; annotations stand behind it, and a file gets test cases, if one is named; or it is a document in HTML
pub record Form : Type 0 where
  pub json : Bool
  pub baseline : Option Text
  pub strict : Bool
  pub annotates : Bool
  pub junit : Option Text
  pub html : Bool

abbrev pub form_of : ReportTerms → Form
form_of form = record {
  json = form.json;
  baseline = option_map (λ name. name.now) form.baseline;
  strict = form.strict;
  annotates = form.annotates;
  junit = option_map (λ name. name.now) form.junit;
  html = form.html;
}

-- text, and nothing is known
abbrev pub plain_form : Form
plain_form = record { json = false; baseline = None; strict = false; annotates = false; junit = None; html = false }

-- what `proxy` is asked for: where it listens, and before which origin; to which file it records, if any; to which it logs replies, and where it tells of itself;
-- on which terms it records, within which limits, whether responses that set a cookie are stored, and by which settings of its cache
pub record ProxyTask : Type 0 where
  pub listen : Text
  pub origin : Text
  pub file : Option Text
  pub log : Option Text
  pub status : Option Text
  pub terms : RecordTerms
  pub limits : ProxyLimits
  pub keeps_cookies : Bool
  pub settings : CoreSettings

-- what the commands can be asked
pub data Task : Type 0 where
  -- to audit that file on those terms
  ToAudit : (file : Text) (terms : AuditTerms) → Task
  -- to report on it on those terms, in that form
  ToReport : (file : Text) (terms : AuditTerms) (form : Form) → Task
  -- to explain a reply of it on those terms
  ToExplain : (file : Text) (terms : ExplainTerms) → Task
  -- to show its records at these positions
  ToShow : (file : Text) (span : Span) → Task
  -- to replay it
  ToReplay : (file : Text) → Task
  -- to convert it
  ToConvert : (file : Text) → Task
  -- to split it into so many parts in that folder
  ToSplit : (file : Text) (parts : ℕ) (dir : Text) → Task
  -- to join the verdicts on the parts in that folder, of which so many replies have to be judged
  ToJoin : (dir : Text) (least : Minimums) → Task
  -- to serve so many connections there, before that origin, to record them to that file, from a cache of those settings
  ToServe : (listen origin : Text) (connections : ℕ) (file : Text) (settings : CoreSettings) → Task
  -- to serve all that connect at once, as is asked
  ToProxy : (asked : ProxyTask) → Task

-- the plain one: nothing is recorded, logged or told, and all else is as it is where no option is given
abbrev pub plain_proxy_task : Text → Text → ProxyTask
plain_proxy_task listen origin = record {
  listen = listen;
  origin = origin;
  file = None;
  log = None;
  status = None;
  terms = plain_terms;
  limits = plain_limits;
  keeps_cookies = false;
  settings = plain_cache keys_proxied;
}

abbrev pub command_of : Task → Command
command_of (ToAudit file terms) = Audits
command_of (ToReport file terms form) = Reports
command_of (ToExplain file terms) = Explains
command_of (ToShow file span) = Shows
command_of (ToReplay file) = Replays
command_of (ToConvert file) = Converts
command_of (ToSplit file parts dir) = Splits
command_of (ToJoin dir least) = Joins
command_of (ToServe listen origin connections file settings) = Serves
command_of (ToProxy asked) = Proxies

-- the first of some texts, of which there is one
abbrev pub first_text : List (Bor Text) → Text
first_text [] = []
first_text (text ∷ rest) = text.now

-- they are all of these
abbrev pub AreAll : List (Bor Text) → Option (List Text) → Type 0
AreAll texts all = Some (map (λ text. text.now) texts) ≡ all

abbrev pub task_of : Order → Task
task_of (Audit file terms) = ToAudit file.now terms
task_of (Report file terms form) = ToReport file.now terms (form_of form)
task_of (Explain file terms) = ToExplain file.now terms
task_of (Show file span) = ToShow file.now span
task_of (Replay file) = ToReplay file.now
task_of (Convert file) = ToConvert file.now
task_of (Split file parts dir) = ToSplit file.now parts dir.now
task_of (Join dir least) = ToJoin dir.now least
task_of (Serve s) = ToServe s.listen.now s.origin.now s.connections s.file.now s.settings
task_of (Proxy p) = ToProxy (record {
  listen = first_text p.listens.items;
  origin = p.origin.now;
  file = option_map (λ file. file.now) p.file;
  log = option_map (λ file. file.now) p.log;
  status = option_map (λ place. place.now) p.status;
  terms = p.terms;
  limits = p.limits;
  keeps_cookies = p.keeps_cookies;
  settings = p.settings;
})

-- a proxy listens at all of these places, in this order
abbrev pub ListensAt : Option (List Text) → Order → Type 0
ListensAt places (Proxy p) = AreAll p.listens.items places
ListensAt places order = ⊤

-- all values of that name that a parse found
abbrev pub all_values : Found → Text → Option (List Text)
all_values found name = option_map raw_values (matched_of found name)

-- and those after the subcommand
abbrev pub values_in : Option (Text × List Row) → Text → Option (List Text)
values_in given name = option_and_then (λ p. all_of name p.1) given

-- the values, by their names, ask that of `report`
pub record AsksReport (value : Text → Option Text) (file : Text) (terms : AuditTerms) (form : Form) : Type 0 where
  pub file_is : value (codes "FILE") ≡ Some file
  pub terms_are : AsksAuditTerms value terms
  pub baseline_is : value (codes "baseline") ≡ form.baseline
  pub json_is : flag_by (value (codes "json")) ≡ form.json
  pub strict_is : flag_by (value (codes "baseline-strict")) ≡ form.strict
  pub annotates_is : flag_by (value (codes "annotations")) ≡ form.annotates
  pub junit_is : value (codes "junit") ≡ form.junit
  pub html_is : flag_by (value (codes "html")) ≡ form.html

-- and that of `explain`, which can't read standard input twice
pub record AsksExplain (value : Text → Option Text) (file : Text) (terms : ExplainTerms) : Type 0 where
  pub file_is : value (codes "FILE") ≡ Some file
  pub file_has_name : bytes_eq file (codes "-") ≡ false
  pub position_is : number_by (Number 1 greatest_number) (value (codes "POSITION")) ≡ Some terms.position
  pub settings_are : AsksSettings value terms.settings
  pub json_is : flag_by (value (codes "json")) ≡ terms.json

-- and that of `show`
pub record AsksShow (value : Text → Option Text) (file : Text) (span : Span) : Type 0 where
  pub file_is : value (codes "FILE") ≡ Some file
  pub span_is : option_and_then span_of (value (codes "POSITION[-POSITION]")) ≡ Some span

-- and that of `split`, which can't read standard input twice
pub record AsksSplit (value : Text → Option Text) (file : Text) (parts : ℕ) (dir : Text) : Type 0 where
  pub file_is : value (codes "FILE") ≡ Some file
  pub file_has_name : bytes_eq file (codes "-") ≡ false
  pub parts_are : number_by (Number 1 500) (value (codes "N")) ≡ Some (Some parts)
  pub dir_is : value (codes "DIR") ≡ Some dir

-- and that of `join`
pub record AsksJoin (value : Text → Option Text) (dir : Text) (least : Minimums) : Type 0 where
  pub dir_is : value (codes "DIR") ≡ Some dir
  pub minimums_are : AsksMinimums value least

-- and that of `serve`
pub record AsksService (value : Text → Option Text) (listen origin : Text) (connections : ℕ) (file : Text) (settings : CoreSettings) : Type 0 where
  pub listen_is : value (codes "listen") ≡ Some listen
  pub origin_is : value (codes "origin") ≡ Some origin
  pub origin_is_one : is_origin origin ≡ true
  pub connections_is : number_by (Number 1 greatest_number) (value (codes "connections")) ≡ Some (Some connections)
  pub file_is : value (codes "record") ≡ Some file
  pub settings_are : AsksCache keys_served value settings

-- and that of `proxy`
pub record AsksProxy (value : Text → Option Text) (asked : ProxyTask) : Type 0 where
  pub listen_is : value (codes "listen") ≡ Some asked.listen
  pub origin_is : value (codes "origin") ≡ Some asked.origin
  pub origin_is_one : is_origin asked.origin ≡ true
  pub file_is : value (codes "record") ≡ asked.file
  pub log_is : value (codes "access-log") ≡ asked.log
  pub status_is : value (codes "status") ≡ asked.status
  pub terms_are : AsksTerms value asked.terms
  pub limits_are : AsksLimits value asked.limits
  pub cookies_are : flag_by (value (codes "store-set-cookie")) ≡ asked.keeps_cookies
  pub settings_are : AsksCache keys_proxied value asked.settings

abbrev pub ValuesAsk : (Text → Option Text) → Task → Type 0
ValuesAsk value (ToAudit file terms) = AsksAudit value file terms
ValuesAsk value (ToReport file terms form) = AsksReport value file terms form
ValuesAsk value (ToExplain file terms) = AsksExplain value file terms
ValuesAsk value (ToShow file span) = AsksShow value file span
ValuesAsk value (ToReplay file) = value (codes "FILE") ≡ Some file
ValuesAsk value (ToConvert file) = value (codes "FILE") ≡ Some file
ValuesAsk value (ToSplit file parts dir) = AsksSplit value file parts dir
ValuesAsk value (ToJoin dir least) = AsksJoin value dir least
ValuesAsk value (ToServe listen origin connections file settings) = AsksService value listen origin connections file settings
ValuesAsk value (ToProxy asked) = AsksProxy value asked

-- the command and its values ask that
abbrev pub AsksBy : Option Command → (Text → Option Text) → Task → Type 0
AsksBy command value task = (command ≡ Some (command_of task)) × ValuesAsk value task

-- the command that the subcommand is
abbrev pub command_in : Option (Text × List Row) → Option Command
command_in given = option_and_then (λ p. command_named p.0) given

-- the subcommand and the values after it ask that
abbrev pub AsksIn : Option (Text × List Row) → Task → Type 0
AsksIn given = AsksBy (command_in given) (value_in given)

-- the words, of which the first is the program's name, ask that
abbrev pub Asks : List Text → Task → Type 0
Asks words = AsksIn (subcommand_of hcache words)

-- what a task can be asked with: of those settings there are caches, the last of these positions is one, and there are some parts
abbrev pub CanBeDone : Task → Type 0
CanBeDone (ToShow file span) = 0 < span.last
CanBeDone (ToSplit file parts dir) = 0 < parts
CanBeDone (ToServe listen origin connections file settings) = AreGood settings
CanBeDone (ToProxy asked) = AreGood asked.settings
CanBeDone task = ⊤

-- ---- plain words

-- the words after the program's name that ask to serve
abbrev pub service_words : Text → Text → Text → Text → List Text
service_words listen origin number file = codes "serve" ∷ (codes "--listen=" ++ listen) ∷ (codes "--origin=" ++ origin)
    ∷ (codes "--connections=" ++ number) ∷ (codes "--record=" ++ file) ∷ []

-- and those that ask for a proxy
abbrev pub proxy_words : Text → Text → List Text
proxy_words listen origin = codes "proxy" ∷ (codes "--listen=" ++ listen) ∷ (codes "--origin=" ++ origin) ∷ []

-- the explanation in text of the reply at that position, or else of the first wrong one, by plain settings
abbrev pub explaining : Option ℕ → ExplainTerms
explaining position = record { position = position; settings = plain; json = false }

-- ---- why words are refused

-- why the command and its values ask nothing; without a command nothing is asked
abbrev pub RefusesBy : Option Command → (Text → Option Text) → Refusal → Type 0
RefusesBy None value Memory = ⊤
RefusesBy None value Missing = ⊤
RefusesBy None value (Value row) = ⊥
RefusesBy (Some command) value refusal = Refuses taken_by (entries_of command) value refusal

abbrev pub RefusesIn : Option (Text × List Row) → Refusal → Type 0
RefusesIn given = RefusesBy (command_in given) (value_in given)

-- a value is missing, or out of its range, and the error is of the kind for that
pub record IsOutside (given : Option (Text × List Row)) (e : Error) : Type 0 where
  pub refusal : Refusal
  pub refuses : RefusesIn given refusal
  pub kind_is : refused_kind refusal ≡ Some (kind_of e)

-- memory ran out, or the words are refused for a reason that the command has, or by what they ask
abbrev pub IsRefused : List Text → Error → Type 0
IsRefused words e = HasKind (fault_of hcache words) e ⊎ IsOutside (subcommand_of hcache words) e

-- ---- what private functions return

-- memory ran out, or the subcommand and the values after it are refused by what they ask
abbrev pub IsRefusedIn : Option (Text × List Row) → Error → Type 0
IsRefusedIn given e = (kind_of e ≡ OutOfMemory) ⊎ IsOutside given e
