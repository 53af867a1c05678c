-- What a parse of the program's words comes to.
use Rattle.std.proofs.Common.{◌≡◌, ◌∙◌, ◌&&◌, ◌++◌, ◌<◌, ℕ, List, [], ◌∷◌, Option, None, Some, ap, cond, inl, inr, refl, rules, sym, subst, true, false, codes, Bool, is_some, length, nat_le, nat_lt, take, drop, option_and_then, option_map}
use Rattle.std.specs.Prelude.{Result, Ok, Err, IfOk, IfErr, MatchResult}
use Rattle.std.proofs.lemmas.Bool.{leb-true}
use Rattle.std.proofs.lemmas.Result.{IfErr-weaker, IfOk-weaker}
use Rattle.std.specs.Char.{is_ascii_digit}
use Rattle.std.specs.Option.{option_map_or}
use Rattle.std.specs.Str.{bytes_eq}
use Rattle.std.specs.Str.Parse.{digits_value}
use Rattle.std.specs.Box.{box_value}
use Rattle.hc_fields.specs.Numbers.{is_number}
use Rattle.hc_transcript.specs.Limits.{greatest_number}
use Rattle.clap.specs.Words.{HasKind, Kinds, Row, Text, fault_of, first_value, is_simple, is_simple_and_free, kind_of}
use Rattle.clap.specs.Words.{found_of, rows_of, subcommand_name_of, subcommand_of, subcommand_rows_of}
use Rattle.clap.specs.declared.parser.matches.ArgMatches.{ArgMatches}
use Rattle.clap.specs.declared.parser.matches.ArgMatches.TheViews.{out-ArgMatches, out-SubCommand}
use Rattle.clap.specs.declared.parser.matches.Found.{Found}
use Rattle.clap.specs.declared.error.Error.{Error}
use Rattle.clap.specs.declared.error.ErrorKind.TheVariants.{OutOfMemory}
use Rattle.clap.proofs.OnLiterals.{clap_on_literals}
use Rattle.hc_history.specs.declared.allowed.Allowed.{Allowed}
use Rattle.hc_history.specs.declared.settings.Settings.{Settings}
use Rattle.hc_service.specs.declared.settings.CoreSettings.{CoreSettings}
use Rattle.hc_service.specs.Settings.{AreGood, is_name, is_size}
use Rattle.hc_shown.specs.declared.span.Span.{Span}
use Rattle.hc_options.specs.declared.auditing.AuditTerms.{AuditTerms}
use Rattle.hc_options.specs.declared.auditing.Minimums.{Minimums}
use Rattle.hc_options.specs.declared.refusal.Refusal.{Refusal}
use Rattle.hc_options.specs.declared.rows.Takes.{Takes}
use Rattle.hc_options.specs.declared.rows.Takes.TheVariants.{FileName, Number, Size, CacheName, Positions, OriginAddress}
use Rattle.hc_options.specs.Allowing.{AsksAllowed, allow_by, normalized_by}
use Rattle.hc_options.specs.Auditing.{AsksAuditTerms, AsksMinimums, no_minimums, plain_audit}
use Rattle.hc_options.specs.Commands.{IsFileName, IsWord, value_in}
use Rattle.hc_options.specs.Refusals.{refused_kind}
use Rattle.hc_options.specs.Rows.{Entry, IsAmong, judging, terms}
use Rattle.hc_options.specs.Settings.{AsksSettings, plain}
use Rattle.hc_options.specs.Values.{count_by, count_or_zero, flag_by, ignored_by, number_by, number_of, number_or, number_within, size_from, unmarked_by}
use Rattle.hc_options.proofs.AuditWordLemmas.{one_some}
use Rattle.hc_options.proofs.FaultLemmas.{AreFine, Judges, any_fine, appended, audit_fine, minimums_fine, none_refused, settings_fine, terms_fine, there}
use Rattle.hc_options.proofs.ParseLemmas.{IsNoFlag, no_flag, not_hyphen, same_values}
use Rattle.hc_arguments.specs.declared.order.Order.{Order}
use Rattle.hc_arguments.specs.declared.order.ProxyLimits.{ProxyLimits}
use Rattle.hc_arguments.specs.declared.order.ProxyPatience.{ProxyPatience}
use Rattle.hc_arguments.specs.declared.order.RecordTerms.{RecordTerms}
use Rattle.hc_arguments.specs.Cache.{AsksCache, keys_proxied, keys_served, name_by, plain_cache}
use Rattle.hc_arguments.specs.Commands.{hcache}
use Rattle.hc_arguments.specs.Limits.{AsksLimits, AsksPatience, AsksTerms, limit_in, plain_limits, plain_patience, plain_terms}
use Rattle.hc_arguments.specs.Origins.{is_origin}
use Rattle.hc_arguments.specs.Positions.{len_before_hyphen, positive_of, span_between, span_from, span_of}
use Rattle.hc_arguments.specs.Tables.{Command, abandoned, caching, command_named, connect_timeout, drain_timeout, entries_of, held, idle_timeout, max_connections}
use Rattle.hc_arguments.specs.Tables.{origin_connections, origin_timeout, origin_total, proxying, queue_timeout, reporting, request_timeout, send_timeout, serving, taken_by}
use Rattle.hc_arguments.specs.Tables.{explaining_form}
use Rattle.hc_arguments.specs.Tables.Command.{Audits, Reports, Explains, Shows, Replays, Converts, Splits, Joins, Serves, Proxies}
use Rattle.hc_arguments.specs.Tasks.{Asks, AsksBy, AsksIn, AsksProxy, AsksService, CanBeDone, IsRefused, ProxyTask, RefusesBy, RefusesIn, Task, ValuesAsk}
use Rattle.hc_arguments.specs.Tasks.{command_in, command_of, explaining, plain_form, plain_proxy_task, proxy_words, service_words, task_of}
use Rattle.hc_arguments.specs.Tasks.Task.{ToAudit, ToReport, ToExplain, ToShow, ToReplay, ToConvert, ToSplit, ToJoin, ToServe, ToProxy}

-- the command is one of which a parse is known exactly
pub hcache_is_simple : is_simple_and_free hcache ≡ true
unfolding clap_on_literals
hcache_is_simple = refl

pub hcache_is_plain : is_simple hcache ≡ true
unfolding clap_on_literals
hcache_is_plain = refl

-- ---- what is asked

none_is_some : {A : Type 0} (o : Option A) (a : A) → o ≡ None → o ≡ Some a → ⊥
none_is_some o a none some = cc

true_is_not_false : (b : Bool) → b ≡ true → b ≡ false → ⊥
true_is_not_false b on off = cc

-- ---- the task that a command and its values ask for

-- both values, where both are there
abbrev both : {A B : Type 0} → Option A → Option B → Option (A × B)
both None b = None
both (Some a) None = None
both (Some a) (Some b) = Some (a, b)

abbrev allowed_from : (Text → Option Text) → Option Allowed
allowed_from value = option_map (λ p. record {
  added_fields = p.0.added_fields;
  joined_lines = p.0.joined_lines;
  ranges = p.0.ranges;
  default_lifetime = p.1.0.0;
  grace = p.1.0.1;
  normalized = p.1.1.0;
  inferred_marks = flag_by (value (codes "infer-marks"));
  age_slack = p.1.1.1;
}) (both (allow_by (value (codes "allow")))
    (both (both (count_by (value (codes "default-ttl"))) (count_by (value (codes "grace"))))
    (both (normalized_by (value (codes "normalized"))) (count_or_zero (value (codes "age-slack"))))))

abbrev settings_from : (Text → Option Text) → Option Settings
settings_from value = option_map (λ p. record { slack = p.0.0; ignored = p.0.1; unmarked = unmarked_by (value (codes "errors-only")); allowed = p.1 })
    (both (both (count_or_zero (value (codes "slack"))) (ignored_by (value (codes "ignore")))) (allowed_from value))

abbrev minimums_from : (Text → Option Text) → Option Minimums
minimums_from value = option_map (λ p. record { hits = p.0; judged = p.1 })
    (both (count_or_zero (value (codes "min-hits"))) (count_or_zero (value (codes "min-judged"))))

abbrev audit_terms_from : (Text → Option Text) → Option AuditTerms
audit_terms_from value = option_map (λ p. record { settings = p.0; minimums = p.1 }) (both (settings_from value) (minimums_from value))

abbrev cache_from : ℕ → (Text → Option Text) → Option CoreSettings
cache_from usual value = option_map (λ p. record { name = p.1.1; keys = p.0; bytes = p.1.0 })
    (both (number_or (Number 1 65536) usual (value (codes "keys"))) (both (number_or (Size 0) 67108864 (value (codes "bytes"))) (name_by (value (codes "name")))))

abbrev terms_from : (Text → Option Text) → Option RecordTerms
terms_from value = option_map (λ limit. record { strict = flag_by (value (codes "record-strict")); limit = limit }) (number_by (Size 0) (value (codes "record-limit")))

abbrev patience_from : (Text → Option Text) → Option ProxyPatience
patience_from value = option_map (λ p. record {
  idle_timeout = p.0.0;
  request_timeout = p.0.1.0;
  send_timeout = p.0.1.1;
  queue_timeout = p.1.0;
  origin_timeout = p.1.1.0;
  origin_total = p.1.1.1.0;
  abandoned = p.1.1.1.1;
})
    (both (both (limit_in value idle_timeout 75) (both (limit_in value request_timeout 60) (limit_in value send_timeout 60)))
    (both (limit_in value queue_timeout 5) (both (limit_in value origin_timeout 60) (both (limit_in value origin_total 600) (limit_in value abandoned 5)))))

abbrev limits_from : (Text → Option Text) → Option ProxyLimits
limits_from value = option_map (λ p. record {
  connections = p.0.0;
  origin_connections = p.0.1.0;
  held = p.0.1.1;
  connect_timeout = p.1.0.0;
  drain_timeout = p.1.0.1;
  patience = p.1.1.0;
  clients = p.1.1.1;
})
    (both (both (limit_in value max_connections 1024) (both (limit_in value origin_connections 100) (limit_in value held 268435456)))
    (both (both (limit_in value connect_timeout 5) (limit_in value drain_timeout 8)) (both (patience_from value) (number_by (Number 1 greatest_number) (value (codes "connections"))))))

-- a file that isn't standard input
abbrev file_named : Option Text → Option Text
file_named None = None
file_named (Some file) = cond (bytes_eq file (codes "-")) None (Some file)

abbrev task_from : Command → (Text → Option Text) → Option Task
task_from Audits value = option_map (λ p. ToAudit p.0 p.1) (both (value (codes "FILE")) (audit_terms_from value))
task_from Reports value =
    option_map (λ p. ToReport p.0 p.1 record { json = flag_by (value (codes "json")); baseline = value (codes "baseline"); strict = flag_by (value (codes "baseline-strict")); annotates = flag_by (value (codes "annotations")); junit = value (codes "junit"); html = flag_by (value (codes "html")) })
    (both (value (codes "FILE")) (audit_terms_from value))
task_from Explains value = option_map (λ p. ToExplain p.0 record { position = p.1.0; settings = p.1.1; json = flag_by (value (codes "json")) })
    (both (file_named (value (codes "FILE"))) (both (number_by (Number 1 greatest_number) (value (codes "POSITION"))) (settings_from value)))
task_from Shows value = option_map (λ p. ToShow p.0 p.1) (both (value (codes "FILE")) (option_and_then span_of (value (codes "POSITION[-POSITION]"))))
task_from Replays value = option_map ToReplay (value (codes "FILE"))
task_from Converts value = option_map ToConvert (value (codes "FILE"))
task_from Splits value = option_map (λ p. ToSplit p.0 p.1.0 p.1.1)
    (both (file_named (value (codes "FILE"))) (both (option_and_then (λ o. o) (number_by (Number 1 500) (value (codes "N")))) (value (codes "DIR"))))
task_from Joins value = option_map (λ p. ToJoin p.0 p.1) (both (value (codes "DIR")) (minimums_from value))
task_from Serves value = option_map (λ p. ToServe p.0.0 p.0.1 p.1.0.0 p.1.0.1 p.1.1)
    (both (both (value (codes "listen")) (value (codes "origin")))
    (both (both (option_and_then (λ o. o) (number_by (Number 1 greatest_number) (value (codes "connections")))) (value (codes "record"))) (cache_from keys_served value)))
task_from Proxies value =
    option_map (λ p. ToProxy (record {
      listen = p.0.0;
      origin = p.0.1;
      file = value (codes "record");
      log = value (codes "access-log");
      status = value (codes "status");
      terms = p.1.0;
      limits = p.1.1.0;
      keeps_cookies = flag_by (value (codes "store-set-cookie"));
      settings = p.1.1.1;
    }))
    (both (both (value (codes "listen")) (value (codes "origin"))) (both (terms_from value) (both (limits_from value) (cache_from keys_proxied value))))

abbrev task_by : Option Command → (Text → Option Text) → Option Task
task_by command value = option_and_then (λ c. task_from c value) command

allowed_given : (value : Text → Option Text) (allowed : Allowed) → AsksAllowed value allowed → allowed_from value ≡ Some allowed
allowed_given value allowed a =
    λ i. option_map (λ p. record {
      added_fields = p.0.added_fields;
      joined_lines = p.0.joined_lines;
      ranges = p.0.ranges;
      default_lifetime = p.1.0.0;
      grace = p.1.0.1;
      normalized = p.1.1.0;
      inferred_marks = a.inferred_marks_is i;
      age_slack = p.1.1.1;
    }) (both (a.words_are i) (both (both (a.default_lifetime_is i) (a.grace_is i)) (both (a.normalized_is i) (a.age_slack_is i))))

settings_given : (value : Text → Option Text) (settings : Settings) → AsksSettings value settings → settings_from value ≡ Some settings
settings_given value settings a =
    λ i. option_map (λ p. record { slack = p.0.0; ignored = p.0.1; unmarked = a.unmarked_is i; allowed = p.1 })
    (both (both (a.slack_is i) (a.ignored_is i)) (allowed_given value settings.allowed a.allowed_are i))

minimums_given : (value : Text → Option Text) (minimums : Minimums) → AsksMinimums value minimums → minimums_from value ≡ Some minimums
minimums_given value minimums a = λ i. option_map (λ p. record { hits = p.0; judged = p.1 }) (both (a.hits_are i) (a.judged_are i))

audit_terms_given : (value : Text → Option Text) (terms : AuditTerms) → AsksAuditTerms value terms → audit_terms_from value ≡ Some terms
audit_terms_given value terms a =
    λ i. option_map (λ p. record { settings = p.0; minimums = p.1 })
    (both (settings_given value terms.settings a.settings_are i) (minimums_given value terms.minimums a.minimums_are i))

cache_given : (usual : ℕ) (value : Text → Option Text) (settings : CoreSettings) → AsksCache usual value settings → cache_from usual value ≡ Some settings
cache_given usual value settings a =
    λ i. option_map (λ p. record { name = p.1.1; keys = p.0; bytes = p.1.0 }) (both (a.keys_is i) (both (a.bytes_is i) (a.name_is i)))

terms_given : (value : Text → Option Text) (recorded : RecordTerms) → AsksTerms value recorded → terms_from value ≡ Some recorded
terms_given value recorded a = λ i. option_map (λ limit. record { strict = a.strict_is i; limit = limit }) (a.limit_is i)

patience_given : (value : Text → Option Text) (patience : ProxyPatience) → AsksPatience value patience → patience_from value ≡ Some patience
patience_given value patience a =
    λ i. option_map (λ p. record {
      idle_timeout = p.0.0;
      request_timeout = p.0.1.0;
      send_timeout = p.0.1.1;
      queue_timeout = p.1.0;
      origin_timeout = p.1.1.0;
      origin_total = p.1.1.1.0;
      abandoned = p.1.1.1.1;
    })
    (both (both (a.idle_timeout_is i) (both (a.request_timeout_is i) (a.send_timeout_is i)))
    (both (a.queue_timeout_is i) (both (a.origin_timeout_is i) (both (a.origin_total_is i) (a.abandoned_is i)))))

limits_given : (value : Text → Option Text) (limits : ProxyLimits) → AsksLimits value limits → limits_from value ≡ Some limits
limits_given value limits a =
    let patient = patience_given value limits.patience a.patience_is in
    λ i. option_map (λ p. record {
      connections = p.0.0;
      origin_connections = p.0.1.0;
      held = p.0.1.1;
      connect_timeout = p.1.0.0;
      drain_timeout = p.1.0.1;
      patience = p.1.1.0;
      clients = p.1.1.1;
    })
    (both (both (a.connections_are i) (both (a.origin_connections_are i) (a.held_is i)))
    (both (both (a.connect_timeout_is i) (a.drain_timeout_is i)) (both (patient i) (a.clients_are i))))

-- what is asked is that task
values_give : (value : Text → Option Text) (task : Task) → ValuesAsk value task → task_from (command_of task) value ≡ Some task
values_give value (ToAudit file terms) a =
    let set = audit_terms_given value terms a.terms_are in
    λ i. option_map (λ p. ToAudit p.0 p.1) (both (a.file_is i) (set i))
values_give value (ToReport file terms form) a =
    let set = audit_terms_given value terms a.terms_are in
    λ i. option_map (λ p. ToReport p.0 p.1 record { json = a.json_is i; baseline = a.baseline_is i; strict = a.strict_is i; annotates = a.annotates_is i; junit = a.junit_is i; html = a.html_is i }) (both (a.file_is i) (set i))
values_give value (ToExplain file terms) a =
    let set = settings_given value terms.settings a.settings_are in
    let named = ap file_named a.file_is ∙ ap (λ b. cond b None (Some file)) a.file_has_name in
    λ i. option_map (λ p. ToExplain p.0 record { position = p.1.0; settings = p.1.1; json = a.json_is i }) (both (named i) (both (a.position_is i) (set i)))
values_give value (ToShow file span) a = λ i. option_map (λ p. ToShow p.0 p.1) (both (a.file_is i) (a.span_is i))
values_give value (ToReplay file) a = ap (option_map ToReplay) a
values_give value (ToConvert file) a = ap (option_map ToConvert) a
values_give value (ToSplit file parts dir) a =
    let named = ap file_named a.file_is ∙ ap (λ b. cond b None (Some file)) a.file_has_name in
    λ i. option_map (λ p. ToSplit p.0 p.1.0 p.1.1) (both (named i) (both (option_and_then (λ o. o) (a.parts_are i)) (a.dir_is i)))
values_give value (ToJoin dir least) a =
    let set = minimums_given value least a.minimums_are in
    λ i. option_map (λ p. ToJoin p.0 p.1) (both (a.dir_is i) (set i))
values_give value (ToServe listen origin connections file settings) a =
    let set = cache_given keys_served value settings a.settings_are in
    λ i. option_map (λ p. ToServe p.0.0 p.0.1 p.1.0.0 p.1.0.1 p.1.1)
    (both (both (a.listen_is i) (a.origin_is i)) (both (both (option_and_then (λ o. o) (a.connections_is i)) (a.file_is i)) (set i)))
values_give value (ToProxy asked) a =
    let set = cache_given keys_proxied value asked.settings a.settings_are in
    let limited = limits_given value asked.limits a.limits_are in
    let recorded = terms_given value asked.terms a.terms_are in
    λ i. option_map (λ p. ToProxy (record {
      listen = p.0.0;
      origin = p.0.1;
      file = a.file_is i;
      log = a.log_is i;
      status = a.status_is i;
      terms = p.1.0;
      limits = p.1.1.0;
      keeps_cookies = a.cookies_are i;
      settings = p.1.1.1;
    }))
    (both (both (a.listen_is i) (a.origin_is i)) (both (recorded i) (both (limited i) (set i))))

task_given : (command : Option Command) (value : Text → Option Text) (task : Task) → AsksBy command value task → task_by command value ≡ Some task
task_given command value task asks = ap (λ c. task_by c value) asks.0 ∙ values_give value task asks.1

-- words ask for one task
pub one_command : (command : Option Command) (value : Text → Option Text) (task other : Task) → AsksBy command value task → AsksBy command value other
    → command_of task ≡ command_of other
one_command command value task other a b = one_some command _ _ a.0 b.0

pub one_task : (command : Option Command) (value : Text → Option Text) (task other : Task) → AsksBy command value task → AsksBy command value other → task ≡ other
one_task command value task other a b = one_some _ task other (task_given command value task a) (task_given command value other b)

-- ---- what is asked is taken

taken_by_judges : Judges taken_by
taken_by_judges = record { any = λ text. refl; count = λ text. refl; words = λ text. refl; names = λ text. refl; vary = λ text. refl }

some_of : {A : Type 0} (o : Option A) (a : A) → o ≡ Some a → is_some o ≡ true
some_of o a is = ap is_some is

some_of_mapped : {A : Type 0} (o : Option A) (a : Option A) → option_map Some o ≡ Some a → is_some o ≡ true
some_of_mapped None a is = absurd cc
some_of_mapped (Some b) a is = refl

numbered : (least most usual number : ℕ) (o : Option Text) → number_or (Number least most) usual o ≡ Some number
    → option_map_or (λ text. taken_by (Number least most) text) o true ≡ true
numbered least most usual number None is = refl
numbered least most usual number (Some text) is = some_of (number_within least most text) number is

numbered_if_given : (least most : ℕ) (number : Option ℕ) (o : Option Text) → number_by (Number least most) o ≡ Some number
    → option_map_or (λ text. taken_by (Number least most) text) o true ≡ true
numbered_if_given least most number None is = refl
numbered_if_given least most number (Some text) is = some_of_mapped (number_within least most text) number is

-- a number that has to be there
numbered_there : (least most number : ℕ) (o : Option Text) → number_by (Number least most) o ≡ Some (Some number)
    → option_map_or (λ text. taken_by (Number least most) text) o false ≡ true
numbered_there least most number None is = absurd cc
numbered_there least most number (Some text) is = some_of_mapped (number_within least most text) (Some number) is

sized : (least usual octets : ℕ) (o : Option Text) → number_or (Size least) usual o ≡ Some octets
    → option_map_or (λ text. taken_by (Size least) text) o true ≡ true
sized least usual octets None is = refl
sized least usual octets (Some text) is = some_of (size_from least text) octets is

sized_if_given : (least : ℕ) (octets : Option ℕ) (o : Option Text) → number_by (Size least) o ≡ Some octets
    → option_map_or (λ text. taken_by (Size least) text) o true ≡ true
sized_if_given least octets None is = refl
sized_if_given least octets (Some text) is = some_of_mapped (size_from least text) octets is

name_taken : (b : Bool) (text name : Text) → is_name text ≡ b → cond b (Some text) None ≡ Some name → is_name text ≡ true
name_taken true text name is same = is
name_taken false text name is same = absurd cc

called : (name : Text) (o : Option Text) → name_by o ≡ Some name → option_map_or (λ text. taken_by CacheName text) o true ≡ true
called name None is = refl
called name (Some text) is = name_taken (is_name text) text name refl is

file_taken : (file : Text) (o : Option Text) → o ≡ Some file → bytes_eq file (codes "-") ≡ false
    → option_map_or (λ text. taken_by FileName text) o false ≡ true
file_taken file o is named =
    ap (λ (p : Option Text). option_map_or (λ text. taken_by FileName text) p false) is ∙ ap (λ b. cond b false true) named

spanned : (span : Span) (o : Option Text) → option_and_then span_of o ≡ Some span → option_map_or (λ text. taken_by Positions text) o false ≡ true
spanned span None is = absurd cc
spanned span (Some text) is = some_of (span_of text) span is

-- a host and a port of an origin
originated : (origin : Text) (o : Option Text) → o ≡ Some origin → is_origin origin ≡ true
    → option_map_or (λ text. taken_by OriginAddress text) o false ≡ true
originated origin o is one = ap (λ (p : Option Text). option_map_or (λ text. taken_by OriginAddress text) p false) is ∙ one

cache_fine : (usual : ℕ) (value : Text → Option Text) (settings : CoreSettings) → AsksCache usual value settings → AreFine taken_by value caching
cache_fine usual value settings a = (
  numbered 1 65536 usual settings.keys (value (codes "keys")) a.keys_is,
  (sized 0 67108864 settings.bytes (value (codes "bytes")) a.bytes_is, (called settings.name (value (codes "name")) a.name_is, tt)),
)

serving_fine : (value : Text → Option Text) (listen origin : Text) (n : ℕ) (file : Text) (settings : CoreSettings)
    → AsksService value listen origin n file settings → AreFine taken_by value serving
serving_fine value listen origin n file settings a = (
  there taken_by taken_by_judges (value (codes "listen")) listen a.listen_is,
  (
    originated origin (value (codes "origin")) a.origin_is a.origin_is_one,
    (
      numbered_there 1 greatest_number n (value (codes "connections")) a.connections_is,
      (there taken_by taken_by_judges (value (codes "record")) file a.file_is, tt),
    ),
  ),
)

proxying_fine : (value : Text → Option Text) (asked : ProxyTask) → AsksProxy value asked → AreFine taken_by value proxying
proxying_fine value asked a =
    let limits = asked.limits in
    let l = a.limits_are in
    let p = a.limits_are.patience_is in
    let within = λ (least most usual : ℕ). λ (name : Text). λ (n : ℕ). λ (is : number_or (Number least most) usual (value name) ≡ Some n).
    numbered least most usual n (value name) is in (
      there taken_by taken_by_judges (value (codes "listen")) asked.listen a.listen_is,
      (
        originated asked.origin (value (codes "origin")) a.origin_is a.origin_is_one,
        (
          any_fine taken_by taken_by_judges (value (codes "record")),
          (
            sized_if_given 0 asked.terms.limit (value (codes "record-limit")) a.terms_are.limit_is,
            (
              any_fine taken_by taken_by_judges (value (codes "record-strict")),
              (
                within 1 60000 1024 (codes "max-connections") limits.connections l.connections_are,
                (
                  within 1 60000 100 (codes "origin-connections") limits.origin_connections l.origin_connections_are,
                  (
                    sized 1048576 268435456 limits.held (value (codes "held")) l.held_is,
                    (
                      within 1 86400 75 (codes "idle-timeout") limits.patience.idle_timeout p.idle_timeout_is,
                      (
                        within 1 86400 60 (codes "request-timeout") limits.patience.request_timeout p.request_timeout_is,
                        (
                          within 1 86400 60 (codes "send-timeout") limits.patience.send_timeout p.send_timeout_is,
                          (
                            within 1 86400 5 (codes "queue-timeout") limits.patience.queue_timeout p.queue_timeout_is,
                            (
                              within 1 3600 5 (codes "connect-timeout") limits.connect_timeout l.connect_timeout_is,
                              (
                                within 1 86400 60 (codes "origin-timeout") limits.patience.origin_timeout p.origin_timeout_is,
                                (
                                  within 1 86400 600 (codes "origin-total") limits.patience.origin_total p.origin_total_is,
                                  (
                                    within 1 86400 5 (codes "abandoned") limits.patience.abandoned p.abandoned_is,
                                    (
                                      within 0 86400 8 (codes "drain-timeout") limits.drain_timeout l.drain_timeout_is,
                                      (
                                        numbered_if_given 1 greatest_number limits.clients (value (codes "connections")) l.clients_are,
                                        (any_fine taken_by taken_by_judges (value (codes "store-set-cookie")), (any_fine taken_by taken_by_judges (value (codes "access-log")), (any_fine taken_by taken_by_judges (value (codes "status")), tt))),
                                      ),
                                    ),
                                  ),
                                ),
                              ),
                            ),
                          ),
                        ),
                      ),
                    ),
                  ),
                ),
              ),
            ),
          ),
        ),
      ),
    )

values_fine : (value : Text → Option Text) (task : Task) → ValuesAsk value task → AreFine taken_by value (entries_of (command_of task))
values_fine value (ToAudit file terms) a = audit_fine taken_by taken_by_judges value file terms a
values_fine value (ToReport file asked form) a = (
  there taken_by taken_by_judges (value (codes "FILE")) file a.file_is,
  appended taken_by value terms reporting (terms_fine taken_by taken_by_judges value asked a.terms_are) (
    any_fine taken_by taken_by_judges (value (codes "json")),
    (any_fine taken_by taken_by_judges (value (codes "baseline")), (any_fine taken_by taken_by_judges (value (codes "baseline-strict")), (any_fine taken_by taken_by_judges (value (codes "junit")), (any_fine taken_by taken_by_judges (value (codes "annotations")), (any_fine taken_by taken_by_judges (value (codes "html")), tt))))),
  ),
)
values_fine value (ToExplain file terms) a = (
  file_taken file (value (codes "FILE")) a.file_is a.file_has_name,
  (
    numbered_if_given 1 greatest_number terms.position (value (codes "POSITION")) a.position_is,
    appended taken_by value judging explaining_form (settings_fine taken_by taken_by_judges value terms.settings a.settings_are)
        (any_fine taken_by taken_by_judges (value (codes "json")), tt),
  ),
)
values_fine value (ToShow file span) a =
    (there taken_by taken_by_judges (value (codes "FILE")) file a.file_is, (spanned span (value (codes "POSITION[-POSITION]")) a.span_is, tt))
values_fine value (ToReplay file) a = (there taken_by taken_by_judges (value (codes "FILE")) file a, tt)
values_fine value (ToConvert file) a = (there taken_by taken_by_judges (value (codes "FILE")) file a, tt)
values_fine value (ToSplit file parts dir) a = (
  file_taken file (value (codes "FILE")) a.file_is a.file_has_name,
  (numbered_there 1 500 parts (value (codes "N")) a.parts_are, (there taken_by taken_by_judges (value (codes "DIR")) dir a.dir_is, tt)),
)
values_fine value (ToJoin dir least) a = (there taken_by taken_by_judges (value (codes "DIR")) dir a.dir_is, minimums_fine taken_by taken_by_judges value least a.minimums_are)
values_fine value (ToServe listen origin connections file settings) a =
    appended taken_by value serving caching (serving_fine value listen origin connections file settings a) (cache_fine keys_served value settings a.settings_are)
values_fine value (ToProxy asked) a =
    appended taken_by value proxying caching (proxying_fine value asked a) (cache_fine keys_proxied value asked.settings a.settings_are)

-- and what is asked isn't refused
none_outside : (command : Option Command) (value : Text → Option Text) (task : Task) (e : Error) (refusal : Refusal) → command ≡ Some (command_of task)
    → ValuesAsk value task → RefusesBy command value refusal → refused_kind refusal ≡ Some (kind_of e) → ⊥
none_outside command value task e refusal is asks refuses kind =
    none_refused taken_by value (entries_of (command_of task)) refusal (kind_of e) (values_fine value task asks)
    (subst (λ (c : Option Command). RefusesBy c value refusal) is refuses) kind

-- who is among some is among more
pub among_more : (entry : Entry) (some more : List Entry) → IsAmong entry some → IsAmong entry (some ++ more)
among_more entry [] more among = absurd among
among_more entry (first ∷ rest) more (inl same) = inl same
among_more entry (first ∷ rest) more (inr among) = inr (among_more entry rest more among)

-- a number that may be left out, and is
pub none_given : (takes : Takes) (o : Option Text) → number_by takes o ≡ Some None → o ≡ None
none_given takes None is = refl
none_given takes (Some text) is = absurd (mapped_is_some (number_of takes text) is)
  where
    mapped_is_some : (n : Option ℕ) → option_map Some n ≡ Some None → ⊥
    mapped_is_some None same = cc
    mapped_is_some (Some number) same = cc

-- of the settings that are asked for there are caches
taken_name : (b : Bool) (text name : Text) → is_name text ≡ b → cond b (Some text) None ≡ Some name → is_name name ≡ true
taken_name true text name is same = let e : text ≡ name = search rules in subst (λ n. is_name n ≡ true) e is
taken_name false text name is same = absurd cc

good_name : (o : Option Text) (name : Text) → name_by o ≡ Some name → is_name name ≡ true
good_name None name is = let e : codes "hcache" ≡ name = search rules in subst (λ n. is_name n ≡ true) e refl
good_name (Some text) name is = taken_name (is_name text) text name refl is

taken_size : (digits b : Bool) (value keys : ℕ) → is_size value ≡ b → cond (digits && b) (Some value) None ≡ Some keys → is_size keys ≡ true
taken_size true true value keys is same = let e : value ≡ keys = search rules in subst (λ n. is_size n ≡ true) e is
taken_size true false value keys is same = absurd cc
taken_size false b value keys is same = absurd cc

good_size : (usual : ℕ) (o : Option Text) (keys : ℕ) → is_size usual ≡ true → number_or (Number 1 65536) usual o ≡ Some keys → is_size keys ≡ true
good_size usual None keys good is = let e : usual ≡ keys = search rules in subst (λ n. is_size n ≡ true) e good
good_size usual (Some text) keys good is = taken_size (is_number text) (is_size (digits_value 10 text)) (digits_value 10 text) keys refl is

good_cache : (usual : ℕ) (value : Text → Option Text) (settings : CoreSettings) → is_size usual ≡ true → AsksCache usual value settings → AreGood settings
good_cache usual value settings good asks = record {
  name = good_name (value (codes "name")) settings.name asks.name_is;
  size = good_size usual (value (codes "keys")) settings.keys good asks.keys_is;
}

-- positions are positive, and those up to a last one too
positive : (digits some few : Bool) (value number : ℕ) → nat_le 1 value ≡ some → cond (digits && (some && few)) (Some value) None ≡ Some number → 0 < number
positive true true true value number is taken = let same : value ≡ number = search rules in subst (λ (n : ℕ). 0 < n) same (leb-true 1 value is)
positive true true false value number is taken = absurd cc
positive true false few value number is taken = absurd cc
positive false some few value number is taken = absurd cc

positive_number : (text : Text) (number : ℕ) → positive_of text ≡ Some number → 0 < number
positive_number text number is = positive (is_number text) (nat_le 1 (digits_value 10 text)) (nat_le (digits_value 10 text) greatest_number) (digits_value 10 text) number refl is

last_between : (first last : ℕ) (span : Span) (b : Bool) → cond b (Some (record { first = first; last = last })) None ≡ Some span → 0 < last → 0 < span.last
last_between first last span true is some = let same : record { first = first; last = last } ≡ span = search rules in subst (λ (s : Span). 0 < s.last) same some
last_between first last span false is some = absurd cc

last_after : (first : ℕ) (span : Span) (text : Text) (o : Option ℕ) → positive_of text ≡ o → option_and_then (span_between first) o ≡ Some span → 0 < span.last
last_after first span text None counts is = absurd cc
last_after first span text (Some last) counts is = last_between first last span (nat_le first last) is (positive_number text last counts)

last_from : (first : ℕ) (rest : Text) (span : Span) → 0 < first → span_from first rest ≡ Some span → 0 < span.last
last_from first [] span some is = last_between first first span (nat_le first first) is some
last_from first (hyphen ∷ last) span some is = last_after first span last (positive_of last) refl is

last_of : (first rest : Text) (span : Span) (o : Option ℕ) → positive_of first ≡ o → option_and_then (λ n. span_from n rest) o ≡ Some span → 0 < span.last
last_of first rest span None counts is = absurd cc
last_of first rest span (Some number) counts is = last_from number rest span (positive_number first number counts) is

last_is_one : (o : Option Text) (span : Span) → option_and_then span_of o ≡ Some span → 0 < span.last
last_is_one None span is = absurd (none_is_some _ span refl is)
last_is_one (Some text) span is =
    last_of (take (len_before_hyphen text) text) (drop (len_before_hyphen text) text) span (positive_of (take (len_before_hyphen text) text)) refl is

-- there are some parts
parts_of_text : (digits some few : Bool) (value number : ℕ) → nat_le 1 value ≡ some → option_map Some (cond (digits && (some && few)) (Some value) None) ≡ Some (Some number) → 0 < number
parts_of_text true true true value number is taken = let same : value ≡ number = search rules in subst (λ (n : ℕ). 0 < n) same (leb-true 1 value is)
parts_of_text true true false value number is taken = absurd cc
parts_of_text true false few value number is taken = absurd cc
parts_of_text false some few value number is taken = absurd cc

some_parts : (o : Option Text) (number : ℕ) → number_by (Number 1 500) o ≡ Some (Some number) → 0 < number
some_parts None number is = absurd cc
some_parts (Some text) number is = parts_of_text (is_number text) (nat_le 1 (digits_value 10 text)) (nat_le (digits_value 10 text) 500) (digits_value 10 text) number refl is

pub possible_from : (command : Option Command) (value : Text → Option Text) (task : Task) → AsksBy command value task → CanBeDone task
possible_from command value (ToAudit file asked) asks = tt
possible_from command value (ToReport file asked form) asks = tt
possible_from command value (ToExplain file asked) asks = tt
possible_from command value (ToShow file span) asks = last_is_one (value (codes "POSITION[-POSITION]")) span asks.1.span_is
possible_from command value (ToReplay file) asks = tt
possible_from command value (ToConvert file) asks = tt
possible_from command value (ToSplit file parts dir) asks = some_parts (value (codes "N")) parts asks.1.parts_are
possible_from command value (ToJoin dir least) asks = tt
possible_from command value (ToServe listen origin connections file settings) asks = good_cache keys_served value settings refl asks.1.settings_are
possible_from command value (ToProxy asked) asks = good_cache keys_proxied value asked.settings refl asks.1.settings_are

-- words that ask something are refused for want of memory alone
pub asked_from : (words : List Text) (task : Task) (e : Error) → fault_of hcache words ≡ [] → Asks words task → IsRefused words e → kind_of e ≡ OutOfMemory
asked_from words task e none asks refused = elim refused [
  | inl has ↦ elim (subst (λ (kinds : Kinds). HasKind kinds e) none has) [
    | inl memory ↦ memory
    | inr among ↦ absurd among
  ]
  | inr outside ↦ absurd (none_outside _ _ task e outside.refusal asks.0 asks.1 outside.refuses outside.kind_is)
]

-- ---- the subcommand

-- and its name says which command it is
name_says : {B : Type 0} (n : B → Text) (r : B → List Row) (o : Option B) (name : Text) → Some name ≡ option_map n o
    → command_named name ≡ command_in (option_map (λ b. (n b, r b)) o)
name_says n r None name is = absurd cc
name_says n r (Some b) name is = let same : name ≡ n b = search rules in ap command_named same

command_is : (m : ArgMatches) (name : Text) → Some name ≡ subcommand_name_of m → command_named name ≡ command_in (subcommand_rows_of m)
command_is m name is =
    name_says (λ b. (out-SubCommand (box_value b)).name.now) (λ b. rows_of (found_of (out-SubCommand (box_value b)).matches)) (out-ArgMatches m).subcommand name is

module _ (m : ArgMatches) (name : Text) (found : Found) (is : Some name ≡ subcommand_name_of m)
    (rows : Some (rows_of found) ≡ option_map (λ q. q.1) (subcommand_rows_of m)) where
  values_are : first_value found ≡ value_in (subcommand_rows_of m)
  values_are = same_values (subcommand_rows_of m) found rows

  -- what is said of the name and the values found is said of the subcommand
  said_in : (P : Option Command → (Text → Option Text) → Type 0) (command : Option Command) → command_named name ≡ command
      → P command (first_value found) → P (command_in (subcommand_rows_of m)) (value_in (subcommand_rows_of m))
  said_in P command named said =
      subst (λ c. P c (value_in (subcommand_rows_of m))) (sym named ∙ command_is m name is) (subst (λ v. P command v) values_are said)

  pub asks_in : (command : Command) → command_named name ≡ Some command → (result : Result Order Refusal)
      → IfOk result (λ order. AsksBy (Some command) (first_value found) (task_of order)) → IfOk result (λ order. AsksIn (subcommand_rows_of m) (task_of order))
  asks_in command named result asks =
      IfOk-weaker result _ _ (λ order. said_in (λ c. λ v. AsksBy c v (task_of order)) (Some command) named) asks

  pub refuses_in : (command : Command) → command_named name ≡ Some command → (result : Result Order Refusal)
      → IfErr result (RefusesBy (Some command) (first_value found)) → IfErr result (RefusesIn (subcommand_rows_of m))
  refuses_in command named result refuses =
      IfErr-weaker result _ _ (λ refusal. said_in (λ c. λ v. RefusesBy c v refusal) (Some command) named) refuses

-- ---- plain words

-- words whose task is known give that, or fail for want of memory alone
pub record AreWordsFor (words : List Text) (task : Task) : Type 0 where
  pub asks : Asks words task
  pub no_fault : fault_of hcache words ≡ []

words_at_ok : (words plain_words : List Text) (task got : Task) → AreWordsFor plain_words task → words ≡ plain_words → Asks words got → got ≡ task
words_at_ok words plain_words task got are same asked = one_task _ _ got task (subst (λ w. Asks w got) same asked) are.asks

words_at_err : (words plain_words : List Text) (task : Task) (e : Error) → AreWordsFor plain_words task → words ≡ plain_words → IsRefused words e
    → kind_of e ≡ OutOfMemory
words_at_err words plain_words task e are same refused =
    asked_from plain_words task e are.no_fault are.asks (subst (λ w. IsRefused w e) same refused)

pub words_give : (words plain_words : List Text) (task : Task) (result : Result Order Error) → AreWordsFor plain_words task → words ≡ plain_words
    → IfOk result (λ order. Asks words (task_of order)) → IfErr result (IsRefused words)
    → MatchResult result (λ order. task_of order ≡ task) (λ e. kind_of e ≡ OutOfMemory)
words_give words plain_words task (Ok order) are same asked refused = words_at_ok words plain_words task (task_of order) are same asked
words_give words plain_words task (Err e) are same asked refused = words_at_err words plain_words task e are same refused

-- ---- `audit FILE`, `report FILE` and `explain FILE`

module _ (name file : Text) (h : IsNoFlag file) where
  audit_settings : AsksSettings (value_in (subcommand_of hcache (name ∷ codes "audit" ∷ file ∷ []))) plain
  unfolding clap_on_literals
  audit_settings = rw (h.dashes, h.long, h.short) (record {
    slack_is = refl;
    ignored_is = refl;
    unmarked_is = refl;
    allowed_are = record {
      words_are = refl;
      default_lifetime_is = refl;
      grace_is = refl;
      normalized_is = refl;
      age_slack_is = refl;
      inferred_marks_is = refl;
    };
  })

  audit_minimums : AsksMinimums (value_in (subcommand_of hcache (name ∷ codes "audit" ∷ file ∷ []))) no_minimums
  unfolding clap_on_literals
  audit_minimums = rw (h.dashes, h.long, h.short) (record { hits_are = refl; judged_are = refl })

  audited : value_in (subcommand_of hcache (name ∷ codes "audit" ∷ file ∷ [])) (codes "FILE") ≡ Some file
  unfolding clap_on_literals
  audited = rw (h.dashes, h.long, h.short) refl

  is_audit : command_in (subcommand_of hcache (name ∷ codes "audit" ∷ file ∷ [])) ≡ Some Audits
  unfolding clap_on_literals
  is_audit = refl

  no_audit_fault : fault_of hcache (name ∷ codes "audit" ∷ file ∷ []) ≡ []
  unfolding clap_on_literals
  no_audit_fault = rw (h.dashes, h.long, h.short) refl

  report_settings : AsksSettings (value_in (subcommand_of hcache (name ∷ codes "report" ∷ file ∷ []))) plain
  unfolding clap_on_literals
  report_settings = rw (h.dashes, h.long, h.short) (record {
    slack_is = refl;
    ignored_is = refl;
    unmarked_is = refl;
    allowed_are = record {
      words_are = refl;
      default_lifetime_is = refl;
      grace_is = refl;
      normalized_is = refl;
      age_slack_is = refl;
      inferred_marks_is = refl;
    };
  })

  report_minimums : AsksMinimums (value_in (subcommand_of hcache (name ∷ codes "report" ∷ file ∷ []))) no_minimums
  unfolding clap_on_literals
  report_minimums = rw (h.dashes, h.long, h.short) (record { hits_are = refl; judged_are = refl })

  reported : value_in (subcommand_of hcache (name ∷ codes "report" ∷ file ∷ [])) (codes "FILE") ≡ Some file
  unfolding clap_on_literals
  reported = rw (h.dashes, h.long, h.short) refl

  no_json : flag_by (value_in (subcommand_of hcache (name ∷ codes "report" ∷ file ∷ [])) (codes "json")) ≡ false
  unfolding clap_on_literals
  no_json = rw (h.dashes, h.long, h.short) refl

  no_baseline : value_in (subcommand_of hcache (name ∷ codes "report" ∷ file ∷ [])) (codes "baseline") ≡ None
  unfolding clap_on_literals
  no_baseline = rw (h.dashes, h.long, h.short) refl

  not_strict : flag_by (value_in (subcommand_of hcache (name ∷ codes "report" ∷ file ∷ [])) (codes "baseline-strict")) ≡ false
  unfolding clap_on_literals
  not_strict = rw (h.dashes, h.long, h.short) refl

  not_annotated : flag_by (value_in (subcommand_of hcache (name ∷ codes "report" ∷ file ∷ [])) (codes "annotations")) ≡ false
  unfolding clap_on_literals
  not_annotated = rw (h.dashes, h.long, h.short) refl

  no_junit : value_in (subcommand_of hcache (name ∷ codes "report" ∷ file ∷ [])) (codes "junit") ≡ None
  unfolding clap_on_literals
  no_junit = rw (h.dashes, h.long, h.short) refl

  no_html : flag_by (value_in (subcommand_of hcache (name ∷ codes "report" ∷ file ∷ [])) (codes "html")) ≡ false
  unfolding clap_on_literals
  no_html = rw (h.dashes, h.long, h.short) refl

  is_report : command_in (subcommand_of hcache (name ∷ codes "report" ∷ file ∷ [])) ≡ Some Reports
  unfolding clap_on_literals
  is_report = refl

  no_report_fault : fault_of hcache (name ∷ codes "report" ∷ file ∷ []) ≡ []
  unfolding clap_on_literals
  no_report_fault = rw (h.dashes, h.long, h.short) refl

  explain_settings : AsksSettings (value_in (subcommand_of hcache (name ∷ codes "explain" ∷ file ∷ []))) plain
  unfolding clap_on_literals
  explain_settings = rw (h.dashes, h.long, h.short) (record {
    slack_is = refl;
    ignored_is = refl;
    unmarked_is = refl;
    allowed_are = record {
      words_are = refl;
      default_lifetime_is = refl;
      grace_is = refl;
      normalized_is = refl;
      age_slack_is = refl;
      inferred_marks_is = refl;
    };
  })

  explained : value_in (subcommand_of hcache (name ∷ codes "explain" ∷ file ∷ [])) (codes "FILE") ≡ Some file
  unfolding clap_on_literals
  explained = rw (h.dashes, h.long, h.short) refl

  no_position : number_by (Number 1 greatest_number) (value_in (subcommand_of hcache (name ∷ codes "explain" ∷ file ∷ [])) (codes "POSITION")) ≡ Some None
  unfolding clap_on_literals
  no_position = rw (h.dashes, h.long, h.short) refl

  explained_in_text : flag_by (value_in (subcommand_of hcache (name ∷ codes "explain" ∷ file ∷ [])) (codes "json")) ≡ false
  unfolding clap_on_literals
  explained_in_text = rw (h.dashes, h.long, h.short) refl

  is_explain : command_in (subcommand_of hcache (name ∷ codes "explain" ∷ file ∷ [])) ≡ Some Explains
  unfolding clap_on_literals
  is_explain = refl

  no_explain_fault : fault_of hcache (name ∷ codes "explain" ∷ file ∷ []) ≡ []
  unfolding clap_on_literals
  no_explain_fault = rw (h.dashes, h.long, h.short) refl

pub audit_words : (name file : Text) → IsWord file → AreWordsFor (name ∷ codes "audit" ∷ file ∷ []) (ToAudit file plain_audit)
audit_words name file is = let h = no_flag file is in record {
  asks = (
    is_audit name file h,
    record {
      file_is = audited name file h;
      terms_are = record { settings_are = audit_settings name file h; minimums_are = audit_minimums name file h };
    },
  );
  no_fault = no_audit_fault name file h;
}

pub report_words : (name file : Text) → IsWord file → AreWordsFor (name ∷ codes "report" ∷ file ∷ []) (ToReport file plain_audit plain_form)
report_words name file is = let h = no_flag file is in record {
  asks = (
    is_report name file h,
    record {
      file_is = reported name file h;
      terms_are = record { settings_are = report_settings name file h; minimums_are = report_minimums name file h };
      json_is = no_json name file h;
      baseline_is = no_baseline name file h;
      strict_is = not_strict name file h;
      annotates_is = not_annotated name file h;
      junit_is = no_junit name file h;
      html_is = no_html name file h;
    },
  );
  no_fault = no_report_fault name file h;
}

-- a file name isn't `-`
no_lone_hyphen : (file : Text) → IsFileName file → bytes_eq file (codes "-") ≡ false
no_lone_hyphen [] named = refl
no_lone_hyphen (x ∷ rest) named = rw (not_hyphen x named) refl

pub explain_words : (name file : Text) → IsFileName file → AreWordsFor (name ∷ codes "explain" ∷ file ∷ []) (ToExplain file (explaining None))
explain_words name file named = let h = no_flag file (inr named) in record {
  asks = (
    is_explain name file h,
    record {
      file_is = explained name file h;
      file_has_name = no_lone_hyphen file named;
      position_is = no_position name file h;
      settings_are = explain_settings name file h;
      json_is = explained_in_text name file h;
    },
  );
  no_fault = no_explain_fault name file h;
}

-- ---- `explain FILE POSITION`

module _ (name file number : Text) (h : IsNoFlag file) (n : IsNoFlag number) where
  explain_at_settings : AsksSettings (value_in (subcommand_of hcache (name ∷ codes "explain" ∷ file ∷ number ∷ []))) plain
  unfolding clap_on_literals
  explain_at_settings = rw (h.dashes, h.long, h.short, n.dashes, n.long, n.short) (record {
    slack_is = refl;
    ignored_is = refl;
    unmarked_is = refl;
    allowed_are = record {
      words_are = refl;
      default_lifetime_is = refl;
      grace_is = refl;
      normalized_is = refl;
      age_slack_is = refl;
      inferred_marks_is = refl;
    };
  })

  explained_at : value_in (subcommand_of hcache (name ∷ codes "explain" ∷ file ∷ number ∷ [])) (codes "FILE") ≡ Some file
  unfolding clap_on_literals
  explained_at = rw (h.dashes, h.long, h.short, n.dashes, n.long, n.short) refl

  position_given : value_in (subcommand_of hcache (name ∷ codes "explain" ∷ file ∷ number ∷ [])) (codes "POSITION") ≡ Some number
  unfolding clap_on_literals
  position_given = rw (h.dashes, h.long, h.short, n.dashes, n.long, n.short) refl

  explained_at_in_text : flag_by (value_in (subcommand_of hcache (name ∷ codes "explain" ∷ file ∷ number ∷ [])) (codes "json")) ≡ false
  unfolding clap_on_literals
  explained_at_in_text = rw (h.dashes, h.long, h.short, n.dashes, n.long, n.short) refl

  is_explain_at : command_in (subcommand_of hcache (name ∷ codes "explain" ∷ file ∷ number ∷ [])) ≡ Some Explains
  unfolding clap_on_literals
  is_explain_at = refl

  no_explain_at_fault : fault_of hcache (name ∷ codes "explain" ∷ file ∷ number ∷ []) ≡ []
  unfolding clap_on_literals
  no_explain_at_fault = rw (h.dashes, h.long, h.short, n.dashes, n.long, n.short) refl

-- what writes a number doesn't begin with a hyphen
taken_then : (a b : Bool) (value number : ℕ) → cond (a && b) (Some value) None ≡ Some number → a ≡ true
taken_then true b value number is = refl
taken_then false b value number is = absurd cc

first_holds : (a b : Bool) → a && b ≡ true → a ≡ true
first_holds true b is = refl
first_holds false b is = absurd cc

second_holds : (a b : Bool) → a && b ≡ true → b ≡ true
second_holds true b is = is
second_holds false b is = absurd cc

number_has_no_hyphen : (number : Text) (position : ℕ) → positive_of number ≡ Some position → IsFileName number
number_has_no_hyphen [] position counts = λ is. absurd cc
number_has_no_hyphen (x ∷ rest) position counts = λ is.
    let digits = taken_then (is_number (x ∷ rest)) _ _ _ counts in
    let digit : is_ascii_digit x ≡ true = first_holds _ _ (second_holds (nat_lt 0 (length (x ∷ rest))) _ digits) in
    let hyphen : x ≡ 45 = search rules in
    true_is_not_false _ (subst (λ (d : ℕ). is_ascii_digit d ≡ true) hyphen digit) refl

pub explain_at_words : (name file number : Text) (position : ℕ) → IsFileName file → positive_of number ≡ Some position
    → AreWordsFor (name ∷ codes "explain" ∷ file ∷ number ∷ []) (ToExplain file (explaining (Some position)))
explain_at_words name file number position named counts =
    let h = no_flag file (inr named) in
    let n = no_flag number (inr (number_has_no_hyphen number position counts)) in
    record {
      asks = (
        is_explain_at name file number h n,
        record {
          file_is = explained_at name file number h n;
          file_has_name = no_lone_hyphen file named;
          position_is = ap (number_by (Number 1 greatest_number)) (position_given name file number h n) ∙ ap (option_map Some) counts;
          settings_are = explain_at_settings name file number h n;
          json_is = explained_at_in_text name file number h n;
        },
      );
      no_fault = no_explain_at_fault name file number h n;
    }

-- ---- `replay FILE`

script_given : (name file : Text) → IsNoFlag file → value_in (subcommand_of hcache (name ∷ codes "replay" ∷ file ∷ [])) (codes "FILE") ≡ Some file
unfolding clap_on_literals
script_given name file h = rw (h.dashes, h.long, h.short) refl

is_replay : (name file : Text) → IsNoFlag file → command_in (subcommand_of hcache (name ∷ codes "replay" ∷ file ∷ [])) ≡ Some Replays
unfolding clap_on_literals
is_replay name file h = refl

no_replay_fault : (name file : Text) → IsNoFlag file → fault_of hcache (name ∷ codes "replay" ∷ file ∷ []) ≡ []
unfolding clap_on_literals
no_replay_fault name file h = rw (h.dashes, h.long, h.short) refl

pub replay_words : (name file : Text) → IsWord file → AreWordsFor (name ∷ codes "replay" ∷ file ∷ []) (ToReplay file)
replay_words name file is = let h = no_flag file is in record {
  asks = (is_replay name file h, script_given name file h);
  no_fault = no_replay_fault name file h;
}

-- ---- `convert FILE`

transcript_given : (name file : Text) → IsNoFlag file → value_in (subcommand_of hcache (name ∷ codes "convert" ∷ file ∷ [])) (codes "FILE") ≡ Some file
unfolding clap_on_literals
transcript_given name file h = rw (h.dashes, h.long, h.short) refl

is_convert : (name file : Text) → IsNoFlag file → command_in (subcommand_of hcache (name ∷ codes "convert" ∷ file ∷ [])) ≡ Some Converts
unfolding clap_on_literals
is_convert name file h = refl

no_convert_fault : (name file : Text) → IsNoFlag file → fault_of hcache (name ∷ codes "convert" ∷ file ∷ []) ≡ []
unfolding clap_on_literals
no_convert_fault name file h = rw (h.dashes, h.long, h.short) refl

pub convert_words : (name file : Text) → IsWord file → AreWordsFor (name ∷ codes "convert" ∷ file ∷ []) (ToConvert file)
convert_words name file is = let h = no_flag file is in record {
  asks = (is_convert name file h, transcript_given name file h);
  no_fault = no_convert_fault name file h;
}

-- ---- `serve`

module _ (name listen origin number file : Text) where
  listen_given : value_in (subcommand_of hcache (name ∷ service_words listen origin number file)) (codes "listen") ≡ Some listen
  unfolding clap_on_literals
  listen_given = refl

  origin_given : value_in (subcommand_of hcache (name ∷ service_words listen origin number file)) (codes "origin") ≡ Some origin
  unfolding clap_on_literals
  origin_given = refl

  number_given : value_in (subcommand_of hcache (name ∷ service_words listen origin number file)) (codes "connections") ≡ Some number
  unfolding clap_on_literals
  number_given = refl

  record_given : value_in (subcommand_of hcache (name ∷ service_words listen origin number file)) (codes "record") ≡ Some file
  unfolding clap_on_literals
  record_given = refl

  no_keys : value_in (subcommand_of hcache (name ∷ service_words listen origin number file)) (codes "keys") ≡ None
  unfolding clap_on_literals
  no_keys = refl

  no_bytes : value_in (subcommand_of hcache (name ∷ service_words listen origin number file)) (codes "bytes") ≡ None
  unfolding clap_on_literals
  no_bytes = refl

  no_name : value_in (subcommand_of hcache (name ∷ service_words listen origin number file)) (codes "name") ≡ None
  unfolding clap_on_literals
  no_name = refl

  is_serve : command_in (subcommand_of hcache (name ∷ service_words listen origin number file)) ≡ Some Serves
  unfolding clap_on_literals
  is_serve = refl

  no_serve_fault : fault_of hcache (name ∷ service_words listen origin number file) ≡ []
  unfolding clap_on_literals
  no_serve_fault = refl

pub serve_words : (name listen origin number file : Text) (connections : ℕ) → is_origin origin ≡ true → positive_of number ≡ Some connections
    → AreWordsFor (name ∷ service_words listen origin number file) (ToServe listen origin connections file (plain_cache keys_served))
serve_words name listen origin number file connections one counts = record {
  asks = (
    is_serve name listen origin number file,
    record {
      listen_is = listen_given name listen origin number file;
      origin_is = origin_given name listen origin number file;
      origin_is_one = one;
      connections_is = ap (number_by (Number 1 greatest_number)) (number_given name listen origin number file) ∙ ap (option_map Some) counts;
      file_is = record_given name listen origin number file;
      settings_are = record {
        keys_is = rw (no_keys name listen origin number file) refl;
        bytes_is = rw (no_bytes name listen origin number file) refl;
        name_is = rw (no_name name listen origin number file) refl;
      };
    },
  );
  no_fault = no_serve_fault name listen origin number file;
}

-- ---- `proxy`

module _ (name listen origin : Text) where
  proxy_listens : value_in (subcommand_of hcache (name ∷ proxy_words listen origin)) (codes "listen") ≡ Some listen
  unfolding clap_on_literals
  proxy_listens = refl

  proxy_forwards : value_in (subcommand_of hcache (name ∷ proxy_words listen origin)) (codes "origin") ≡ Some origin
  unfolding clap_on_literals
  proxy_forwards = refl

  no_record : value_in (subcommand_of hcache (name ∷ proxy_words listen origin)) (codes "record") ≡ None
  unfolding clap_on_literals
  no_record = refl

  no_terms : AsksTerms (value_in (subcommand_of hcache (name ∷ proxy_words listen origin))) plain_terms
  unfolding clap_on_literals
  no_terms = record { strict_is = refl; limit_is = refl }

  no_patience : AsksPatience (value_in (subcommand_of hcache (name ∷ proxy_words listen origin))) plain_patience
  unfolding clap_on_literals
  no_patience = record {
    idle_timeout_is = refl;
    request_timeout_is = refl;
    send_timeout_is = refl;
    queue_timeout_is = refl;
    origin_timeout_is = refl;
    origin_total_is = refl;
    abandoned_is = refl;
  }

  no_limits : AsksLimits (value_in (subcommand_of hcache (name ∷ proxy_words listen origin))) plain_limits
  unfolding clap_on_literals
  no_limits = record {
    connections_are = refl;
    origin_connections_are = refl;
    held_is = refl;
    connect_timeout_is = refl;
    drain_timeout_is = refl;
    patience_is = no_patience;
    clients_are = refl;
  }

  no_log : value_in (subcommand_of hcache (name ∷ proxy_words listen origin)) (codes "access-log") ≡ None
  unfolding clap_on_literals
  no_log = refl

  no_status : value_in (subcommand_of hcache (name ∷ proxy_words listen origin)) (codes "status") ≡ None
  unfolding clap_on_literals
  no_status = refl

  no_cookies : flag_by (value_in (subcommand_of hcache (name ∷ proxy_words listen origin)) (codes "store-set-cookie")) ≡ false
  unfolding clap_on_literals
  no_cookies = refl

  plain_proxy : AsksCache keys_proxied (value_in (subcommand_of hcache (name ∷ proxy_words listen origin))) (plain_cache keys_proxied)
  unfolding clap_on_literals
  plain_proxy = record { keys_is = refl; bytes_is = refl; name_is = refl }

  is_proxy : command_in (subcommand_of hcache (name ∷ proxy_words listen origin)) ≡ Some Proxies
  unfolding clap_on_literals
  is_proxy = refl

  no_proxy_fault : fault_of hcache (name ∷ proxy_words listen origin) ≡ []
  unfolding clap_on_literals
  no_proxy_fault = refl

pub words_of_proxy : (name listen origin : Text) → is_origin origin ≡ true
    → AreWordsFor (name ∷ proxy_words listen origin) (ToProxy (plain_proxy_task listen origin))
words_of_proxy name listen origin one = record {
  asks = (
    is_proxy name listen origin,
    record {
      listen_is = proxy_listens name listen origin;
      origin_is = proxy_forwards name listen origin;
      origin_is_one = one;
      file_is = no_record name listen origin;
      log_is = no_log name listen origin;
      status_is = no_status name listen origin;
      terms_are = no_terms name listen origin;
      limits_are = no_limits name listen origin;
      cookies_are = no_cookies name listen origin;
      settings_are = plain_proxy name listen origin;
    },
  );
  no_fault = no_proxy_fault name listen origin;
}
