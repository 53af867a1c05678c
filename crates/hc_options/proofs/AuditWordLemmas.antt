-- The words of the program that only audits.
use Rattle.std.proofs.Common.{◌≡◌, ◌∙◌, List, [], ◌∷◌, Option, Some, inl, inr, refl, rules, sym, subst, true, codes}
use Rattle.std.specs.Prelude.{Result, Ok, Err, IfOk, IfErr, MatchResult}
use Rattle.clap.specs.Words.{HasKind, Kinds, Text, fault_of, is_simple, is_simple_and_free, kind_of, subcommand_of}
use Rattle.clap.specs.declared.error.Error.{Error}
use Rattle.clap.specs.declared.error.ErrorKind.TheVariants.{OutOfMemory}
use Rattle.clap.proofs.OnLiterals.{clap_on_literals}
use Rattle.hc_history.specs.declared.allowed.Allowed.{Allowed}
use Rattle.hc_history.specs.declared.settings.Settings.{Settings}
use Rattle.hc_options.specs.declared.auditing.AuditOrder.{AuditOrder}
use Rattle.hc_options.specs.declared.auditing.AuditTerms.{AuditTerms}
use Rattle.hc_options.specs.declared.auditing.Minimums.{Minimums}
use Rattle.hc_options.specs.Allowing.{AsksAllowed, allow_by, normalized_by}
use Rattle.hc_options.specs.Auditing.{AreRefused, AsksAuditTerms, AsksMinimums, AsksToAudit, no_minimums, plain_audit}
use Rattle.hc_options.specs.Commands.{IsWord, auditing, value_in}
use Rattle.hc_options.specs.Rows.{audit_entries, is_taken}
use Rattle.hc_options.specs.Settings.{AsksSettings, plain}
use Rattle.hc_options.specs.Values.{count_by, count_or_zero, ignored_by}
use Rattle.hc_options.proofs.FaultLemmas.{audit_fine, is_taken_judges, none_refused}
use Rattle.hc_options.proofs.ParseLemmas.{IsNoFlag, no_flag}

-- the command is one of which a parse is known exactly
pub auditing_is_simple : is_simple_and_free auditing ≡ true
unfolding clap_on_literals
auditing_is_simple = refl

pub auditing_is_plain : is_simple auditing ≡ true
unfolding clap_on_literals
auditing_is_plain = refl

-- ---- values ask for one thing

pub one_some : {A : Type 0} (o : Option A) (a b : A) → o ≡ Some a → o ≡ Some b → a ≡ b
one_some o a b one other = let same : Some a ≡ Some b = sym one ∙ other in search rules

one_allowed : (value : Text → Option Text) (one other : Allowed) → AsksAllowed value one → AsksAllowed value other → one ≡ other
one_allowed value one other a b =
    let words = one_some (allow_by (value (codes "allow"))) _ _ a.words_are b.words_are in
    let lifetime = one_some (count_by (value (codes "default-ttl"))) _ _ a.default_lifetime_is b.default_lifetime_is in
    let grace = one_some (count_by (value (codes "grace"))) _ _ a.grace_is b.grace_is in
    let names = one_some (normalized_by (value (codes "normalized"))) _ _ a.normalized_is b.normalized_is in
    let marks = sym a.inferred_marks_is ∙ b.inferred_marks_is in
    let age = one_some (count_or_zero (value (codes "age-slack"))) _ _ a.age_slack_is b.age_slack_is in
    λ i. record {
      added_fields = (words i).added_fields;
      joined_lines = (words i).joined_lines;
      ranges = (words i).ranges;
      default_lifetime = lifetime i;
      grace = grace i;
      normalized = names i;
      inferred_marks = marks i;
      age_slack = age i;
    }

one_settings : (value : Text → Option Text) (one other : Settings) → AsksSettings value one → AsksSettings value other → one ≡ other
one_settings value one other a b =
    let slack = one_some (count_or_zero (value (codes "slack"))) _ _ a.slack_is b.slack_is in
    let names = one_some (ignored_by (value (codes "ignore"))) _ _ a.ignored_is b.ignored_is in
    let unmarked = sym a.unmarked_is ∙ b.unmarked_is in
    let allowed = one_allowed value one.allowed other.allowed a.allowed_are b.allowed_are in
    λ i. record { slack = slack i; ignored = names i; unmarked = unmarked i; allowed = allowed i }

one_minimums : (value : Text → Option Text) (one other : Minimums) → AsksMinimums value one → AsksMinimums value other → one ≡ other
one_minimums value one other a b =
    let hits = one_some (count_or_zero (value (codes "min-hits"))) _ _ a.hits_are b.hits_are in
    let judged = one_some (count_or_zero (value (codes "min-judged"))) _ _ a.judged_are b.judged_are in
    λ i. record { hits = hits i; judged = judged i }

pub one_audit : (value : Text → Option Text) (one other : AuditTerms) → AsksAuditTerms value one → AsksAuditTerms value other → one ≡ other
one_audit value one other a b =
    let settings = one_settings value one.settings other.settings a.settings_are b.settings_are in
    let minimums = one_minimums value one.minimums other.minimums a.minimums_are b.minimums_are in
    λ i. record { settings = settings i; minimums = minimums i }

-- ---- what is asked isn't refused

pub refused_for_memory : (words : List Text) (file : Text) (asked : AuditTerms) (e : Error) → fault_of auditing words ≡ [] → AsksToAudit words file asked
    → AreRefused words e → kind_of e ≡ OutOfMemory
refused_for_memory words file asked e none asks refused = elim refused [
  | inl has ↦ elim (subst (λ (kinds : Kinds). HasKind kinds e) none has) [
    | inl memory ↦ memory
    | inr among ↦ absurd among
  ]
  | inr outside ↦ absurd (none_refused is_taken (value_in (subcommand_of auditing words)) audit_entries outside.refusal (kind_of e)
      (audit_fine is_taken is_taken_judges (value_in (subcommand_of auditing words)) file asked asks) outside.refuses outside.kind_is)
]

-- ---- `audit FILE`

module _ (name file : Text) (h : IsNoFlag file) where
  audit_settings : AsksSettings (value_in (subcommand_of auditing (name ∷ codes "audit" ∷ file ∷ []))) plain
  unfolding clap_on_literals
  audit_settings = rw (h.dashes, h.long, h.short) (record {
    slack_is = refl;
    ignored_is = refl;
    unmarked_is = refl;
    allowed_are = record {
      words_are = refl;
      default_lifetime_is = refl;
      grace_is = refl;
      normalized_is = refl;
      age_slack_is = refl;
      inferred_marks_is = refl;
    };
  })

  audit_minimums : AsksMinimums (value_in (subcommand_of auditing (name ∷ codes "audit" ∷ file ∷ []))) no_minimums
  unfolding clap_on_literals
  audit_minimums = rw (h.dashes, h.long, h.short) (record { hits_are = refl; judged_are = refl })

  audited_file : value_in (subcommand_of auditing (name ∷ codes "audit" ∷ file ∷ [])) (codes "FILE") ≡ Some file
  unfolding clap_on_literals
  audited_file = rw (h.dashes, h.long, h.short) refl

  no_audit_fault : fault_of auditing (name ∷ codes "audit" ∷ file ∷ []) ≡ []
  unfolding clap_on_literals
  no_audit_fault = rw (h.dashes, h.long, h.short) refl

  plain_audit_asked : AsksToAudit (name ∷ codes "audit" ∷ file ∷ []) file plain_audit
  plain_audit_asked = record { file_is = audited_file; terms_are = record { settings_are = audit_settings; minimums_are = audit_minimums } }

-- these words ask that, or fail for want of memory alone
given_at : (words : List Text) (name file : Text) → IsNoFlag file → words ≡ name ∷ codes "audit" ∷ file ∷ [] → (got : Text) (terms : AuditTerms)
    → AsksToAudit words got terms → (got ≡ file) × (terms ≡ plain_audit)
given_at words name file h same got terms asked =
    let plainly = plain_audit_asked name file h in
    let here : AsksToAudit (name ∷ codes "audit" ∷ file ∷ []) got terms = subst (λ w. AsksToAudit w got terms) same asked in
    (one_some _ got file here.file_is plainly.file_is, one_audit _ terms plain_audit here.terms_are plainly.terms_are)

refused_at : (words : List Text) (name file : Text) → IsNoFlag file → words ≡ name ∷ codes "audit" ∷ file ∷ [] → (e : Error) → AreRefused words e
    → kind_of e ≡ OutOfMemory
refused_at words name file h same e refused =
    refused_for_memory (name ∷ codes "audit" ∷ file ∷ []) file plain_audit e (no_audit_fault name file h) (plain_audit_asked name file h)
    (subst (λ w. AreRefused w e) same refused)

pub audit_words : (words : List Text) (name file : Text) → IsWord file → words ≡ name ∷ codes "audit" ∷ file ∷ [] → (result : Result AuditOrder Error)
    → IfOk result (λ order. AsksToAudit words order.file.now order.terms) → IfErr result (AreRefused words)
    → MatchResult result (λ order. (order.file.now ≡ file) × (order.terms ≡ plain_audit)) (λ e. kind_of e ≡ OutOfMemory)
audit_words words name file word same (Ok order) asked refused = given_at words name file (no_flag file word) same order.file.now order.terms asked
audit_words words name file word same (Err e) asked refused = refused_at words name file (no_flag file word) same e refused
