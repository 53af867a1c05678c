-- Values that a command takes, and those that it refuses.
use Rattle.std.proofs.Common.{◌≡◌, ◌∙◌, ◌++◌, List, [], ◌∷◌, Option, None, Some, ap, cond, inl, inr, refl, sym, subst, true, false, Bool, codes, is_some, option_map}
use Rattle.std.specs.Option.{option_map_or}
use Rattle.std.specs.Prelude.{⊤, Result, Ok, Err, IfOk, IfErr}
use Rattle.clap.specs.Words.{Text}
use Rattle.clap.specs.declared.error.ErrorKind.{ErrorKind}
use Rattle.hc_history.specs.declared.settings.Settings.{Settings}
use Rattle.hc_options.specs.declared.auditing.AuditTerms.{AuditTerms}
use Rattle.hc_options.specs.declared.auditing.Minimums.{Minimums}
use Rattle.hc_options.specs.declared.refusal.Refusal.{Refusal}
use Rattle.hc_options.specs.declared.refusal.Refusal.TheVariants.{Memory, Missing, Value}
use Rattle.hc_options.specs.declared.rows.Takes.{Takes}
use Rattle.hc_options.specs.declared.rows.Takes.TheVariants.{AnyText, Count, AllowedWords, Names, VaryNames}
use Rattle.hc_options.specs.Allowing.{allow_by, normalized_by, normalized_of, words_of}
use Rattle.hc_options.specs.Auditing.{AsksAudit, AsksAuditTerms, AsksMinimums}
use Rattle.hc_options.specs.Refusals.{Refuses, refused_kind}
use Rattle.hc_options.specs.Rows.{Entry, IsAmong, audit_entries, counting, entry_of, is_taken, judging, terms}
use Rattle.hc_options.specs.Settings.{AsksSettings}
use Rattle.hc_options.specs.Values.{count_by, count_of, count_or_zero, ignored_by, names_of}

-- ---- all values are fine

-- a value that is given is taken, and one that isn't may be left out
abbrev pub is_fine : (Takes → Text → Bool) → (Text → Option Text) → Entry → Bool
is_fine taken value entry = option_map_or (λ text. taken entry.takes text) (value entry.name) (cond entry.required false true)

abbrev pub AreFine : (Takes → Text → Bool) → (Text → Option Text) → List Entry → Type 0
AreFine taken value [] = ⊤
AreFine taken value (first ∷ rest) = (is_fine taken value first ≡ true) × AreFine taken value rest

pub appended : (taken : Takes → Text → Bool) (value : Text → Option Text) (some more : List Entry) → AreFine taken value some → AreFine taken value more
    → AreFine taken value (some ++ more)
appended taken value [] more fine others = others
appended taken value (first ∷ rest) more fine others = (fine.0, appended taken value rest more fine.1 others)

fine_among : (taken : Takes → Text → Bool) (value : Text → Option Text) (entries : List Entry) (entry : Entry) → AreFine taken value entries
    → IsAmong entry entries → is_fine taken value entry ≡ true
fine_among taken value [] entry fine among = absurd among
fine_among taken value (first ∷ rest) entry fine (inl same) = ap (is_fine taken value) same ∙ fine.0
fine_among taken value (first ∷ rest) entry fine (inr among) = fine_among taken value rest entry fine.1 among

missing_is_not_fine : (f : Text → Bool) (o : Option Text) (required : Bool) → required ≡ true → o ≡ None
    → option_map_or f o (cond required false true) ≡ true → ⊥
missing_is_not_fine f None true is none fine = cc
missing_is_not_fine f None false is none fine = cc
missing_is_not_fine f (Some text) required is none fine = cc

refused_is_not_fine : (f : Text → Bool) (o : Option Text) (other : Bool) → option_map f o ≡ Some false → option_map_or f o other ≡ true → ⊥
refused_is_not_fine f None other refused fine = cc
refused_is_not_fine f (Some text) other refused fine = cc

-- and then nothing is refused but for want of memory
pub none_refused : (taken : Takes → Text → Bool) (value : Text → Option Text) (entries : List Entry) (refusal : Refusal) (kind : ErrorKind)
    → AreFine taken value entries → Refuses taken entries value refusal → refused_kind refusal ≡ Some kind → ⊥
none_refused taken value entries Memory kind fine refuses is = cc
none_refused taken value entries Missing kind fine refuses is =
    missing_is_not_fine (λ text. taken refuses.entry.takes text) (value refuses.entry.name) refuses.entry.required refuses.is_required refuses.is_left_out
    (fine_among taken value entries refuses.entry fine refuses.is_among)
none_refused taken value entries (Value row) kind fine refuses is =
    refused_is_not_fine (λ text. taken row.now.takes text) (value row.now.name.now) (cond row.now.required false true) refuses.is_refused
    (fine_among taken value entries (entry_of row.now) fine refuses.is_among)

-- an error is of the kind by which it was made
pub kind_told : {A B F G : Type 0} (kind_of : A → ErrorKind) (result : Result A F) (message : Result B G) (kind by : ErrorKind) (is : Option ErrorKind) → kind ≡ by
    → IfOk result (λ error. kind_of error ≡ kind) → IfOk result (λ _. IfErr message (λ _. ⊥)) → IfOk message (λ _. is ≡ Some by)
    → IfOk result (λ error. is ≡ Some (kind_of error))
kind_told kind_of (Ok error) (Ok text) kind by is same told there says = says ∙ sym (ap (λ (k : ErrorKind). Some k) (told ∙ same))
kind_told kind_of (Ok error) (Err fault) kind by is same told there says = absurd there
kind_told kind_of (Err fault) message kind by is same told there says = tt

-- ---- a value that isn't there

pub missing_at : (taken : Takes → Text → Bool) (entries : List Entry) (value : Text → Option Text) (entry : Entry) (refusal : Refusal) → IsAmong entry entries
    → entry.required ≡ true → refusal ≡ Missing → value entry.name ≡ None → Refuses taken entries value refusal
missing_at taken entries value entry refusal among required is none =
    let refuses : Refuses taken entries value Missing =
    record { entry = entry; is_among = among; is_required = required; is_left_out = none } in
    subst (λ (r : Refusal). Refuses taken entries value r) (sym is) refuses

-- ---- what is asked is taken

pub some_mapped : {A : Type 0} (o : Option A) (a : Option A) → option_map Some o ≡ Some a → is_some o ≡ true
some_mapped None a is = absurd cc
some_mapped (Some b) a is = refl

-- a way to take values that takes as ever those of commands that judge
pub record Judges (taken : Takes → Text → Bool) : Type 0 where
  pub any : (text : Text) → taken AnyText text ≡ true
  pub count : (text : Text) → taken Count text ≡ is_some (count_of text)
  pub words : (text : Text) → taken AllowedWords text ≡ is_some (words_of text)
  pub names : (text : Text) → taken Names text ≡ is_some (names_of text)
  pub vary : (text : Text) → taken VaryNames text ≡ is_some (normalized_of text)

module _ (taken : Takes → Text → Bool) (judges : Judges taken) where
  pub any_fine : (o : Option Text) → option_map_or (λ text. taken AnyText text) o true ≡ true
  any_fine None = refl
  any_fine (Some text) = judges.any text

  pub there : (o : Option Text) (text : Text) → o ≡ Some text → option_map_or (λ text. taken AnyText text) o false ≡ true
  there o text is = ap (λ (p : Option Text). option_map_or (λ text. taken AnyText text) p false) is ∙ judges.any text

  pub counted : (o : Option Text) (n : _) → count_or_zero o ≡ Some n → option_map_or (λ text. taken Count text) o true ≡ true
  counted None n is = refl
  counted (Some text) n is = judges.count text ∙ ap is_some is

  pub counted_if_given : (o : Option Text) (n : _) → count_by o ≡ Some n → option_map_or (λ text. taken Count text) o true ≡ true
  counted_if_given None n is = refl
  counted_if_given (Some text) n is = judges.count text ∙ some_mapped (count_of text) n is

  pub named : (o : Option Text) (names : List Text) → ignored_by o ≡ Some names → option_map_or (λ text. taken Names text) o true ≡ true
  named None names is = refl
  named (Some text) names is = judges.names text ∙ ap is_some is

  pub varied : (o : Option Text) (names : List Text) → normalized_by o ≡ Some names → option_map_or (λ text. taken VaryNames text) o true ≡ true
  varied None names is = refl
  varied (Some text) names is = judges.vary text ∙ ap is_some is

  pub worded : (o : Option Text) (words : _) → allow_by o ≡ Some words → option_map_or (λ text. taken AllowedWords text) o true ≡ true
  worded None words is = refl
  worded (Some text) words is = judges.words text ∙ ap is_some is

  pub settings_fine : (value : Text → Option Text) (settings : Settings) → AsksSettings value settings → AreFine taken value judging
  settings_fine value settings a = (
    counted (value (codes "slack")) _ a.slack_is,
    (
      named (value (codes "ignore")) _ a.ignored_is,
      (
        any_fine (value (codes "errors-only")),
        (
          worded (value (codes "allow")) _ a.allowed_are.words_are,
          (
            counted_if_given (value (codes "default-ttl")) _ a.allowed_are.default_lifetime_is,
            (
              counted_if_given (value (codes "grace")) _ a.allowed_are.grace_is,
              (
                varied (value (codes "normalized")) _ a.allowed_are.normalized_is,
                (
                  counted (value (codes "age-slack")) _ a.allowed_are.age_slack_is,
                  (any_fine (value (codes "infer-marks")), tt),
                ),
              ),
            ),
          ),
        ),
      ),
    ),
  )

  pub minimums_fine : (value : Text → Option Text) (minimums : Minimums) → AsksMinimums value minimums → AreFine taken value counting
  minimums_fine value minimums a =
      (counted (value (codes "min-hits")) _ a.hits_are, (counted (value (codes "min-judged")) _ a.judged_are, tt))

  pub terms_fine : (value : Text → Option Text) (asked : AuditTerms) → AsksAuditTerms value asked → AreFine taken value terms
  terms_fine value asked a =
      appended taken value judging counting (settings_fine value asked.settings a.settings_are) (minimums_fine value asked.minimums a.minimums_are)

  pub audit_fine : (value : Text → Option Text) (file : Text) (asked : AuditTerms) → AsksAudit value file asked → AreFine taken value audit_entries
  audit_fine value file asked a = (there (value (codes "FILE")) file a.file_is, terms_fine value asked a.terms_are)

pub is_taken_judges : Judges is_taken
is_taken_judges = record { any = λ text. refl; count = λ text. refl; words = λ text. refl; names = λ text. refl; vary = λ text. refl }
