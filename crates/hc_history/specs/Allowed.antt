-- What an audit allows beside its strict rules.
use Rattle.std.specs.Prelude.{◌≡◌, ℕ, ◌≤◌, Bool, true, false, List, [], Option, Some, None}
use Rattle.std.specs.List.{list_any}
use Rattle.std.specs.Str.{bytes_eq, str_eq_ignore_ascii_case}
use Rattle.hc_history.specs.declared.allowed.Allowed.{Allowed}
use Rattle.hc_history.specs.declared.settings.Settings.{Settings}
use Rattle.hc_history.specs.declared.settings.UnmarkedReplies.{UnmarkedReplies}
use Rattle.hc_history.specs.declared.settings.UnmarkedReplies.TheVariants.{Allow, ErrorsOnly}

-- nothing, but that marks are inferred if that is asked for
abbrev pub nothing_but_marks : Bool → Allowed
nothing_but_marks inferred = record {
  added_fields = false;
  joined_lines = false;
  ranges = false;
  default_lifetime = None;
  grace = None;
  normalized = [];
  inferred_marks = inferred;
  age_slack = 0;
}

-- nothing, so that each rule is the strict one
abbrev pub nothing_allowed : Allowed
nothing_allowed = nothing_but_marks false

-- whether one of the names is that member of a list, in any case
abbrev pub is_named : List (List ℕ) → List ℕ → Bool
is_named names member = list_any (λ name. str_eq_ignore_ascii_case member name) names

-- ---- who allows more

-- the seconds of the one setting are at most those of the other; a setting that isn't there allows less than one of 0 seconds
abbrev pub SecondsAtMost : Option ℕ → Option ℕ → Type 0
SecondsAtMost None more = Unit {0}
SecondsAtMost (Some seconds) None = ⊥
SecondsAtMost (Some seconds) (Some more) = seconds ≤ more

-- the one allows what the other allows, for as many seconds at least, and infers marks where the other does
pub record AllowsMore (more less : Allowed) : Type 0 where
  pub added_fields : less.added_fields ≡ true → more.added_fields ≡ true
  pub joined_lines : less.joined_lines ≡ true → more.joined_lines ≡ true
  pub ranges : less.ranges ≡ true → more.ranges ≡ true
  pub default_lifetime : SecondsAtMost less.default_lifetime more.default_lifetime
  pub grace : SecondsAtMost less.grace more.grace
  pub normalized : (member : List ℕ) → is_named less.normalized member ≡ true → is_named more.normalized member ≡ true
  pub inferred_marks : more.inferred_marks ≡ less.inferred_marks
  pub age_slack : less.age_slack ≤ more.age_slack

-- no reply may be unmarked by the one that may not by the other
abbrev pub UnmarkedAtMost : UnmarkedReplies → UnmarkedReplies → Type 0
UnmarkedAtMost ErrorsOnly more = Unit {0}
UnmarkedAtMost Allow ErrorsOnly = ⊥
UnmarkedAtMost Allow Allow = Unit {0}

-- one audit lets pass what the other lets pass: it has as much slack at least, ignores what the other ignores, lets as many replies be unmarked, and allows
-- more beside the strict rules
pub record LetsPassMore (more less : Settings) : Type 0 where
  pub slack : less.slack ≤ more.slack
  pub ignored : (name : List ℕ) → list_any (λ known. bytes_eq known name) less.ignored ≡ true → list_any (λ known. bytes_eq known name) more.ignored ≡ true
  pub unmarked : UnmarkedAtMost less.unmarked more.unmarked
  pub allowed : AllowsMore more.allowed less.allowed
