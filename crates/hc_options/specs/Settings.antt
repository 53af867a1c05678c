-- The settings by which a command judges, as its values ask for them.
use Rattle.std.specs.Prelude.{◌≡◌, [], Option, Some, codes}
use Rattle.clap.specs.Words.{Text}
use Rattle.hc_history.specs.Allowed.{nothing_allowed}
use Rattle.hc_history.specs.declared.settings.Settings.{Settings}
use Rattle.hc_history.specs.declared.settings.UnmarkedReplies.TheVariants.{Allow}
use Rattle.hc_options.specs.Allowing.{AsksAllowed}
use Rattle.hc_options.specs.Values.{count_or_zero, ignored_by, unmarked_by}

-- the values, by their names, ask to judge by those settings
pub record AsksSettings (value : Text → Option Text) (settings : Settings) : Type 0 where
  pub slack_is : count_or_zero (value (codes "slack")) ≡ Some settings.slack
  pub ignored_is : ignored_by (value (codes "ignore")) ≡ Some settings.ignored
  pub unmarked_is : unmarked_by (value (codes "errors-only")) ≡ settings.unmarked
  pub allowed_are : AsksAllowed value settings.allowed

-- without options: no slack, nothing ignored, every reply may be unmarked, and nothing is allowed beside the strict rules
abbrev pub plain : Settings
plain = record { slack = 0; ignored = []; unmarked = Allow; allowed = nothing_allowed }
