-- Why there is no baseline.
use Rattle.std.specs.Prelude.{ℕ, List, Option, IfSome}
use Rattle.serde_json.specs.Data.{Data}
use Rattle.hc_figures.specs.Reports.{IsBaseline}
use Rattle.hc_command.specs.declared.baseline.BaselineTrouble.{BaselineTrouble}
use Rattle.hc_command.specs.declared.baseline.BaselineTrouble.TheVariants as trouble

-- it is said to be no report where what the input had, if that is known, is none
abbrev pub IsNoBaseline : BaselineTrouble → Option (List ℕ) → Type 0
IsNoBaseline trouble.NoReport input = IfSome input (λ octets. (report : Data) → ¬ IsBaseline octets report)
IsNoBaseline (trouble.Trouble why) input = Unit {0}

-- the exit status where there is no baseline: that of bad input where it is said to be no report, and else that of trouble
abbrev pub status_without : BaselineTrouble → ℕ
status_without trouble.NoReport = 64
status_without (trouble.Trouble why) = 3
