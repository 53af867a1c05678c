use Rattle.std.proofs.Common.{take}
use Rattle.serde_json.specs.Data.{no_members}
use Rattle.hc_figures.specs.Entries.{with_all}
use Rattle.hc_figures.specs.Objects.{Has}
use Rattle.hc_report.specs.Made.{name_entries}
use Rattle.hc_report.proofs.made.in_order.Given as goal

-- the names so far have been put in
abbrev pub invariant-loop-name : goal.invariant-loop-name
invariant-loop-name l = Has l.ordered (with_all (take l.name-index (name_entries l.names)) no_members)
