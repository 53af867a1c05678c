use Rattle.std.proofs.Common.{map, take}
use Rattle.hc_figures.specs.Objects.{Holds}
use Rattle.hc_figures.specs.Json.{listed_data}
use Rattle.hc_figures.proofs.json.listed_json.Given as goal

-- it holds those so far
abbrev pub invariant-loop-wrong : goal.invariant-loop-wrong
invariant-loop-wrong l = Holds l.listed (map listed_data (take l.wrong-index l.wrongs))
