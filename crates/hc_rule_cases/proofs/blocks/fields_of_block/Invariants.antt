use Rattle.std.proofs.Common.{length}
use Rattle.hc_rule_cases.proofs.blocks.fields_of_block.Given as goal

abbrev pub decreases-lines : goal.decreases-lines
decreases-lines l = length l.rest
