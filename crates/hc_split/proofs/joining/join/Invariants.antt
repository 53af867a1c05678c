use Rattle.std.proofs.Common.{ℕ, List}
use Rattle.hc_head.specs.declared.head.Target.{Target}
use Rattle.hc_transcript.specs.declared.format.Format.{Format}
use Rattle.hc_transcript.specs.declared.record.Record.{Record}
use Rattle.hc_transcript.specs.Items.{Item}
use Rattle.hc_history.specs.declared.settings.Settings.{Settings}
use Rattle.hc_split.specs.Joined.{AreTold, FindsLacking, JoinsFirst}
use Rattle.hc_split.proofs.joining.join.Given as goal

-- what the parts so far tell
abbrev pub invariant-loop-number : goal.invariant-loop-number
invariant-loop-number l =
    ((part : Target → ℕ) (format : Format) (settings : Settings) (records : List Record) (h : List Item) → AreTold part format settings records h l.told
    → JoinsFirst part format settings records h l.number l.so_far)
    × FindsLacking l.number l.told l.so_far
