-- What a report tells of the wrong replies.
use Rattle.std.specs.Prelude.{List}
use Rattle.hc_history.specs.declared.wrong.WrongReply.{WrongReply}
use Rattle.hc_report.specs.declared.report.Report.{Report}
use Rattle.hc_figures.specs.Listed.{AreListed}

-- how many there are, up to the greatest number, the first, and the first 1,000
abbrev pub TellsOf : Report → List WrongReply → Type 0
TellsOf report wrongs = AreListed report.wrongs wrongs
