-- The command line of `hcache`, as a parse sees it.
use Rattle.std.specs.Prelude.{codes}
use Rattle.clap.specs.Words.{App, with_subcommand}
use Rattle.hc_options.specs.Commands.{audit, command_with, program}
use Rattle.hc_arguments.specs.Tables.{entries_of}
use Rattle.hc_arguments.specs.Tables.Command.{Reports, Explains, Shows, Replays, Converts, Splits, Joins, Serves, Proxies}

abbrev pub report : App
report = command_with (codes "report") (entries_of Reports)

abbrev pub explain : App
explain = command_with (codes "explain") (entries_of Explains)

abbrev pub show : App
show = command_with (codes "show") (entries_of Shows)

abbrev pub replay : App
replay = command_with (codes "replay") (entries_of Replays)

abbrev pub convert : App
convert = command_with (codes "convert") (entries_of Converts)

abbrev pub split : App
split = command_with (codes "split") (entries_of Splits)

abbrev pub join : App
join = command_with (codes "join") (entries_of Joins)

abbrev pub serve : App
serve = command_with (codes "serve") (entries_of Serves)

abbrev pub proxy : App
proxy = command_with (codes "proxy") (entries_of Proxies)

-- the whole command, of its subcommands with those alone that judge
abbrev pub judges_alone : App
judges_alone = with_subcommand (with_subcommand (with_subcommand program audit.top) report.top) explain.top

abbrev pub hcache : App
hcache = with_subcommand (with_subcommand (with_subcommand (with_subcommand (with_subcommand (with_subcommand (with_subcommand judges_alone show.top) replay.top) serve.top) proxy.top) convert.top) split.top) join.top
