use Rattle.clap.specs.Words.{with_subcommand}
use Rattle.hc_arguments.specs.Commands.{convert, join, judges_alone, proxy, replay, serve, show, split}
use Rattle.hc_arguments.proofs.command.command.Goals as goal

pub returns : goal.returns
returns c =
    let with_show = with_subcommand judges_alone show.top in
    let showing = c.with_subcommand-showing.ensures judges_alone show c.judging_command-judging.ensures c.show_command.ensures in
    let with_replay = with_subcommand with_show replay.top in
    let replaying = c.with_subcommand-replaying.ensures with_show replay showing c.replay_command.ensures in
    let serving = c.with_subcommand-serving.ensures with_replay serve replaying c.serve_command.ensures in
    let with_serve = with_subcommand with_replay serve.top in
    let proxying = c.with_subcommand-proxying.ensures with_serve proxy serving c.proxy_command.ensures in
    let with_proxy = with_subcommand with_serve proxy.top in
    let converting = c.with_subcommand-converting.ensures with_proxy convert proxying c.convert_command.ensures in
    let with_convert = with_subcommand with_proxy convert.top in
    let splitting = c.with_subcommand-splitting.ensures with_convert split converting c.split_command.ensures in
    c.with_subcommand.ensures (with_subcommand with_convert split.top) join splitting c.join_command.ensures
