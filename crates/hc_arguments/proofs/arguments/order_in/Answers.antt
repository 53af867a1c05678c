use Rattle.std.proofs.Common.{refl, rules}
use Rattle.clap.specs.Words.{found_of}
use Rattle.hc_arguments.specs.Tables.Command.{Audits, Reports, Explains, Shows, Replays, Serves, Proxies, Converts, Splits, Joins}
use Rattle.hc_arguments.proofs.ArgumentLemmas.{asks_in, refuses_in}
use Rattle.hc_arguments.proofs.ListenLemmas.{all_listen, none_listens}
use Rattle.hc_arguments.proofs.arguments.order_in.Goals as goal

pub returns-in-audit-clause-ok : goal.returns-in-audit-clause-ok
returns-in-audit-clause-ok c =
    asks_in c.args.matches.now c.in-Some.name.now (found_of c.in-Some.found.now) c.in-Some.ensures.name c.in-Some.ensures.rows Audits (search rules)
    c.audit_in.result c.audit_in.ensures.ok

pub returns-in-audit-clause-err : goal.returns-in-audit-clause-err
returns-in-audit-clause-err c =
    refuses_in c.args.matches.now c.in-Some.name.now (found_of c.in-Some.found.now) c.in-Some.ensures.name c.in-Some.ensures.rows Audits (search rules)
    c.audit_in.result c.audit_in.ensures.err

pub returns-in-report-clause-ok : goal.returns-in-report-clause-ok
returns-in-report-clause-ok c =
    asks_in c.args.matches.now c.in-Some.name.now (found_of c.in-Some.found.now) c.in-Some.ensures.name c.in-Some.ensures.rows Reports (search rules)
    c.report_in.result c.report_in.ensures.ok

pub returns-in-report-clause-err : goal.returns-in-report-clause-err
returns-in-report-clause-err c =
    refuses_in c.args.matches.now c.in-Some.name.now (found_of c.in-Some.found.now) c.in-Some.ensures.name c.in-Some.ensures.rows Reports (search rules)
    c.report_in.result c.report_in.ensures.err

pub returns-in-explain-clause-ok : goal.returns-in-explain-clause-ok
returns-in-explain-clause-ok c =
    asks_in c.args.matches.now c.in-Some.name.now (found_of c.in-Some.found.now) c.in-Some.ensures.name c.in-Some.ensures.rows Explains (search rules)
    c.explain_in.result c.explain_in.ensures.ok

pub returns-in-explain-clause-err : goal.returns-in-explain-clause-err
returns-in-explain-clause-err c =
    refuses_in c.args.matches.now c.in-Some.name.now (found_of c.in-Some.found.now) c.in-Some.ensures.name c.in-Some.ensures.rows Explains (search rules)
    c.explain_in.result c.explain_in.ensures.err

pub returns-in-show-clause-ok : goal.returns-in-show-clause-ok
returns-in-show-clause-ok c =
    asks_in c.args.matches.now c.in-Some.name.now (found_of c.in-Some.found.now) c.in-Some.ensures.name c.in-Some.ensures.rows Shows (search rules)
    c.show_in.result c.show_in.ensures.ok

pub returns-in-show-clause-err : goal.returns-in-show-clause-err
returns-in-show-clause-err c =
    refuses_in c.args.matches.now c.in-Some.name.now (found_of c.in-Some.found.now) c.in-Some.ensures.name c.in-Some.ensures.rows Shows (search rules)
    c.show_in.result c.show_in.ensures.err

pub returns-in-replay-clause-ok : goal.returns-in-replay-clause-ok
returns-in-replay-clause-ok c =
    asks_in c.args.matches.now c.in-Some.name.now (found_of c.in-Some.found.now) c.in-Some.ensures.name c.in-Some.ensures.rows Replays (search rules)
    c.replay_in.result c.replay_in.ensures.ok

pub returns-in-replay-clause-err : goal.returns-in-replay-clause-err
returns-in-replay-clause-err c =
    refuses_in c.args.matches.now c.in-Some.name.now (found_of c.in-Some.found.now) c.in-Some.ensures.name c.in-Some.ensures.rows Replays (search rules)
    c.replay_in.result c.replay_in.ensures.err

pub returns-in-serve-clause-ok : goal.returns-in-serve-clause-ok
returns-in-serve-clause-ok c =
    asks_in c.args.matches.now c.in-Some.name.now (found_of c.in-Some.found.now) c.in-Some.ensures.name c.in-Some.ensures.rows Serves (search rules)
    c.serve_in.result c.serve_in.ensures.ok

pub returns-in-serve-clause-err : goal.returns-in-serve-clause-err
returns-in-serve-clause-err c =
    refuses_in c.args.matches.now c.in-Some.name.now (found_of c.in-Some.found.now) c.in-Some.ensures.name c.in-Some.ensures.rows Serves (search rules)
    c.serve_in.result c.serve_in.ensures.err

pub returns-in-proxy-clause-ok : goal.returns-in-proxy-clause-ok
returns-in-proxy-clause-ok c =
    asks_in c.args.matches.now c.in-Some.name.now (found_of c.in-Some.found.now) c.in-Some.ensures.name c.in-Some.ensures.rows Proxies (search rules)
    c.proxy_in.result c.proxy_in.ensures.ok

pub returns-in-proxy-clause-err : goal.returns-in-proxy-clause-err
returns-in-proxy-clause-err c =
    refuses_in c.args.matches.now c.in-Some.name.now (found_of c.in-Some.found.now) c.in-Some.ensures.name c.in-Some.ensures.rows Proxies (search rules)
    c.proxy_in.result c.proxy_in.ensures.err

pub returns-in-convert-clause-ok : goal.returns-in-convert-clause-ok
returns-in-convert-clause-ok c =
    asks_in c.args.matches.now c.in-Some.name.now (found_of c.in-Some.found.now) c.in-Some.ensures.name c.in-Some.ensures.rows Converts (search rules)
    c.convert_in.result c.convert_in.ensures.ok

pub returns-in-convert-clause-err : goal.returns-in-convert-clause-err
returns-in-convert-clause-err c =
    refuses_in c.args.matches.now c.in-Some.name.now (found_of c.in-Some.found.now) c.in-Some.ensures.name c.in-Some.ensures.rows Converts (search rules)
    c.convert_in.result c.convert_in.ensures.err

pub returns-in-split-clause-ok : goal.returns-in-split-clause-ok
returns-in-split-clause-ok c =
    asks_in c.args.matches.now c.in-Some.name.now (found_of c.in-Some.found.now) c.in-Some.ensures.name c.in-Some.ensures.rows Splits (search rules)
    c.split_in.result c.split_in.ensures.ok

pub returns-in-split-clause-err : goal.returns-in-split-clause-err
returns-in-split-clause-err c =
    refuses_in c.args.matches.now c.in-Some.name.now (found_of c.in-Some.found.now) c.in-Some.ensures.name c.in-Some.ensures.rows Splits (search rules)
    c.split_in.result c.split_in.ensures.err

pub returns-in-join-clause-ok : goal.returns-in-join-clause-ok
returns-in-join-clause-ok c =
    asks_in c.args.matches.now c.in-Some.name.now (found_of c.in-Some.found.now) c.in-Some.ensures.name c.in-Some.ensures.rows Joins (search rules)
    c.join_in.result c.join_in.ensures.ok

pub returns-in-join-clause-err : goal.returns-in-join-clause-err
returns-in-join-clause-err c =
    refuses_in c.args.matches.now c.in-Some.name.now (found_of c.in-Some.found.now) c.in-Some.ensures.name c.in-Some.ensures.rows Joins (search rules)
    c.join_in.result c.join_in.ensures.err

pub returns-in-audit-clause-all : goal.returns-in-audit-clause-all
returns-in-audit-clause-all c = none_listens Audits refl _ _ c.audit_in.result c.audit_in.ensures.ok

pub returns-in-report-clause-all : goal.returns-in-report-clause-all
returns-in-report-clause-all c = none_listens Reports refl _ _ c.report_in.result c.report_in.ensures.ok

pub returns-in-explain-clause-all : goal.returns-in-explain-clause-all
returns-in-explain-clause-all c = none_listens Explains refl _ _ c.explain_in.result c.explain_in.ensures.ok

pub returns-in-show-clause-all : goal.returns-in-show-clause-all
returns-in-show-clause-all c = none_listens Shows refl _ _ c.show_in.result c.show_in.ensures.ok

pub returns-in-replay-clause-all : goal.returns-in-replay-clause-all
returns-in-replay-clause-all c = none_listens Replays refl _ _ c.replay_in.result c.replay_in.ensures.ok

pub returns-in-serve-clause-all : goal.returns-in-serve-clause-all
returns-in-serve-clause-all c = none_listens Serves refl _ _ c.serve_in.result c.serve_in.ensures.ok

pub returns-in-convert-clause-all : goal.returns-in-convert-clause-all
returns-in-convert-clause-all c = none_listens Converts refl _ _ c.convert_in.result c.convert_in.ensures.ok

pub returns-in-split-clause-all : goal.returns-in-split-clause-all
returns-in-split-clause-all c = none_listens Splits refl _ _ c.split_in.result c.split_in.ensures.ok

pub returns-in-join-clause-all : goal.returns-in-join-clause-all
returns-in-join-clause-all c = none_listens Joins refl _ _ c.join_in.result c.join_in.ensures.ok

pub returns-in-proxy-clause-all : goal.returns-in-proxy-clause-all
returns-in-proxy-clause-all c =
    all_listen c.args.matches.now (found_of c.in-Some.found.now) c.in-Some.ensures.rows c.proxy_in.result c.proxy_in.ensures.all
