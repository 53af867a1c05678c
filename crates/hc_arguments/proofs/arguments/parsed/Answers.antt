use Rattle.std.proofs.lemmas.Result.{IfOk-weaker}
use Rattle.hc_arguments.specs.Tasks.{task_of}
use Rattle.hc_arguments.proofs.ArgumentLemmas.{audit_words, convert_words, explain_at_words, explain_words, possible_from, replay_words, report_words, serve_words, words_give, words_of_proxy}
use Rattle.hc_arguments.proofs.arguments.parsed.Goals as goal

pub returns-clause-audit : goal.returns-clause-audit
returns-clause-audit g c = λ name file word same.
    words_give _ _ _ c.asked.result (audit_words name file word) same c.asked.ensures.asked c.asked.ensures.refused

pub returns-clause-report : goal.returns-clause-report
returns-clause-report g c = λ name file word same.
    words_give _ _ _ c.asked.result (report_words name file word) same c.asked.ensures.asked c.asked.ensures.refused

pub returns-clause-explain : goal.returns-clause-explain
returns-clause-explain g c = λ name file named same.
    words_give _ _ _ c.asked.result (explain_words name file named) same c.asked.ensures.asked c.asked.ensures.refused

pub returns-clause-explain_at : goal.returns-clause-explain_at
returns-clause-explain_at g c = λ name file number position named counts same.
    words_give _ _ _ c.asked.result (explain_at_words name file number position named counts) same c.asked.ensures.asked c.asked.ensures.refused

pub returns-clause-replay : goal.returns-clause-replay
returns-clause-replay g c = λ name file word same.
    words_give _ _ _ c.asked.result (replay_words name file word) same c.asked.ensures.asked c.asked.ensures.refused

pub returns-clause-convert : goal.returns-clause-convert
returns-clause-convert g c = λ name file word same.
    words_give _ _ _ c.asked.result (convert_words name file word) same c.asked.ensures.asked c.asked.ensures.refused

pub returns-clause-serve : goal.returns-clause-serve
returns-clause-serve g c = λ name listen origin number file connections one counts same.
    words_give _ _ _ c.asked.result (serve_words name listen origin number file connections one counts) same c.asked.ensures.asked c.asked.ensures.refused

pub returns-clause-proxy : goal.returns-clause-proxy
returns-clause-proxy g c = λ name listen origin one same.
    words_give _ _ _ c.asked.result (words_of_proxy name listen origin one) same c.asked.ensures.asked c.asked.ensures.refused

pub returns-clause-possible : goal.returns-clause-possible
returns-clause-possible g c = IfOk-weaker c.asked.result _ _ (λ order asks. possible_from _ _ (task_of order) asks) c.asked.ensures.asked
