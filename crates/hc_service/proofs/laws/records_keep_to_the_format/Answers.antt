use Rattle.hc_service.proofs.RecordLemmas.{ask_counted, send_counted, response_counted, failure_counted, reply_counted}
use Rattle.hc_service.proofs.laws.records_keep_to_the_format.Goals as goal

pub returns-clause-ask : goal.returns-clause-ask
returns-clause-ask c = ask_counted

pub returns-clause-send : goal.returns-clause-send
returns-clause-send c = send_counted

pub returns-clause-response : goal.returns-clause-response
returns-clause-response c = response_counted

pub returns-clause-failure : goal.returns-clause-failure
returns-clause-failure c = failure_counted

pub returns-clause-reply : goal.returns-clause-reply
returns-clause-reply c = reply_counted
