use Rattle.hc_head.proofs.PlainLemmas.{age_plain, cache_status_plain, connection_plain, date_plain, host_plain, if_modified_since_plain, if_none_match_plain, via_plain}
use Rattle.hc_head.proofs.plain.plain_names.Goals as goal

pub returns-clause-age : goal.returns-clause-age
returns-clause-age c = age_plain

pub returns-clause-cache_status : goal.returns-clause-cache_status
returns-clause-cache_status c = cache_status_plain

pub returns-clause-connection : goal.returns-clause-connection
returns-clause-connection c = connection_plain

pub returns-clause-date : goal.returns-clause-date
returns-clause-date c = date_plain

pub returns-clause-host : goal.returns-clause-host
returns-clause-host c = host_plain

pub returns-clause-if_modified_since : goal.returns-clause-if_modified_since
returns-clause-if_modified_since c = if_modified_since_plain

pub returns-clause-if_none_match : goal.returns-clause-if_none_match
returns-clause-if_none_match c = if_none_match_plain

pub returns-clause-via : goal.returns-clause-via
returns-clause-via c = via_plain
