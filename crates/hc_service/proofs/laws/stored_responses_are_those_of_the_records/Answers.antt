use Rattle.hc_service.proofs.SourceLemmas.{still_sources, found_sources, renewed_sources, freshened_sources, put_sources}
use Rattle.hc_service.proofs.laws.stored_responses_are_those_of_the_records.Goals as goal

pub returns-clause-other : goal.returns-clause-other
returns-clause-other c = still_sources

pub returns-clause-chosen : goal.returns-clause-chosen
returns-clause-chosen c = found_sources

pub returns-clause-renewed : goal.returns-clause-renewed
returns-clause-renewed c = λ since items number moment response forward old new is_open h renews.
    renewed_sources since items number moment response forward is_open old new h renews

pub returns-clause-freshened : goal.returns-clause-freshened
returns-clause-freshened c = λ since items number moment response forward old new is_open h may freshens.
    freshened_sources since items number moment response forward is_open old new h may freshens

pub returns-clause-put : goal.returns-clause-put
returns-clause-put c = λ since items number moment response forward old new stored is_open behind h stores.
    put_sources since items number moment response forward is_open behind old new stored h stores
