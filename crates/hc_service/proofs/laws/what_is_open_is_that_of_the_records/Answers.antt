use Rattle.std.proofs.Common.{refl}
use Rattle.hc_transcript.specs.Items.{OriginResponse, OriginFailure}
use Rattle.hc_service.proofs.AskedLemmas.{asked_alone, asked_received, asked_answered}
use Rattle.hc_service.proofs.laws.what_is_open_is_that_of_the_records.Goals as goal

pub returns-clause-alone : goal.returns-clause-alone
returns-clause-alone c = asked_alone

pub returns-clause-origin_octets : goal.returns-clause-origin_octets
returns-clause-origin_octets c = asked_received

pub returns-clause-answered : goal.returns-clause-answered
returns-clause-answered c = λ last other xs fs items k f moment response a is_open e t reply its.
    asked_answered last other xs fs items k f a (OriginResponse f moment response) is_open (λ d. refl) (λ d. refl) (λ d. refl) e t reply its

pub returns-clause-failed : goal.returns-clause-failed
returns-clause-failed c = λ last other xs fs items k f moment a is_open e t reply its.
    asked_answered last other xs fs items k f a (OriginFailure f moment) is_open (λ d. refl) (λ d. refl) (λ d. refl) e t reply its
