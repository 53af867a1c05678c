use Rattle.std.proofs.Common.{sym, arith}
use Rattle.hc_head.specs.Heads.{BeginsRequestHead, request_field_count}
use Rattle.hc_head.specs.Laws.{request_unique}
use Rattle.hc_head.proofs.ReadingLemmas.{finds_head, gives_wider}
use Rattle.hc_head.proofs.RequestLemmas.{begins-append}
use Rattle.hc_head.proofs.requests.read_request.Goals as goal

pub returns-then-not-has_too_many-clause-gives : goal.returns-then-not-has_too_many-clause-gives
returns-then-not-has_too_many-clause-gives c =
    gives_wider BeginsRequestHead request_field_count c.args.bytes.now c.for_few.result c.args.room _ c.for_few.ensures.0
    (omega (arith, c.for_few.ensures.1, c.if-room-gt-FEW.true)) (sym c.if-not-has_too_many.ensures) c.read_into-answer.ensures.gives

pub returns-then-not-has_too_many-clause-found : goal.returns-then-not-has_too_many-clause-found
returns-then-not-has_too_many-clause-found c = λ head len.
    finds_head BeginsRequestHead request_field_count request_unique begins-append c.args.bytes.now c.args.room _ head len (returns-then-not-has_too_many-clause-gives c)

pub returns-clause-found : goal.returns-clause-found
returns-clause-found c = λ head len.
    finds_head BeginsRequestHead request_field_count request_unique begins-append c.args.bytes.now c.args.room _ head len c.read_into.ensures.gives
