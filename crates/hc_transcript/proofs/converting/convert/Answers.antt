use Rattle.std.proofs.Common.{List, ℕ, [], ◌∷◌, rules, sym, subst}
use Rattle.hc_transcript.specs.Transcript.{Splits}
use Rattle.hc_transcript.proofs.ConvertLemmas.{fails_from, converted_more, opened_at}
use Rattle.hc_transcript.proofs.converting.convert.Goals as goal

pub loop-rest-init : goal.loop-rest-init
loop-rest-init c = (
  [],
  [],
  opened_at c.in-Some.format c.args.octets.now c.in-Some.ensures.found.0 c.split_at.result.1.now c.in-Some.ensures.found.1 (rw c.opening-2.ensures at c.split_at.ensures.back),
  c.new-standing.ensures,
  search rules,
)

pub returns-in_err-framed-clause-err : goal.returns-in_err-framed-clause-err
returns-in_err-framed-clause-err c =
    let read = c.loop-rest.invariant in
    fails_from c.args.octets.now _ c.from_residual-in_err-framed.result c.from_residual-in_err-framed.ensures.1 (c.in_err-framed.ensures.err c.args.octets.now read.0 read.1 read.2 read.3)

pub loop-rest-preserved : goal.loop-rest-preserved
loop-rest-preserved c =
    let read = c.loop-rest.invariant in
    let next = c.in_ok-framed.ensures.ok c.args.octets.now read.0 read.1 read.2 read.3 in (
      next.one ∷ read.0,
      next.item ∷ read.1,
      subst (λ (rest : List ℕ). Splits c.in-Some.format c.args.octets.now (next.one ∷ read.0) (next.item ∷ read.1) rest) (sym c.split_at-in-loop-rest.ensures.back) next.splits,
      next.stands,
      converted_more c.in-Some.format read.0 next.one c.in_ok-framed.framed.line c.in_ok-framed.framed.message.now c.loop-rest.text.items c.append_without_cause.new.text.items
          next.line_is next.message_is read.4 c.in_ok-append_without_cause.ensures,
    )
