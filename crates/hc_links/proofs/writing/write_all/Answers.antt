use Rattle.std.proofs.Common.{arith, ◌++◌, length, take, drop, ◌∙◌, ap, sym, append_assoc}
use Rattle.std.proofs.Math.Seq.{take-add}
use Rattle.std.proofs.lemmas.List.{take-append-drop, length-drop}
use Rattle.std.proofs.lemmas.Result.{err_from_is_err_and}
use Rattle.hc_links.proofs.writing.write_all.Goals as goal

pub returns-in_err-at-clause-got : goal.returns-in_err-at-clause-got
returns-in_err-at-clause-got g c =
    let p = err_from_is_err_and c.from_residual.result c.from_residual.ensures.1 in
    rw p.1 (λ got had. (
      take c.pieces.at c.args.octets.now,
      (drop c.pieces.at c.args.octets.now, sym (take-append-drop c.pieces.at c.args.octets.now)),
      c.in_err-at.ensures.got _ (c.pieces.invariant.got got had),
    ))

pub pieces-preserved : goal.pieces-preserved
pieces-preserved g c =
    let n = c.in_ok-at.field-0 in
    let xs = c.args.octets.now in
    let short = c.in_ok-at.ensures.got.0 in
    let few = c.pieces.invariant.few in
    let bound = c.pieces.invariant.bound in record {
      bound = omega (arith, short, bound, ap length c.split_at.ensures.back, length-drop c.pieces.at xs);
      few = rw c.in_ok-at.ensures.count few;
      count = c.in_ok-at.ensures.count ∙ c.pieces.invariant.count;
      given = λ given had. c.in_ok-at.ensures.given given (c.pieces.invariant.given given had);
      reads = λ times had. c.in_ok-at.ensures.reads times (c.pieces.invariant.reads times had);
      kept = λ kept had. c.in_ok-at.ensures.kept kept (c.pieces.invariant.kept kept had);
      got = λ got had.
          rw (take-add c.pieces.at n xs, sym c.split_at.ensures.back, sym (append_assoc got (take c.pieces.at xs) (take n c.split_at.result.1.now)))
          (c.in_ok-at.ensures.got.2 (got ++ take c.pieces.at xs) (c.pieces.invariant.got got had));
    }
