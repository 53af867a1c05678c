use Rattle.std.proofs.Common.{◌++◌, ◌∙◌, List, ℕ, ap}
use Rattle.std.proofs.lemmas.Result.{err_from_is_err_and}
use Rattle.hc_links.proofs.WritingLemmas.{both_written, front_written}
use Rattle.hc_links.proofs.writing.write_text.Goals as goal

pub returns-in_err-write_all-clause-got : goal.returns-in_err-write_all-clause-got
returns-in_err-write_all-clause-got g c =
    let p = err_from_is_err_and c.from_residual.result c.from_residual.ensures.1 in
    rw p.1
    (front_written (g.L.Link.has_got c.args.link.now) (g.L.Link.has_got c.write_all.new.link) c.as_slice.result.now c.parts.result.1.now c.args.text.now
    (ap (λ (front : List ℕ). front ++ c.parts.result.1.now) c.as_slice.ensures ∙ c.parts.ensures) c.in_err-write_all.ensures.got)

pub returns-clause-got : goal.returns-clause-got
returns-clause-got g c =
    both_written (g.L.Link.has_got c.args.link.now) (g.L.Link.has_got c.write_all.new.link) (g.L.Link.has_got c.write_all-2.new.link) c.write_all-2.result
    c.as_slice.result.now c.as_slice-2.result.now c.args.text.now
    (ap (λ (front : List ℕ). front ++ c.as_slice-2.result.now) c.as_slice.ensures ∙ ap (λ (rest : List ℕ). c.parts.result.0.now ++ rest) c.as_slice-2.ensures ∙ c.parts.ensures)
    c.in_ok-write_all.ensures.got c.write_all-2.ensures.got
