use Rattle.std.proofs.Common.{◌≡◌, ◌+◌, ℕ, List, drop, subst, ap, arith, refl, ◌∙◌}
use Rattle.hc_split.specs.Splitting.{table_text}
use Rattle.hc_split.specs.Tables.{IsLineAnd}
use Rattle.hc_split.proofs.TableLemmas.{next_line}
use Rattle.hc_split.proofs.tables.behind_lines.Goals as goal

pub loop-at-preserved : goal.loop-at-preserved
loop-at-preserved c = λ positions few is.
    let line = c.in_ok-behind.field-0-0.now in
    let behind = c.in_ok-behind.behind.now in
    next_line positions c.loop-at.at (c.loop-at.at + 1) line behind refl few (subst (λ (t : List ℕ). IsLineAnd t line behind) (c.loop-at.invariant positions few is) c.in_ok-behind.ensures)

pub returns : goal.returns
returns c = λ positions few is.
    let all : c.loop-at.at ≡ c.args.count = omega (arith, c.loop-at-test.false, c.loop-at.auto.at-end) in
    c.loop-at.invariant positions few is ∙ ap (λ (n : ℕ). table_text (drop n positions)) all
