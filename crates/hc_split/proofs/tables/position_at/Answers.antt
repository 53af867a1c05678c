use Rattle.std.proofs.Common.{◌≡◌, ◌<◌, ◌-◌, ℕ, List, Some, subst, arith}
use Rattle.std.specs.Prelude.{slice_get}
use Rattle.hc_transcript.specs.Lines.{Writes}
use Rattle.hc_split.specs.Tables.{IsLineAnd}
use Rattle.hc_split.proofs.TableLemmas.{if_some, line_says}
use Rattle.hc_split.proofs.tables.position_at.Goals as goal

pub returns : goal.returns
returns c = λ positions few is.
    let rest = c.in_ok-behind_lines.ensures positions few is in
    let line = c.in_ok-line.line.now in
    let behind = c.in_ok-line.field-0-1.now in
    let first = subst (λ (t : List ℕ). IsLineAnd t line behind) rest c.in_ok-line.ensures in
    let before = c.in_ok-before.ensures in
    if_some c.numeral.result (Writes line) (λ n. (0 < c.args.place) × (slice_get positions (c.args.place - 1) ≡ Some n))
    (λ n writes. (
      omega (arith, before.0),
      subst (λ (i : ℕ). slice_get positions i ≡ Some n) before.1 (line_says positions c.in_ok-before.before line behind n few first writes),
    )) c.numeral.ensures.found
