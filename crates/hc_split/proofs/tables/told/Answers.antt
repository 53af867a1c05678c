use Rattle.std.proofs.Common.{◌≡◌, ◌+◌, ◌-◌, ◌∙◌, ℕ, ap, arith}
use Rattle.hc_parts.specs.Parts.{position_in}
use Rattle.hc_split.specs.Splitting.{positions_in}
use Rattle.hc_split.proofs.TableLemmas.{positions_few, tells_position}
use Rattle.hc_split.proofs.tables.told.Goals as goal

pub returns-in-Some : goal.returns-in-Some
returns-in-Some c = λ part format settings records h k few table-is verdict.
    let place = c.in-No.place in
    let tells = c.in-Some.ensures (positions_in part k h) (positions_few part k h few) table-is in
    let back : place - 1 + 1 ≡ place = omega (arith, tells.0) in
    record {
      place = place;
      verdict = rw c.in-No.is at verdict;
      position_is = tells_position part k (place - 1) c.in-Some.position h tells.1 ∙ ap (λ (n : ℕ). position_in part k n h) back;
    }
