use Rattle.std.proofs.Common.{rules, ◌∙◌}
use Rattle.hc_shown.proofs.ShownLemmas.{written_on}
use Rattle.hc_shown.proofs.octets.push_octet.Goals as goal

pub loop-shown-preserved : goal.loop-shown-preserved
loop-shown-preserved c =
    let step = written_on _ _ _ _ _ _ c.loop-shown.invariant.printable c.in-Some.ensures.steps.1.0 c.from.ensures c.in_ok-push.ensures.bytes in
    record {
      written = step.0 ∙ c.loop-shown.invariant.written;
      printable = step.1;
      within = search rules;
    }
