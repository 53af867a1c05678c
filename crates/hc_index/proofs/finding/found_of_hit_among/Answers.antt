use Rattle.hc_index.proofs.FindLemmas.{all_are_most}
use Rattle.hc_index.proofs.finding.found_of_hit_among.Goals as goal

pub returns : goal.returns
returns c = λ ttl h lives.
    c.found_of_hit.ensures ttl c.args.claim.now h (all_are_most c.args.claim.now c.args.lives.now c.in_ok-passed.passed h lives (c.in_ok-passed.ensures h lives))
