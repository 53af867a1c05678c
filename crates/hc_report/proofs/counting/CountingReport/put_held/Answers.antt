use Rattle.std.proofs.Common.{◌≡◌, ◌-◌, ap, arith, length, option_map}
use Rattle.std.proofs.lemmas.Grind.{common_steps}
use Rattle.hc_report.specs.Held.{known_in}
use Rattle.hc_report.proofs.JsonLemmas.{counting_value, held_by, held_by_none, held_leaves, leaves_none, says_held, some_value}
use Rattle.hc_report.proofs.counting.CountingReport.put_held.Goals as goal

pub returns-in_default : goal.returns-in_default
returns-in_default c = λ all has. (all, has, leaves_none all, held_by_none _ c.args.self.now all (ap (option_map (λ b. b.now)) c.in_default.is))

pub returns : goal.returns
returns c = λ all has.
    let self = c.args.self.now in
    let baseline = c.in-Some.baseline.now in
    let many : c.saturating_sub-new.result ≡ length self.wrongs.items - known_in baseline self.tally = grind (arith, common_steps) in
    let new = counting_value c.new_json.result _ c.new_json.ensures.nests c.new_json.ensures.count in
    let gone = counting_value c.new_json-2.result _ c.new_json-2.ensures.nests c.new_json-2.ensures.count in
    let other = some_value c.other_json.result 3 (c.other_json.ensures 3) in
    let first = c.put.ensures.has new.0 new.1 _ (c.number.ensures.has all has) in
    let second = c.put-3.ensures.has gone.0 gone.1 _ (c.put-2.ensures.has other.0 other.1 _ first) in (
      _,
      second,
      held_leaves _ new.0 other.0 gone.0 all new.3 other.2 gone.3,
      held_by _ baseline self _ (ap (option_map (λ b. b.now)) c.in-Some.is) (says_held baseline self _ _ _ new.0 other.0 gone.0 all c.known-known.ensures many c.gone-gone.ensures.counts new.2 gone.2),
    )
