use Rattle.std.proofs.Common.{rules, ◌≡◌, ◌++◌, true, is_ok}
use Rattle.std.proofs.lemmas.Bool.{cond_both}
use Rattle.hc_access.specs.Values.{are_lines, end_text}
use Rattle.hc_access.proofs.LineLemmas.{one_line_more}
use Rattle.hc_access.proofs.lines.Lines.add.Goals as goal

pub invariant_of-self : goal.invariant_of-self
invariant_of-self c =
    let line : c.as_slice.result.now ≡ c.args.front.items ++ end_text c.args.milliseconds = search rules in
    let more : are_lines (c.args.self.now.octets.items ++ (c.args.front.items ++ end_text c.args.milliseconds)) ≡ true =
    one_line_more c.args.self.now.octets.items c.args.front.items c.args.milliseconds c.args.self.now.whole c.requires.front c.ranges.milliseconds.fits in
    record {
      whole = rw c.extend_from_slice.ensures.items (cond_both (is_ok c.extend_from_slice.result) _ _ (λ octets. are_lines octets ≡ true) (λ _. rw line more) (λ _. c.args.self.now.whole));
    }
