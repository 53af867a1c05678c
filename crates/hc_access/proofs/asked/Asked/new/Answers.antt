use Rattle.std.proofs.Common.{◌≡◌, ◌++◌, rules, codes}
use Rattle.hc_access.specs.Values.{HasQuotes, quoted}
use Rattle.hc_access.proofs.LineLemmas.{quoted_has_two, two_quoted_have_four}
use Rattle.hc_access.proofs.asked.Asked.new.Goals as goal

pub invariant_of-result : goal.invariant_of-result
invariant_of-result c =
    let line : c.push_quoted.new.out.items ≡ quoted c.args.line.now = search rules in
    let beside : c.push_both.new.out.items ≡ quoted c.args.referer.now ++ (codes " " ++ quoted c.args.agent.now) = search rules in
    let two : HasQuotes 2 c.push_quoted.new.out.items = rw line (quoted_has_two c.args.line.now) in
    let four : HasQuotes 4 c.push_both.new.out.items = rw beside (two_quoted_have_four c.args.referer.now c.args.agent.now) in
    record { line_printable = two.printable; line_quotes = two.quotes; beside_printable = four.printable; beside_quotes = four.quotes }
