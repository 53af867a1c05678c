use Rattle.std.proofs.Common.{◌≡◌, rules}
use Rattle.hc_access.specs.Lines.{front_text}
use Rattle.hc_access.proofs.LineLemmas.{front_has_ten}
use Rattle.hc_access.proofs.line.front_of.Goals as goal

pub returns-clause-quotes : goal.returns-clause-quotes
returns-clause-quotes c =
    let text : c.push_front.new.out.items ≡ front_text c.args.client.now c.args.time.now c.args.asked.now c.args.replied = search rules in
    let asked = c.args.asked.now in
    rw text (front_has_ten c.args.client.now c.args.time.now asked c.args.replied
    (record { printable = asked.line_printable; quotes = asked.line_quotes }) (record { printable = asked.beside_printable; quotes = asked.beside_quotes }) (search rules))
