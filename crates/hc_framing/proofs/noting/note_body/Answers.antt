use Rattle.std.proofs.Common.{◌∙◌, sym, arith, drop, length-drop}
use Rattle.hc_framing.proofs.NotingLemmas.{before_octets}
use Rattle.hc_framing.proofs.noting.note_body.Goals as goal

pub returns-then-from-octets-clause-gives : goal.returns-then-from-octets-clause-gives
returns-then-from-octets-clause-gives c =
    before_octets c.args.framing (drop c.args.from c.args.octets.now) (sym c.has_octets.ensures ∙ c.if-has_octets.false)
    (omega (arith, c.if-from-octets.true, length-drop c.args.from c.args.octets.now))
