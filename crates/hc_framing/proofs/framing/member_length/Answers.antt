use Rattle.hc_framing.proofs.FramingLemmas.{member_exact}
use Rattle.hc_framing.proofs.framing.member_length.Goals as goal

pub returns : goal.returns
returns c = member_exact c.args.member.now c.trimmed-digits.result.now _ c.trimmed-digits.ensures c.if-digits-gt-MOST_DIGITS.false c.decimal.ensures
