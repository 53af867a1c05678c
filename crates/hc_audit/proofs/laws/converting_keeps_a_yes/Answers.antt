use Rattle.hc_audit.proofs.ConversionLemmas.{converted_right}
use Rattle.hc_audit.proofs.laws.converting_keeps_a_yes.Goals as goal

pub returns : goal.returns
returns c = λ octets text settings counts none. converted_right octets text settings none counts
