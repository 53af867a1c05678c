use Rattle.hc_framing.proofs.TrailerLemmas.{return_breaks}
use Rattle.hc_framing.proofs.trailer.TrailerReader.take.Goals as goal

pub returns-then-self : goal.returns-then-self
returns-then-self c = λ octets agrees. return_breaks c.args.self.now octets c.args.octet agrees c.if-self.true c.if-octet-eq10.false
