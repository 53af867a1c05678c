use Rattle.std.proofs.Common.{sym, refl, ◌∙◌}
use Rattle.hc_framing.proofs.TrailerLemmas.{long_return_breaks, return_taken, return_room}
use Rattle.hc_framing.proofs.trailer.TrailerReader.take_return.Goals as goal

pub returns-then-not-may_return : goal.returns-then-not-may_return
returns-then-not-may_return c = λ octets agrees.
    long_return_breaks c.args.self.now octets agrees c.requires (sym c.may_return.ensures ∙ c.if-not-may_return.true)

pub returns : goal.returns
returns c = λ octets agrees.
    return_taken c.args.self.now _ octets agrees c.requires (return_room c.args.self.now (sym c.may_return.ensures ∙ c.if-not-may_return.false)) refl refl refl refl
