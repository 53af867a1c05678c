use Rattle.std.proofs.Common.{sym, refl, ◌∙◌}
use Rattle.hc_framing.proofs.TrailerLemmas.{long_line_breaks, octet_taken}
use Rattle.hc_framing.proofs.trailer.TrailerReader.take_plain.Goals as goal

pub returns-then-not-has_room : goal.returns-then-not-has_room
returns-then-not-has_room c = λ octets agrees.
    long_line_breaks c.args.self.now octets c.args.octet agrees c.requires.line c.requires.no_feed c.requires.no_return (sym c.has_room.ensures ∙ c.if-not-has_room.true)

pub returns : goal.returns
returns c = λ octets agrees.
    octet_taken c.args.self.now _ octets c.args.octet agrees c.requires.line c.requires.no_feed c.requires.no_return (sym c.has_room.ensures ∙ c.if-not-has_room.false)
    refl refl refl c.in_ok-extend_from_slice.ensures.ok
