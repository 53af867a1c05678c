use Rattle.hc_framing.proofs.ReaderLemmas.{feeds_body, body_shows}
use Rattle.hc_framing.proofs.reader.MessageReader.advance.Goals as goal

pub returns-in-Body-clause-gives : goal.returns-in-Body-clause-gives
returns-in-Body-clause-gives g c = λ kind room octets agrees.
    feeds_body g.H.MessageHead.form g.met.H.MessageHead.laws
    kind c.args.self.now c.feed_body.new.self octets c.args.piece.now room c.feed_body.result c.in-Body.is agrees c.feed_body.ensures.gives

pub returns-in-Body-clause-head : goal.returns-in-Body-clause-head
returns-in-Body-clause-head g c =
    body_shows g.H.MessageHead.form g.met.H.MessageHead.laws c.args.self.now c.feed_body.new.self c.args.piece.now c.feed_body.result c.in-Body.is c.feed_body.ensures.gives
