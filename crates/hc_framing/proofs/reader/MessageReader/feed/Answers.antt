use Rattle.std.proofs.Common.{Ok, Err}
use Rattle.hc_framing.proofs.ReaderLemmas.{more_has_none, more_in_time, feed_finds, has_found, ok_shows}
use Rattle.hc_framing.proofs.reader.MessageReader.feed.Goals as goal

pub returns-in-Ok-clause-unfinished : goal.returns-in-Ok-clause-unfinished
returns-in-Ok-clause-unfinished g c = λ more kind room octets agrees.
    more_has_none g.H.MessageHead.form g.met.H.MessageHead.laws kind room c.advance.new.self octets c.args.piece.now (Ok c.in-Ok.progress) more (c.in-Ok.ensures.gives kind room octets agrees)

pub returns-in-Ok-clause-found : goal.returns-in-Ok-clause-found
returns-in-Ok-clause-found g c = λ kind room octets message len agrees begins.
    feed_finds g.H.MessageHead.form g.met.H.MessageHead.laws kind room c.advance.new.self octets c.args.piece.now (Ok c.in-Ok.progress) message len (c.in-Ok.ensures.gives kind room octets agrees) begins

pub returns-in-Ok-clause-in_time : goal.returns-in-Ok-clause-in_time
returns-in-Ok-clause-in_time g c = λ more kind room octets agrees.
    more_in_time g.H.MessageHead.form g.met.H.MessageHead.laws kind room c.advance.new.self octets c.args.piece.now (Ok c.in-Ok.progress) more (c.in-Ok.ensures.gives kind room octets agrees)

pub returns-in-Ok-clause-has : goal.returns-in-Ok-clause-has
returns-in-Ok-clause-has g c =
    has_found g.H.MessageHead.form g.met.H.MessageHead.laws c.args.self.now c.advance.new.self c.args.piece.now (Ok c.in-Ok.progress) c.requires c.in-Ok.ensures.gives c.in-Ok.ensures.failed

pub returns-in-Err-clause-found : goal.returns-in-Err-clause-found
returns-in-Err-clause-found g c = λ kind room octets message len agrees begins.
    feed_finds g.H.MessageHead.form g.met.H.MessageHead.laws kind room c.advance.new.self octets c.args.piece.now (Err c.in-Err.fault) message len (c.in-Err.ensures.gives kind room octets agrees) begins

pub returns-in-Ok-clause-head : goal.returns-in-Ok-clause-head
returns-in-Ok-clause-head g c = λ kind room octets agrees.
    ok_shows g.H.MessageHead.form g.met.H.MessageHead.laws kind room c.advance.new.self octets c.args.piece.now c.in-Ok.progress (c.in-Ok.ensures.gives kind room octets agrees)
