use Rattle.hc_attended.proofs.ClientLemmas.{tends_dropped}
use Rattle.hc_attended.proofs.KeepingLemmas.{keeps_then}
use Rattle.hc_attended.proofs.TailLemmas.{tail_kept}
use Rattle.hc_attended.proofs.TendLemmas.{client_only, tends_then}
use Rattle.hc_attended.proofs.clients.drop_rest.Goals as goal

pub returns-clause-kept : goal.returns-clause-kept
returns-clause-kept g c = keeps_then c.discard.ensures.kept c.let_go.ensures.kept

pub returns-clause-tail : goal.returns-clause-tail
returns-clause-tail g c = tail_kept g.S.Stream.has_failed c.args.number c.discard.result c.args.peers.now c.discard.new.self _ c.discard.ensures.behind c.discard.ensures.fails c.let_go.ensures.goes

pub returns-clause-tends : goal.returns-clause-tends
returns-clause-tends g c = λ times tick.
    tends_then c.args.number times tick _ _ _ _ _ _
    (tends_dropped c.args.number times tick c.args.peers.now c.discard.new.self c.args.agenda.now (client_only c.args.number c.args.peers.now c.discard.new.self c.discard.ensures.only) c.discard.result c.discard.ensures.behind) (c.let_go.ensures.tends times tick)
