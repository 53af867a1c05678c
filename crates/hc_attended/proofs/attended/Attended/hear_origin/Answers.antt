use Rattle.std.proofs.Common.{◌∙◌, ap, option_map, subst, Option}
use Rattle.std.specs.BTreeMap.{get}
use Rattle.std.specs.Ordering.{nat_cmp}
use Rattle.hc_peers.specs.Forwards.{turned}
use Rattle.hc_peers.specs.Losses.{IsLossOf}
use Rattle.hc_peers.specs.declared.forward.Forward.{Forward}
use Rattle.hc_peers.specs.declared.peers.Peers.{Peers}
use Rattle.std.proofs.Common.{false}
use Rattle.hc_attended.proofs.GroundLemmas.{heard_at}
use Rattle.hc_attended.proofs.KeepingLemmas.{hears_then, keeps_then, then_hears}
use Rattle.hc_attended.proofs.StepLemmas.{heard_attended}
use Rattle.hc_attended.proofs.TimedLemmas.{loss_turned}
use Rattle.hc_attended.proofs.attended.Attended.hear_origin.Goals as goal

pub invariant_of-self : goal.invariant_of-self
invariant_of-self g c =
    let s = c.args.self.now in
    let begun = c.begin_turn in
    let heard = c.hear_origin-heard in
    let seen = c.see_to_forward in
    record {
      noted = heard_attended s.times s.time.tick c.args.forward heard.result s.time.tick s.peers begun.new.peers heard.new.self c.free_place.new.peers seen.new.peers
          s.agenda begun.new.agenda c.watch_on.new.agenda c.free_place.new.agenda seen.new.agenda c.requires.apart begun.ensures.turns begun.ensures.only begun.ensures.notes heard.ensures.only heard.ensures.behind
          c.watch_on.ensures.notes c.watch_on.ensures.watched c.free_place.ensures.frees seen.ensures.turns seen.ensures.notes seen.ensures.seen s.noted;
    }

pub returns-clause-heard : goal.returns-clause-heard
returns-clause-heard g c = then_hears c.begin_turn.ensures.kept (hears_then c.hear_origin-heard.ensures.heard (keeps_then c.free_place.ensures.kept c.see_to_forward.ensures.kept))

pub returns-clause-reason : goal.returns-clause-reason
returns-clause-reason g c =
    loss_turned false (get nat_cmp c.args.self.now.peers.forwards.links c.args.forward) c.hear_origin-heard.result
    (subst (λ (there : Option (Forward g.row.W-Stream.Denot)). IsLossOf there c.hear_origin-heard.result) c.begin_turn.ensures.turns c.hear_origin-heard.ensures.reason)

pub returns-clause-stays : goal.returns-clause-stays
returns-clause-stays g c =
    let f = c.args.forward in
    let turns = c.see_to_forward.ensures.turns in
    heard_at g.W.Stream.Stream.has_failed c.hear_origin-heard.result false turns.0.0 (get nat_cmp c.args.self.now.peers.forwards.links f) (get nat_cmp c.begin_turn.new.peers.forwards.links f)
    (get nat_cmp c.hear_origin-heard.new.self.forwards.links f) (get nat_cmp c.see_to_forward.new.peers.forwards.links f) c.begin_turn.ensures.turns
    (turns.0.1 ∙ ap (λ (p : Peers g.row.W-Stream.Denot). option_map (turned turns.0.0) (get nat_cmp p.forwards.links f)) c.free_place.ensures.frees.only) c.hear_origin-heard.ensures.stays
