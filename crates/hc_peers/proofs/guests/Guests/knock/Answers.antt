use Rattle.std.proofs.Common.{true}
use Rattle.hc_peers.specs.declared.guests.Guest.{Guest}
use Rattle.hc_peers.proofs.KnockLemmas.{lent_last}
use Rattle.hc_peers.proofs.guests.Guests.knock.Goals as goal

pub invariant_of-self-2 : goal.invariant_of-self-2
invariant_of-self-2 g c =
    let now = c.args.self.now in
    let after : Guest g.row.S.Denot = record { stream = c.in-Some.guest.now.stream; knocks = true } in
    record {
      stand = lent_last now.table.links (c.get_mut.follows.lender after) c.args.number now.knocking.items now.stand c.push_back.new.self.items c.in_ok-push_back.ensures.items
          c.in-Some.guest.now after c.in-Some.ensures.value (c.get_mut.follows.holds after);
    }
