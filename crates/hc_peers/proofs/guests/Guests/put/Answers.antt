use Rattle.std.proofs.Common.{true}
use Rattle.hc_peers.proofs.KnockLemmas.{behind_same, put_last}
use Rattle.hc_peers.proofs.guests.Guests.put.Goals as goal

pub invariant_of-self-2 : goal.invariant_of-self-2
invariant_of-self-2 g c =
    let now = c.args.self.now in
    record {
      stand = put_last now.table.links c.insert.new.self c.args.number now.knocking.items now.stand c.push_back_reserved.new.self.items
          (behind_same now.knocking.items c.reserve.new.self.items c.push_back_reserved.new.self.items c.args.number c.reserve.ensures.items c.push_back_reserved.ensures.items)
          (record { stream = c.args.stream; knocks = true }) c.in_ok-insert.ensures.updates;
    }
