use Rattle.hc_attended.proofs.KeepingLemmas.{keeps_within, hears_nothing_within}
use Rattle.hc_crowd.proofs.traffic.Traffic.admit.Goals as goal

pub returns-in_default : goal.returns-in_default
returns-in_default g c = record { heard = hears_nothing_within (keeps_within c.take_guest.ensures.kept) }

pub returns : goal.returns
returns g c = record {
  heard = record {
    tells = λ origin log t.
        let fresh = c.in-Some.ensures.fresh _ log t in
        c.make_client.ensures.tells fresh.0 fresh.1 origin log (c.take_guest.ensures.kept.tells _ log t);
    may = λ origin log t. c.make_client.ensures.may _ log (c.take_guest.ensures.kept.tells _ log t);
    in_turn = c.make_client.ensures.in_turn;
    shown = λ log s. c.make_client.ensures.shown (c.in-Some.ensures.unwritten log s) log (c.take_guest.ensures.kept.shown log s);
  };
}
