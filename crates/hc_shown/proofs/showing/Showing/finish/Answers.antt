use Rattle.hc_shown.proofs.ShowingLemmas.{end_of, whole_of}
use Rattle.hc_shown.proofs.showing.Showing.finish.Goals as goal

pub returns-in-Ok : goal.returns-in-Ok
returns-in-Ok c = λ span octets text shows.
    whole_of c.args.self span octets text shows (c.in-Ok.ensures.ok octets shows.has.records shows.has.history shows.has.agrees)

pub returns : goal.returns
returns c = λ span octets text shows.
    end_of c.args.self span octets text c.in-Err.fault c.position-position.result shows
    c.in-Err.ensures.err.1 (c.in-Err.ensures.torn octets shows.has.records shows.has.history shows.has.agrees) c.position-position.ensures
