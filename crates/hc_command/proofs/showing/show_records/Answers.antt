use Rattle.std.proofs.Common.{[]}
use Rattle.hc_command.proofs.ShowLemmas.{puts_out}
use Rattle.hc_command.proofs.showing.show_records.Goals as goal

pub returns : goal.returns
returns g c =
    let pulled = c.in_ok-stopped.ensures.pulled in
    puts_out c.pull.new.fed.showing c.args.span _ _ _ _ _ pulled.octets c.in_ok-stopped.stopped c.shown_by-shown.result pulled.consumed
    (pulled.goes_by c.args.span [] [] c.new.ensures) (λ octets text comes. c.shown_by-shown.ensures.shows c.args.span octets text comes)
    (λ octets text comes. c.shown_by-shown.ensures.fewer c.args.span octets text comes) c.in_ok-stopped.ensures.end c.in_ok-said_behind.ensures
