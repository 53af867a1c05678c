use Rattle.std.proofs.lemmas.Result.{err_from_is_err_and}
use Rattle.hc_drive.proofs.CarryLemmas.{begins_alone, one_cut, quiet_cut}
use Rattle.hc_drive.proofs.carrying.carry_out_one.Goals as goal

pub returns-in_err-send-in-ToClient-clause-done : goal.returns-in_err-send-in-ToClient-clause-done
returns-in_err-send-in-ToClient-clause-done g c =
    let p = err_from_is_err_and c.from_residual.result c.from_residual.ensures.1 in
    rw (p.1, c.in-ToClient.is)
    (λ log text told held. quiet_cut (g.L.Links.tells c.send.new.self) (g.R.Link.has_got c.args.recorder.now) _ log text (c.in_err-send-in-ToClient.ensures.sent log told) held)

pub returns-in_err-send-in-Forward-clause-done : goal.returns-in_err-send-in-Forward-clause-done
returns-in_err-send-in-Forward-clause-done g c =
    let p = err_from_is_err_and c.from_residual-in_err-send-in-Forward.result c.from_residual-in_err-send-in-Forward.ensures.1 in
    rw (p.1, c.in-Forward.is)
    (λ log text told held. quiet_cut (g.L.Links.tells c.send-in-Forward.new.self) (g.R.Link.has_got c.args.recorder.now) _ log text (c.in_err-send-in-Forward.ensures.sent log told) held)

pub returns-in_err-record-in-Record-clause-done : goal.returns-in_err-record-in-Record-clause-done
returns-in_err-record-in-Record-clause-done g c =
    let p = err_from_is_err_and c.from_residual-in_err-record-in-Record.result c.from_residual-in_err-record-in-Record.ensures.1 in
    rw (p.1, c.in-Record.is) (λ log text told held.
    let w = c.in_err-record-in-Record.ensures.got text held in
    one_cut (g.L.Links.tells c.args.links.now) (g.R.Link.has_got c.record.new.recorder) _ log text told w.0 (begins_alone w.0 _ w.1) w.2)
