use Rattle.std.proofs.Common.{sym}
use Rattle.hc_status.proofs.ParameterLemmas.{taken_at, put_last}
use Rattle.hc_status.proofs.items.Parameters.set.Goals as goal

pub returns-in-Some : goal.returns-in-Some
returns-in-Some c =
    let taken = taken_at c.as_slice.result.now c.args.param c.as_slice-2.result.now c.in-Some.place (sym c.as_slice-2.ensures) (sym c.in-Some.ensures.place) in
    let list = c.as_slice.ensures.value in
    let view = c.self.view_is in
    let moved = c.replace.ensures.after in
    cc

pub returns-in_ok-push-in-None : goal.returns-in_ok-push-in-None
returns-in_ok-push-in-None c =
    let last = put_last c.as_slice.result.now c.args.param c.as_slice-2.result.now (sym c.as_slice-2.ensures) (sym c.in-None.ensures.place) in
    let list = c.as_slice.ensures.value in
    let view = c.self.view_is in
    let items = c.in_ok-push-in-None.ensures.items in
    cc
