use Rattle.std.proofs.Common.{arith, ◌<◌, ◌^◌, length, sym}
use Rattle.hc_shown.proofs.ShownLemmas.{both_are_shown, on_ok}
use Rattle.hc_shown.proofs.values.push_target.Goals as goal

pub returns-clause-shown : goal.returns-clause-shown
returns-clause-shown c =
    let host : length c.args.target.now.host < 2 ^ 63 = rw (sym c.as_slice.ensures) (omega arith) in
    let path : length c.args.target.now.path < 2 ^ 63 = rw (sym c.as_slice-2.ensures) (omega arith) in
    on_ok c.push_both.result (both_are_shown c.args.target.now.host c.args.target.now.path (omega (arith, host, path)))
