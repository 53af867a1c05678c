use Rattle.std.proofs.Common.{◌≡◌, ◌==◌, length, true, false, rules}
use Rattle.std.specs.List.{list_all}
use Rattle.hc_access.specs.Values.{is_plain}
use Rattle.hc_access.proofs.LineLemmas.{plain_value}
use Rattle.hc_access.proofs.quoting.push_value.Goals as goal

pub returns-then-are_plain : goal.returns-then-are_plain
returns-then-are_plain c =
    let plain : list_all is_plain c.args.value.now ≡ true = search rules in
    let some : (length c.args.value.now == 0) ≡ false = search rules in
    rw (plain_value c.args.value.now plain some) (search rules)
