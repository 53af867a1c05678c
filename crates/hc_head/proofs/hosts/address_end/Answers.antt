use Rattle.std.proofs.Common.{◌≡◌, ◌∷◌, rules, arith}
use Rattle.std.proofs.lemmas.Bool.Decides.{nat_tests}
use Rattle.hc_head.proofs.HostLemmas.{tested_address_front, no_address_front}
use Rattle.hc_head.proofs.hosts.address_end.Goals as goal

pub returns-then-is_closed : goal.returns-then-is_closed
returns-then-is_closed c =
    let cut : c.args.text.now ≡ c.in_ok-first.first.now ∷ c.in_ok-first.behind.now = search rules in
    tested_address_front c.args.text.now c.in_ok-first.behind.now c.in_ok-first.first.now c.address_len-len.result cut c.address_len-len.ensures.value
    (grind (arith, nat_tests))

pub returns-else-first-eq91 : goal.returns-else-first-eq91
returns-else-first-eq91 c =
    let cut : c.args.text.now ≡ c.in_ok-first.first.now ∷ c.in_ok-first.behind.now = search rules in
    no_address_front c.args.text.now c.in_ok-first.behind.now c.in_ok-first.first.now c.address_len-len.result cut c.address_len-len.ensures.value
    (grind (arith, nat_tests))
