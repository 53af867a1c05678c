use Rattle.std.proofs.Common.{◌≡◌, ◌∷◌, rules}
use Rattle.hc_status.proofs.StringLemmas.{string_from_plain, string_from_escaped}
use Rattle.hc_status.proofs.strings.string.Goals as goal

pub loop-octet-preserved-then-octet-eq92 : goal.loop-octet-preserved-then-octet-eq92
loop-octet-preserved-then-octet-eq92 c =
    let cut : c.loop-octet.rest.now ≡ 92 ∷ (c.in-Some-split_first.escaped.now ∷ c.in-Some-split_first.behind.now) = search rules in
    let step = string_from_escaped c.loop-octet.value.items c.in-Some-split_first.behind.now c.in-Some-split_first.escaped.now (search rules) in
    let items = c.in_ok-push.ensures.items in
    cc

pub loop-octet-preserved : goal.loop-octet-preserved
loop-octet-preserved c =
    let cut : c.loop-octet.rest.now ≡ c.in-Some.octet.now ∷ c.in-Some.behind.now = search rules in
    let step = string_from_plain c.loop-octet.value.items c.in-Some.behind.now c.in-Some.octet.now c.if-octet-eq34.false c.if-octet-eq92.false (search rules) in
    let items = c.in_ok-push-2.ensures.items in
    cc
