use Rattle.std.proofs.Common.{◌≡◌, ◌∷◌, drop, length, rules, take}
use Rattle.hc_options.specs.Values.{len_before_comma}
use Rattle.hc_options.proofs.NameLemmas.{last_text, next_text}
use Rattle.hc_options.proofs.names.split_first_text.Goals as goal

pub returns-in-Some : goal.returns-in-Some
returns-in-Some c =
    let list = c.args.list.now in
    let rest : drop (len_before_comma list) list ≡ c.in-Some.field-0-0.now ∷ c.in-Some.behind.now = search rules in
    let text : c.split_at.result.0.now ≡ take (len_before_comma list) list = search rules in
    rw text (next_text list c.in-Some.field-0-0.now c.in-Some.behind.now rest)

pub returns-in-None : goal.returns-in-None
returns-in-None c =
    let list = c.args.list.now in
    let rest : length (drop (len_before_comma list) list) ≡ 0 = search rules in
    let text : c.split_at.result.0.now ≡ take (len_before_comma list) list = search rules in
    rw text (last_text list rest)
