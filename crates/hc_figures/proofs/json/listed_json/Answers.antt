use Rattle.std.proofs.Common.{◌++◌, ◌∷◌, [], List, ap, map, refl, subst, take}
use Rattle.std.proofs.lemmas.List.{take_all}
use Rattle.hc_figures.specs.Objects.{Holds}
use Rattle.hc_figures.proofs.EntryLemmas.{value_pushed}
use Rattle.hc_figures.specs.Json.{listed_data}
use Rattle.hc_figures.specs.declared.listed.ListedReply.{ListedReply}
use Rattle.hc_figures.proofs.json.listed_json.Goals as goal

pub loop-wrong-preserved : goal.loop-wrong-preserved
loop-wrong-preserved c =
    let before = map listed_data (take c.loop-wrong.wrong-index c.args.wrongs.now) in
    subst (Holds c.push.new.self)
    (value_pushed listed_data c.args.wrongs.now c.loop-wrong.wrong-index _ [] before _ c.loop-wrong-test.true refl
    (ap (λ (wrong : ListedReply). before ++ listed_data wrong ∷ []) c.wrong-item.is))
    (c.push.ensures.holds (listed_data c.wrong-item.result) c.reply_json.ensures before c.loop-wrong.invariant)

pub returns : goal.returns
returns c =
    c.into_value.ensures.holds (map listed_data c.args.wrongs.now)
    (subst (λ (wrongs : List ListedReply). Holds c.loop-wrong.listed (map listed_data wrongs)) (take_all c.loop-wrong.wrong-index c.args.wrongs.now c.loop-wrong-test.false) c.loop-wrong.invariant)
