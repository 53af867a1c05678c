use denote.Ref.{Bor}
use Rattle.std.proofs.Common.{◌∙◌, Option, ap, map, sym, subst}
use Rattle.hc_history.specs.Claims.{Claim}
use Rattle.hc_past.specs.declared.past.Past.{Past}
use Rattle.hc_past.specs.declared.shortfalls.Nearest.{Nearest}
use Rattle.hc_past.specs.Remembered.{end_seen}
use Rattle.hc_why.specs.declared.changes.Ends.{Ends}
use Rattle.hc_why.specs.Due.{none_told, told_by_all, told_of}
use Rattle.hc_why.specs.Listing.{Lists}
use Rattle.hc_why.proofs.ExplainingLemmas.{carries_same, named_first, validated_still}
use Rattle.hc_why.proofs.explaining.Explanation.fill.Goals as goal

pub returns-clause-leaves : goal.returns-clause-leaves
returns-clause-leaves c =
    let first = c.in_ok-fill_why.ensures.leaves in
    let second = c.name_none.ensures.leaves in
    let last = c.in_ok-fill_permitted.ensures.names.leaves in
    record {
      position = last.position ∙ second.position ∙ first.position;
      finding = last.finding ∙ second.finding ∙ first.finding;
      claim = last.claim ∙ second.claim ∙ first.claim;
      way = last.way ∙ second.way ∙ first.way;
      past = last.past ∙ second.past ∙ first.past;
    }

pub returns-clause-named : goal.returns-clause-named
returns-clause-named c =
    let names = c.in_ok-fill_permitted.ensures.names in
    let none = c.name_none.ensures in
    let same = carries_same _ _ _ _ _ _ (names.leaves.finding ∙ none.leaves.finding) (names.leaves.way ∙ none.leaves.way) (c.in_ok-fill_permitted.ensures.ends ∙ none.ends) in
    named_first _ _ _ _ _ same (names.named ∙ none.named) c.in_ok-fill_why.ensures.named

pub returns-clause-with_setting : goal.returns-clause-with_setting
returns-clause-with_setting c =
    let names = c.in_ok-fill_permitted.ensures.names in
    let none = c.name_none.ensures in
    let same = carries_same _ _ _ _ _ _ (names.leaves.finding ∙ none.leaves.finding) (names.leaves.way ∙ none.leaves.way) (c.in_ok-fill_permitted.ensures.ends ∙ none.ends) in
    named_first _ _ _ _ _ same (names.with_setting ∙ none.with_setting) c.in_ok-fill_why.ensures.with_setting

pub returns-clause-stale : goal.returns-clause-stale
returns-clause-stale c = c.stale_of-self.ensures

pub returns-clause-came : goal.returns-clause-came
returns-clause-came c = c.in_ok-self-2.ensures

pub returns-clause-lists : goal.returns-clause-lists
returns-clause-lists c =
    let old = c.args.self.now in
    let before = c.fill_why.new.self in
    let after = c.fill_permitted.new.self in
    let ends = c.in_ok-self.field-0 in
    let claims = c.in_ok-fill_permitted.ensures.names.leaves.claim ∙ c.name_none.ensures.leaves.claim in
    subst (λ (e : Ends). Lists after.claim old.nearest e) (sym (c.in_ok-fill_permitted.ensures.ends ∙ c.name_none.ensures.ends))
    (subst (λ (k : Claim). Lists k old.nearest ends) (sym claims)
    (subst (λ (o : Option Nearest). Lists before.claim o ends) c.in_ok-fill_why.ensures.named c.in_ok-self.ensures.lists))

pub returns-clause-told : goal.returns-clause-told
returns-clause-told c =
    let before = c.fill_why.new.self in
    let after = c.fill_permitted.new.self in
    let claims = c.in_ok-fill_permitted.ensures.names.leaves.claim ∙ c.name_none.ensures.leaves.claim in
    let pasts = c.in_ok-fill_permitted.ensures.names.leaves.past ∙ c.name_none.ensures.leaves.past in
    ap told_of (c.in_ok-fill_permitted.ensures.ends ∙ c.name_none.ensures.ends)
    ∙ c.in_ok-self.ensures.told
    ∙ ap (λ (k : Claim). told_by_all k none_told (map end_seen before.past.now.ends.items)) (sym claims)
    ∙ ap (λ (p : Bor Past). told_by_all after.claim none_told (map end_seen p.now.ends.items)) (sym pasts)

pub returns-clause-validator : goal.returns-clause-validator
returns-clause-validator c =
    let names = c.in_ok-fill_permitted.ensures.names in
    let none = c.name_none.ensures in
    validated_still _ c.fill_why.new.self.nearest c.fill_permitted.new.self.nearest _ _ _ _ _ _ (names.named ∙ none.named) (names.leaves.claim ∙ none.leaves.claim)
    (names.leaves.past ∙ none.leaves.past) (c.in_ok-fill_permitted.ensures.ends ∙ none.ends) c.in_ok-self.ensures.validator
