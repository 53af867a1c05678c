use Rattle.std.proofs.Common.{ℕ, List, rules, tests, sym, ◌∙◌, subst}
use Rattle.std.proofs.lemmas.Iterator.Consumers.{YieldsList-from_copied, YieldsList-from_rest}
use Rattle.std.proofs.lemmas.Iterator.Search.{find_from_yields_List}
use Rattle.std.specs.FinMap.{get}
use Rattle.hc_open.specs.Groups.{AreNumbers, passes_at}
use Rattle.hc_open.specs.Links.{has_place_at, is_joinable_for}
use Rattle.hc_open.proofs.WaitLemmas.{first_is_least, mapped_itself}
use Rattle.hc_open.proofs.open_links.OpenLinks.least_joinable.Goals as goal

pub returns : goal.returns
returns c = λ underway links exchanges.
    let target = c.args.target.now in
    let keys = c.in_ok-numbers.numbers.now.keys in
    first_is_least target underway keys c.find.result
    (subst (λ (ks : List ℕ). AreNumbers ks (λ n. passes_at (is_joinable_for target) (get underway.forwards n))) (sym c.in_ok-numbers.ensures) (links.joinable target))
    (sym (mapped_itself c.find.result)
    ∙ find_from_yields_List (has_place_at underway.exchanges) _ _ _ c.find.ensures.ran (YieldsList-from_copied (YieldsList-from_rest keys cc)) (λ x b q k. search (rules, tests, links, exchanges)))
