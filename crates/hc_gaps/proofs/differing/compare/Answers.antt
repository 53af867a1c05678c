use Rattle.std.proofs.Common.{◌≡◌, rules, ◌++◌, ◌∷◌, [], List, ℕ, Bor, get_or, ap, subst, sym, ◌∙◌}
use Rattle.std.proofs.lemmas.List.{append-nil, drop_all}
use Rattle.std.specs.Prelude.{filter}
use Rattle.hc_history.specs.Filters.{compared_names}
use Rattle.hc_gaps.specs.Differing.{AreListed, differing_in, differs, with_names}
use Rattle.hc_gaps.proofs.NameLemmas.{on_to, plain}
use Rattle.hc_gaps.proofs.differing.compare.Goals as goal

pub loop-name-init : goal.loop-name-init
loop-name-init c =
    let names : plain c.as_slice-name-items.result.now ≡ with_names [] (compared_names c.args.claim.now c.args.state.now) = search rules in
    ([], search rules, ap (filter (differs c.args.claim.now c.args.state.now)) names)

pub loop-name-preserved : goal.loop-name-preserved
loop-name-preserved c =
    let claim = c.args.claim.now in
    let state = c.args.state.now in
    let before = c.loop-name.invariant in
    let items = c.as_slice-name-items.result.now in
    let none : Bor (List ℕ) = record { ref_ptr = (0, 0); now = [] } in
    let name = (get_or items c.loop-name.name-index none).now in (
      before.0 ++ filter (differs claim state) (name ∷ []),
      c.in_ok-take.ensures before.0 before.1,
      on_to (differs claim state) before.0 (differing_in claim state) items c.loop-name.name-index none (search rules) before.2,
    )

pub returns : goal.returns
returns c =
    let claim = c.args.claim.now in
    let state = c.args.state.now in
    let items = c.as_slice-name-items.result.now in
    let all = c.loop-name.invariant in
    subst (λ (names : List (List ℕ)). AreListed claim state names c.loop-name.found)
    (sym (append-nil all.0) ∙ ap (λ (left : List (Bor (List ℕ))). all.0 ++ filter (differs claim state) (plain left)) (sym (drop_all c.loop-name.name-index items c.loop-name-test.false)) ∙ all.2)
    all.1
