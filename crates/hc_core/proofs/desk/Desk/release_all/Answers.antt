use Rattle.std.proofs.Common.{ℕ, List, ◌++◌, ◌∷◌, [], sym, ap, ◌∙◌, append_assoc, append-nil, rules}
use Rattle.hc_core.proofs.ReleaseLemmas.{none_left, released_all, released_more, released_none}
use Rattle.hc_core.proofs.desk.Desk.release_all.Goals as goal

pub waiting-init : goal.waiting-init
waiting-init g c = record {
  can = c.requires;
  so_far = λ settings s stands. released_none g.row.S.Denot g.row.S-Hasher.Denot settings s c.args.actions.now.items c.args.clients.now.items c.args.self.now stands;
  left = search rules;
}

pub waiting-preserved : goal.waiting-preserved
waiting-preserved g c = record {
  can =
      let can = c.waiting.invariant.can in
      let gives = c.in_ok-release.ensures can.settings can.state can.stands in
      record { settings = can.settings; state = gives.state; stands = gives.stands };
  so_far = λ settings s stands.
      let before = c.waiting.invariant.so_far settings s stands in
      released_more g.row.S.Denot g.row.S-Hasher.Denot settings s c.args.actions.now.items c.args.clients.now.items c.waiting.yielded c.waiting.clients.items c.release.new.clients.items c.in-Some.e
      c.waiting.actions.items c.release.new.actions.items c.waiting.self c.release.new.self before
      (c.in_ok-release.ensures settings before.state before.stands);
  left = append_assoc c.waiting.yielded (c.in-Some.e ∷ []) c.next.new.self.rest.items
      ∙ ap (λ (xs : List ℕ). c.waiting.yielded ++ xs) (sym c.in-Some.ensures.steps.0) ∙ c.waiting.invariant.left;
}

pub returns : goal.returns
returns g c = λ settings s stands.
    let none = none_left c.waiting.e-iterator.rest.items _ c.waiting.e-iterator.rest.ok.0 c.in-None.ensures.steps.0 in
    released_all g.row.S.Denot g.row.S-Hasher.Denot settings s c.args.actions.now.items c.args.clients.now.items c.waiting.yielded c.args.waiting.items c.waiting.clients.items c.waiting.actions.items c.waiting.self
    (sym (append-nil c.waiting.yielded) ∙ ap (λ (xs : List ℕ). c.waiting.yielded ++ xs) (sym none) ∙ c.waiting.invariant.left)
    (c.waiting.invariant.so_far settings s stands)
