use Rattle.std.proofs.Common.{ℕ, List, ◌++◌, ◌∷◌, [], sym, ap, ◌∙◌, append_assoc, append-nil, rules}
use Rattle.hc_core.proofs.ReleaseLemmas.{none_left}
use Rattle.hc_core.proofs.ServeLemmas.{reads_all, reads_more, reads_none}
use Rattle.hc_core.proofs.desk.Desk.read_all.Goals as goal

pub clients-init : goal.clients-init
clients-init g c = record {
  can = c.requires;
  so_far = λ settings s stands. reads_none g.row.S.Denot g.row.S-Hasher.Denot settings s c.args.self.now c.args.actions.now.items stands;
  left = search rules;
}

pub clients-preserved : goal.clients-preserved
clients-preserved g c = record {
  can =
      let can = c.clients.invariant.can in
      let gives = c.in_ok-read_on.ensures can.settings can.state can.stands in
      record { settings = can.settings; state = gives.state; stands = gives.stands };
  so_far = λ settings s stands.
      let before = c.clients.invariant.so_far settings s stands in
      reads_more g.row.S.Denot g.row.S-Hasher.Denot settings s c.clients.yielded c.in-Some.c c.args.actions.now.items c.clients.actions.items c.read_on.new.actions.items c.clients.self c.read_on.new.self before
      (c.in_ok-read_on.ensures settings before.state before.stands);
  left = append_assoc c.clients.yielded (c.in-Some.c ∷ []) c.next.new.self.rest.items
      ∙ ap (λ (xs : List ℕ). c.clients.yielded ++ xs) (sym c.in-Some.ensures.steps.0) ∙ c.clients.invariant.left;
}

pub returns : goal.returns
returns g c = λ settings s stands.
    let none = none_left c.clients.c-iterator.rest.items _ c.clients.c-iterator.rest.ok.0 c.in-None.ensures.steps.0 in
    reads_all g.row.S.Denot g.row.S-Hasher.Denot settings s c.clients.yielded c.args.clients.items c.args.actions.now.items c.clients.actions.items c.clients.self
    (sym (append-nil c.clients.yielded) ∙ ap (λ (xs : List ℕ). c.clients.yielded ++ xs) (sym none) ∙ c.clients.invariant.left)
    (c.clients.invariant.so_far settings s stands)
