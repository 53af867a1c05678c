use Rattle.std.proofs.Common.{◌≡◌, ◌++◌, ◌∷◌, [], ap, rules}
use Rattle.hc_flow.specs.declared.pieces.Piece.TheVariants.{Joined}
use Rattle.hc_flow.proofs.PieceLemmas.{grows_closed}
use Rattle.hc_flow.proofs.pieces.close_tail.Goals as goal

pub returns-clause-grows : goal.returns-clause-grows
returns-clause-grows c =
    let pushed : c.push_back.new.self.items ≡ c.args.pieces.now.items ++ Joined c.replace-joined.result ∷ [] = search rules in
    let none : c.replace-joined.new.dest.items ≡ [] = search rules in
    grows_closed c.args.pieces.now.items c.push_back.new.self.items c.args.tail.now.items c.replace-joined.new.dest.items (Joined c.replace-joined.result)
    (ap (λ v. v.items) c.replace-joined.ensures.value) pushed none
