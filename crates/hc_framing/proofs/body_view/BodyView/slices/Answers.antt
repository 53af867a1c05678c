use Rattle.std.proofs.Common.{◌≡◌, ◌++◌, ◌∙◌, List, ℕ, ap, rules}
use Rattle.std.specs.List.{flat_map}
use Rattle.hc_framing.specs.Pieces.{piece_at}
use Rattle.hc_framing.proofs.PieceLemmas.{joined}
use Rattle.hc_framing.proofs.body_view.BodyView.slices.Goals as goal

pub returns : goal.returns
returns c =
    let one = c.self.inside.one.now in
    let f = piece_at c.self.inside.octets.now in
    let view : one ++ flat_map f c.self.inside.pieces.now ≡ c.args.self.now = search rules in
    ap (λ (o : List ℕ). one ++ o) (joined f c.self.inside.pieces.now) ∙ view
