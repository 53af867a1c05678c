use Rattle.std.proofs.Common.{◌≡◌, ◌++◌, ◌∙◌, List, ℕ, ap, sym, rules}
use Rattle.std.specs.List.{flat_map}
use Rattle.std.proofs.lemmas.Bool.{false≢true}
use Rattle.std.proofs.lemmas.List.{append_cancel_left}
use Rattle.hc_framing.specs.Pieces.{piece_at}
use Rattle.hc_framing.proofs.PieceLemmas.{no_front, split_off}
use Rattle.hc_framing.proofs.body_view.BodyView.equals.Goals as goal

pub returns-in-Some : goal.returns-in-Some
returns-in-Some c =
    let one = c.self.inside.one.now in
    let more = flat_map (piece_at c.self.inside.octets.now) c.self.inside.pieces.now in
    let view : one ++ more ≡ c.args.self.now = search rules in
    let other : c.args.other.now ≡ one ++ c.in-Some.behind.now = split_off one c.args.other.now c.in-Some.behind.now c.in-Some.ensures.cases.0 c.in-Some.ensures.cases.1 in (
      (λ yes. sym view ∙ ap (λ (o : List ℕ). one ++ o) (c.equal_pieces.ensures.0 yes) ∙ sym other),
      (λ is. c.equal_pieces.ensures.1 (append_cancel_left one more c.in-Some.behind.now (view ∙ is ∙ other))),
    )

pub returns-in-None : goal.returns-in-None
returns-in-None c =
    let one = c.self.inside.one.now in
    let more = flat_map (piece_at c.self.inside.octets.now) c.self.inside.pieces.now in
    let view : one ++ more ≡ c.args.self.now = search rules in
    ((λ e. absurd (false≢true e)), (λ is. no_front one c.args.other.now more c.in-None.ensures.cases (sym is ∙ sym view)))
