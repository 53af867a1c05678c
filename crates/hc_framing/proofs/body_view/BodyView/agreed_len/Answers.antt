use Rattle.std.proofs.Common.{◌≡◌, ◌≤◌, ◌+◌, ◌++◌, ◌∙◌, List, ℕ, length, length-append, ap, sym, arith, rules}
use Rattle.std.specs.List.{flat_map}
use Rattle.std.proofs.lemmas.Bool.{false≢true}
use Rattle.hc_framing.specs.Pieces.{in_common, piece_at}
use Rattle.hc_framing.proofs.PieceLemmas.{no_front, split_off}
use Rattle.hc_framing.proofs.CommonLemmas.{common_behind, common_ends, common_within}
use Rattle.hc_framing.proofs.body_view.BodyView.agreed_len.Goals as goal

pub overflow_add-result : goal.overflow_add-result
overflow_add-result c =
    let one = c.self.inside.one.now in
    let more = flat_map (piece_at c.self.inside.octets.now) c.self.inside.pieces.now in
    let behind = c.in-Some.behind.now in
    let other : c.args.other.now ≡ one ++ behind = split_off one c.args.other.now behind c.in-Some.ensures.cases.0 c.in-Some.ensures.cases.1 in
    let sum : length one + c.pieces_in_common.result ≤ length c.args.other.now =
    omega (arith, ap (λ (o : List ℕ). length o) other, length-append one behind, c.pieces_in_common.ensures, common_within more behind) in
    search rules

pub returns-in-Some : goal.returns-in-Some
returns-in-Some c =
    let one = c.self.inside.one.now in
    let more = flat_map (piece_at c.self.inside.octets.now) c.self.inside.pieces.now in
    let behind = c.in-Some.behind.now in
    let view : one ++ more ≡ c.args.self.now = search rules in
    let other : c.args.other.now ≡ one ++ behind = split_off one c.args.other.now behind c.in-Some.ensures.cases.0 c.in-Some.ensures.cases.1 in
    ap (λ (n : ℕ). length one + n) c.pieces_in_common.ensures ∙ sym (common_behind one more behind)
    ∙ ap (λ (o : List ℕ). in_common (one ++ more) o) (sym other) ∙ ap (λ (o : List ℕ). in_common o c.args.other.now) view

pub returns-in-None : goal.returns-in-None
returns-in-None c =
    let one = c.self.inside.one.now in
    let more = flat_map (piece_at c.self.inside.octets.now) c.self.inside.pieces.now in
    let other = c.args.other.now in
    let view : one ++ more ≡ c.args.self.now = search rules in
    c.octets_in_common.ensures ∙ sym (common_ends one more other (λ behind is. false≢true (no_front one other behind c.in-None.ensures.cases is)))
    ∙ ap (λ (o : List ℕ). in_common o other) view
