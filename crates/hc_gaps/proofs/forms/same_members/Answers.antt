use Rattle.std.proofs.Common.{List, ℕ, Bor, ap, ◌∙◌}
use Rattle.std.specs.Cmp.Lexicographic.{pointwise}
use Rattle.std.specs.Str.{bytes_eq}
use Rattle.hc_fields.specs.Lists.{list_members}
use Rattle.hc_gaps.proofs.MemberLemmas.{same_in_order}
use Rattle.hc_gaps.proofs.forms.same_members.Goals as goal

pub returns : goal.returns
returns c =
    let one = c.sort_unstable.new.self.items in
    let other = c.sort_unstable-2.new.self.items in
    same_in_order (list_members c.args.one.now) (list_members c.args.other.now) c.in_ok-one.one.items c.in_ok-other.other.items one other
    c.eq.result c.in_ok-one.ensures c.in_ok-other.ensures c.sort_unstable.ensures.permutation c.sort_unstable-2.ensures.permutation
    c.sort_unstable.ensures.sorted c.sort_unstable-2.ensures.sorted
    (c.eq.ensures
    ∙ ap (λ (l : List (Bor (List ℕ))). pointwise (λ (x y : Bor (List ℕ)). bytes_eq x.now y.now) l c.as_slice-2.result.now) c.as_slice.ensures.value
    ∙ ap (λ (l : List (Bor (List ℕ))). pointwise (λ (x y : Bor (List ℕ)). bytes_eq x.now y.now) one l) c.as_slice-2.ensures.value)
