use Rattle.std.proofs.Common.{sym, ◌∙◌}
use Rattle.hc_fields.proofs.ListLemmas.{next_member, no_member}
use Rattle.hc_fields.proofs.lists.split_first_member.Goals as goal

pub returns-then-not-is_empty : goal.returns-then-not-is_empty
returns-then-not-is_empty c =
    sym c.loop-value.invariant
    ∙ next_member c.loop-value.value.now _ _ _ c.split_first_piece.ensures.piece c.split_first_piece.ensures.rest c.trimmed-member.ensures
    (sym c.is_empty-in-loop-value.ensures ∙ c.if-not-is_empty.true)

pub loop-value-preserved : goal.loop-value-preserved
loop-value-preserved c =
    sym (no_member c.loop-value.value.now _ _ _ c.split_first_piece.ensures.piece c.split_first_piece.ensures.rest c.trimmed-member.ensures
    (sym c.is_empty-in-loop-value.ensures ∙ c.if-not-is_empty.false))
    ∙ c.loop-value.invariant
