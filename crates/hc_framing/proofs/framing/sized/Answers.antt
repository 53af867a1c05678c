use Rattle.std.proofs.Common.{sym, ◌∙◌}
use Rattle.hc_framing.proofs.FramingLemmas.{sized_none}
use Rattle.hc_framing.proofs.framing.sized.Goals as goal

pub returns-in_default-first_length : goal.returns-in_default-first_length
returns-in_default-first_length c =
    sized_none c.args.default c.in-Some.first.now _ _ (sym c.values.ensures ∙ c.in-Some.ensures.steps) (sym c.in_default-first_length.ensures)
