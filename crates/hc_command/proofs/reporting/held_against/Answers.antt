use Rattle.std.proofs.Common.{inl, inr, refl}
use Rattle.hc_command.proofs.reporting.held_against.Goals as goal

pub returns-then-is_covered : goal.returns-then-is_covered
returns-then-is_covered c = λ h wrongs told heard. inl (c.is_covered.ensures.yes h wrongs told heard c.if-is_covered.true, c.verdict_without.ensures.outcome)

pub returns-else-is_covered : goal.returns-else-is_covered
returns-else-is_covered c = λ h wrongs told heard. inr (c.is_covered.ensures.no h wrongs told heard c.if-is_covered.false, refl)
