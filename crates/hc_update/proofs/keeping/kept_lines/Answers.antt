use Rattle.std.proofs.Common.{refl}
use Rattle.hc_update.proofs.keeping.kept_lines.Goals as goal

pub loop-line-init : goal.loop-line-init
loop-line-init c = rw (c.new-kept.ensures, c.lines-line-items.ensures) refl
