use Rattle.std.proofs.Common.{◌∙◌, codes, refl, sym}
use Rattle.clap.specs.Words.{found_of}
use Rattle.hc_arguments.proofs.ListenLemmas.{first_named, no_first, none_named}
use Rattle.hc_arguments.proofs.arguments.named_listens.Goals as goal

pub returns-clause-ok : goal.returns-clause-ok
returns-clause-ok c =
    first_named (found_of c.args.found.now) (codes "listen") c.in-Some.listens.now c.in-Some.ensures (sym c.is_empty.ensures ∙ c.if-is_empty.false)

pub returns-then-is_empty-clause-err : goal.returns-then-is_empty-clause-err
returns-then-is_empty-clause-err c =
    (refl, no_first (found_of c.args.found.now) (codes "listen") c.in-Some.listens.now c.in-Some.ensures (sym c.is_empty.ensures ∙ c.if-is_empty.true))

pub returns-in_default-clause-err : goal.returns-in_default-clause-err
returns-in_default-clause-err c = (refl, none_named (found_of c.args.found.now) (codes "listen") c.in_default.ensures)
