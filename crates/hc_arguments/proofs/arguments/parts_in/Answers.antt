use Rattle.std.proofs.Common.{◌∙◌, Some, ap, inl, inr, refl}
use Rattle.hc_options.specs.declared.rows.Takes.TheVariants.{Number}
use Rattle.hc_arguments.specs.Tables.{parts}
use Rattle.hc_arguments.proofs.ArgumentLemmas.{none_given}
use Rattle.hc_arguments.proofs.arguments.parts_in.Goals as goal

pub returns-in-None-clause-err : goal.returns-in-None-clause-err
returns-in-None-clause-err c = record {
  entry = parts;
  is_among = inr (inl refl);
  is_required = refl;
  is_left_out = none_given (Number 1 500) _ (c.in_ok-number.ensures.ok ∙ ap Some c.in-None.is);
}
