use Rattle.std.proofs.Common.{◌∙◌, Some, ap, codes, inl, inr, refl}
use Rattle.hc_transcript.specs.Limits.{greatest_number}
use Rattle.hc_options.specs.declared.rows.Takes.TheVariants.{Number}
use Rattle.hc_arguments.specs.Tables.{wanted}
use Rattle.hc_arguments.proofs.ArgumentLemmas.{none_given}
use Rattle.hc_arguments.proofs.arguments.connections_in.Goals as goal

pub returns-in-None-clause-err : goal.returns-in-None-clause-err
returns-in-None-clause-err c = record {
  entry = wanted (codes "connections") (Number 1 greatest_number);
  is_among = inr (inr (inl refl));
  is_required = refl;
  is_left_out = none_given (Number 1 greatest_number) _ (c.in_ok-number.ensures.ok ∙ ap Some c.in-None.is);
}
