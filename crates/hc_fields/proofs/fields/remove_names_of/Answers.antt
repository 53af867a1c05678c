use Rattle.std.proofs.Common.{rules}
use Rattle.std.specs.Prelude.{not}
use Rattle.std.proofs.lemmas.Fn.{filter_same}
use Rattle.hc_fields.specs.declared.fields.Field.{Field}
use Rattle.hc_fields.specs.Values.{has_name}
use Rattle.hc_fields.proofs.fields.remove_names_of.Goals as goal

pub returns-clause-names : goal.returns-clause-names
returns-clause-names c =
    filter_same _ (λ (f : Field). not (has_name f.name c.args.others.now)) _ (λ x b f' t. search rules) _ _ c.retain.ensures.filtered
