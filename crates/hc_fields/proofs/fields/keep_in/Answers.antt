use Rattle.std.proofs.Common.{rules}
use Rattle.std.specs.Str.{bytes_eq}
use Rattle.std.proofs.lemmas.Fn.{filter_same}
use Rattle.hc_fields.specs.declared.fields.Field.{Field}
use Rattle.hc_fields.proofs.fields.keep_in.Goals as goal

pub returns : goal.returns
returns c =
    filter_same _ (λ (f : Field). bytes_eq f.name c.args.name.now) _ (λ x b f' t. search rules) _ _ c.retain.ensures.filtered
