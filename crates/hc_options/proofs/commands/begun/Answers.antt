use Rattle.std.proofs.Common.{◌∙◌, ap}
use Rattle.std.proofs.lemmas.Result.{IfOk-weaker}
use Rattle.clap.specs.Simple.{app_of_fields}
use Rattle.hc_options.proofs.commands.begun.Goals as goal

pub returns : goal.returns
returns c =
    IfOk-weaker c.bin_name.result _ _ (λ _ named. (
      ap app_of_fields named.0 ∙ ap app_of_fields c.after_help.ensures ∙ ap app_of_fields c.about.ensures ∙ c.new.ensures.app,
      rw (named.0, c.after_help.ensures, c.about.ensures) c.new.ensures.local,
    )) c.bin_name.ensures
