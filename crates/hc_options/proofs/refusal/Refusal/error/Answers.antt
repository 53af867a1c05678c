use Rattle.clap.specs.Words.{kind_of}
use Rattle.hc_options.specs.Refusals.{kind_by, refused_kind}
use Rattle.hc_options.proofs.FaultLemmas.{kind_told}
use Rattle.hc_options.proofs.refusal.Refusal.error.Goals as goal

pub returns : goal.returns
returns c =
    kind_told kind_of c.usage_error.result c.message.result c.kind.result (kind_by c.args.self) (refused_kind c.args.self) c.kind.ensures
    c.usage_error.ensures.kind c.usage_error.ensures.message c.message.ensures
