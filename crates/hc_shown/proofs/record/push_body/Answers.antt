use Rattle.std.proofs.Common.{◌∙◌, sym}
use Rattle.std.proofs.lemmas.Result.{on_ok_weaker}
use Rattle.hc_shown.proofs.TextLemmas.{body_written}
use Rattle.hc_shown.proofs.record.push_body.Goals as goal

pub returns : goal.returns
returns c =
    on_ok_weaker c.push_some.result (body_written _ _ _ _ c.as_slice.ensures (sym c.is_empty.ensures ∙ c.if-is_empty.false)) c.push_some.ensures
