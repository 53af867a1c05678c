use Rattle.std.proofs.Common.{◌∙◌}
use Rattle.hc_head.proofs.TextLemmas.{tells_by_length}
use Rattle.hc_head.proofs.unfinished.may_become_text.Goals as goal

pub returns-in-Err : goal.returns-in-Err
returns-in-Err c =
    tells_by_length c.args.text.now _ c.error_len.result _ c.in-Err.ensures.cases.1 (c.error_len.ensures ∙ c.in-Err.ensures.fault) c.is_none.ensures
