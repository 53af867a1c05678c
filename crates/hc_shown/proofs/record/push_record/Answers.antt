use Rattle.std.proofs.lemmas.Result.{on_ok_weaker}
use Rattle.hc_shown.proofs.TextLemmas.{record_added}
use Rattle.hc_shown.proofs.record.push_record.Goals as goal

pub returns : goal.returns
returns c =
    let item = c.args.item.now in
    on_ok_weaker c.push_content.result (record_added c.args.position item.number item.moment item.of _ _ _ _ _
    c.in_ok-push_place.ensures c.in_ok-push_moment.ensures c.in_ok-push_str.ensures.bytes) c.push_content.ensures
