use Rattle.hc_flow.specs.declared.pieces.Piece.TheVariants.{Shared}
use Rattle.hc_flow.proofs.PieceLemmas.{appended, appended_on, grows_on, grows_piece}
use Rattle.hc_flow.proofs.pieces.put_behind.Goals as goal

pub returns-then-len-size : goal.returns-then-len-size
returns-then-len-size c = appended c.args.pieces.now.items c.args.tail.now.items c.append_to.new.octets.items c.args.text.now c.append_to.result c.append_to.ensures.ok c.append_to.ensures.err

pub returns-then-size-le-LONGEST_JOINED-2 : goal.returns-then-size-le-LONGEST_JOINED-2
returns-then-size-le-LONGEST_JOINED-2 c =
    let call = c.append_to-then-size-le-LONGEST_JOINED-2 in
    appended_on _ _ _ _ _ _ _ call.result c.in_ok-close_tail.ensures.grows
    (appended c.close_tail.new.pieces.items c.close_tail.new.tail.items call.new.octets.items c.args.text.now call.result call.ensures.ok call.ensures.err)

pub returns : goal.returns
returns c =
    grows_on _ _ _ _ _ _ _ c.in_ok-close_tail.ensures.grows
    (grows_piece c.close_tail.new.pieces.items c.push_back.new.self.items c.close_tail.new.tail.items (Shared c.in_ok-share.field-0) c.args.text.now
    c.in_ok-share.ensures c.in_ok-push_back.ensures.items c.in_ok-close_tail.ensures.none)
