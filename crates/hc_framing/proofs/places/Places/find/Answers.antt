use Rattle.std.proofs.Common.{◌∙◌, Result, Err, drop, refl, sym, subst}
use Rattle.std.specs.List.{flat_map}
use Rattle.hc_framing.specs.declared.fault.FrameFault.{FrameFault}
use Rattle.hc_framing.specs.declared.framing.Framing.{Framing}
use Rattle.hc_framing.specs.Pieces.{piece_at}
use Rattle.hc_framing.specs.WholeParts.{GivesBehind, noted}
use Rattle.hc_framing.proofs.WholeLemmas.{behind_head, framed_noted}
use Rattle.hc_framing.proofs.places.Places.find.Goals as goal

pub returns-in-Err-framing_at : goal.returns-in-Err-framing_at
returns-in-Err-framing_at g c =
    let form = g.H.MessageHead.form in
    let head = g.H.MessageHead.at c.find.new.places c.args.octets.now in
    behind_head form g.met.H.MessageHead.laws c.args.kind c.args.octets.now c.args.room head c.in-Ok-Some.len (Err c.in-Err-framing_at.fault)
    (rw c.in-Ok-Some.field-0-is at c.in-Ok-Some.ensures.gives)
    (subst (λ (r : Result Framing FrameFault). GivesBehind form r head (Err c.in-Err-framing_at.fault) (drop c.in-Ok-Some.len c.args.octets.now))
    (sym c.in-Err-framing_at.is ∙ c.framing_at.ensures) refl)

pub returns-in-Ok : goal.returns-in-Ok
returns-in-Ok g c =
    let form = g.H.MessageHead.form in
    let octets = c.args.octets.now in
    let head = g.H.MessageHead.at c.find.new.places octets in
    let bare = g.H.MessageHead.at c.make_bare.new.places octets in
    let body = flat_map (piece_at octets) c.note_body.new.pieces.items in
    behind_head form g.met.H.MessageHead.laws c.args.kind octets c.args.room head c.in-Ok-Some.len (noted c.note_body.result (record { head = bare; body = body }))
    (rw c.in-Ok-Some.field-0-is at c.in-Ok-Some.ensures.gives)
    (subst (λ (r : Result Framing FrameFault). GivesBehind form r head (noted c.note_body.result (record { head = bare; body = body })) (drop c.in-Ok-Some.len octets))
    (sym c.in-Ok.is ∙ c.framing_at.ensures)
    (framed_noted form g.met.H.MessageHead.laws c.in-Ok.framing head bare c.note_body.result body (drop c.in-Ok-Some.len octets) (c.make_bare.ensures octets) c.note_body.ensures.gives))
