use Rattle.std.proofs.Common.{◌+◌, ℕ, ap}
use Rattle.hc_transcript.specs.Standing.{standing_fault}
use Rattle.hc_transcript.proofs.CheckLemmas.{in_time, item_can_follow}
use Rattle.hc_transcript.proofs.ConvertLemmas.{fails_by_line, fails_torn, fails_by_item, reads_one, frame_fits}
use Rattle.hc_transcript.proofs.converting.next_record.Goals as goal

pub returns-in-Err-clause-err : goal.returns-in-Err-clause-err
returns-in-Err-clause-err c = λ octets records h splits stands.
    rw c.malformed_at.ensures
    (fails_by_line c.args.format octets records h c.args.rest.now c.args.standing.now (c.records-position.result + 1) c.in-Err.fault splits stands
    (ap (λ (n : ℕ). n + 1) c.records-position.ensures.value) c.in-Err.ensures)

pub returns-in-Ok-None-clause-err : goal.returns-in-Ok-None-clause-err
returns-in-Ok-None-clause-err c = λ octets records h splits stands.
    fails_torn c.args.format octets records h c.args.rest.now c.args.standing.now (c.records-position.result + 1) splits stands
    (ap (λ (n : ℕ). n + 1) c.records-position.ensures.value) c.requires (rw c.in-Ok-None.field-0-is at c.in-Ok-None.ensures)

pub record-requires : goal.record-requires
record-requires c =
    let framed = rw c.in-Ok-Some.field-0-is at c.in-Ok-Some.ensures in in_time c.args.standing.now c.in-Ok-Some.framed.line framed.keeps

pub returns-in-Err-find-clause-err : goal.returns-in-Err-find-clause-err
returns-in-Err-find-clause-err c = λ octets records h splits stands.
    rw c.malformed_at-in-Err-find.ensures
    (fails_by_item c.args.format octets records h c.args.rest.now c.args.standing.now (c.records-position.result + 1) c.in-Err-find.fault c.in-Ok-Some.framed.line
    c.in-Ok-Some.framed.message.now c.in-Ok-Some.framed.len c.is_to_head-to_head.result splits stands (ap (λ (n : ℕ). n + 1) c.records-position.ensures.value)
    (rw c.in-Ok-Some.field-0-is at c.in-Ok-Some.ensures) (c.is_to_head-to_head.ensures h stands) c.in-Err-find.ensures)

pub note-requires : goal.note-requires
note-requires c =
    let framed = rw c.in-Ok-Some.field-0-is at c.in-Ok-Some.ensures in
    rw c.record.ensures (item_can_follow c.args.standing.now c.in-Ok-Some.framed.line c.find.new.self c.in-Ok-Some.framed.message.now framed.keeps)

pub returns-clause-ok : goal.returns-clause-ok
returns-clause-ok c = λ octets records h splits stands.
    reads_one c.args.format octets records h c.args.rest.now c.args.standing.now c.note.new.self c.in-Ok-Some.framed.line c.in-Ok-Some.framed.message.now c.in-Ok-Some.framed.len
    c.is_to_head-to_head.result _ splits stands (rw c.in-Ok-Some.field-0-is at c.in-Ok-Some.ensures) (c.is_to_head-to_head.ensures h stands) c.in-Ok.ensures
    (rw c.record.ensures at c.in_ok-note.ensures.ok h stands)

pub returns-clause-fits : goal.returns-clause-fits
returns-clause-fits c =
    frame_fits c.args.format (standing_fault c.args.standing.now) c.args.rest.now c.in-Ok-Some.framed.line c.in-Ok-Some.framed.message.now c.in-Ok-Some.framed.len
    (rw c.in-Ok-Some.field-0-is at c.in-Ok-Some.ensures)
