use Rattle.std.proofs.Common.{refl}
use Rattle.hc_transcript.proofs.CheckLemmas.{in_time, item_can_follow}
use Rattle.hc_transcript.proofs.ReaderLemmas.{unfinished_is_short, stops_by_line, stops_by_item, waits_on, advances, shrinks, shrinks_from}
use Rattle.hc_transcript.specs.Standing.{standing_fault}
use Rattle.hc_transcript.proofs.reader.RecordReader.read_record.Goals as goal

pub record-requires : goal.record-requires
record-requires c =
    let framed = rw (c.as_slice.ensures, c.in-Ok-Some.field-0-is) at c.in-Ok-Some.ensures in in_time c.args.self.now.standing c.in-Ok-Some.framed.line framed.keeps

pub returns-in-Err-clause-gives : goal.returns-in-Err-clause-gives
returns-in-Err-clause-gives c = λ octets records h agrees other.
    stops_by_line c.args.self.now c.args.format octets records h c.in-Err.fault c.requires.format c.requires.lent agrees (rw c.as_slice.ensures at c.in-Err.ensures)

pub returns-in-Ok-None-clause-gives : goal.returns-in-Ok-None-clause-gives
returns-in-Ok-None-clause-gives c = λ octets records h agrees.
    (record { unfailed = agrees.unfailed; reads = agrees.reads; stands = agrees.stands }, waits_on c.args.self.now c.args.format octets records h c.requires.format c.requires.lent agrees (rw (c.as_slice.ensures, c.in-Ok-None.field-0-is) at c.in-Ok-None.ensures))

pub returns-in-Ok-None-clause-waits : goal.returns-in-Ok-None-clause-waits
returns-in-Ok-None-clause-waits c = λ read.
    unfinished_is_short c.args.format c.args.self.now.standing c.args.self.now.held (rw (c.as_slice.ensures, c.in-Ok-None.field-0-is) at c.in-Ok-None.ensures)

pub returns-in-Err-find-clause-gives : goal.returns-in-Err-find-clause-gives
returns-in-Err-find-clause-gives c = λ octets records h agrees other.
    stops_by_item c.args.self.now c.args.format octets records h c.in-Err-find.fault c.in-Ok-Some.framed.line c.in-Ok-Some.framed.message.now c.in-Ok-Some.framed.len c.is_to_head-to_head.result
    c.requires.format c.requires.lent agrees (rw (c.as_slice.ensures, c.in-Ok-Some.field-0-is) at c.in-Ok-Some.ensures) (c.is_to_head-to_head.ensures h agrees.stands) c.in-Err-find.ensures other

pub returns-clause-gives : goal.returns-clause-gives
returns-clause-gives c = λ octets records h agrees.
    advances c.args.self.now _ c.args.format octets records h c.in-Ok-Some.framed.line c.in-Ok-Some.framed.message.now c.in-Ok-Some.framed.len c.is_to_head-to_head.result
    c.requires.format c.requires.lent agrees (rw (c.as_slice.ensures, c.in-Ok-Some.field-0-is) at c.in-Ok-Some.ensures) (c.is_to_head-to_head.ensures h agrees.stands) c.in-Ok.ensures
    refl refl c.requires.format refl (rw c.record.ensures at c.in_ok-note.ensures.ok h agrees.stands)

pub returns-clause-shrinks : goal.returns-clause-shrinks
returns-clause-shrinks c = λ read.
    shrinks_from c.args.self.now c.requires.lent _
    (shrinks c.args.format (standing_fault c.args.self.now.standing) c.args.self.now.held c.in-Ok-Some.framed.line c.in-Ok-Some.framed.message.now c.in-Ok-Some.framed.len
    (rw (c.as_slice.ensures, c.in-Ok-Some.field-0-is) at c.in-Ok-Some.ensures))

pub note-requires : goal.note-requires
note-requires c =
    let framed = rw (c.as_slice.ensures, c.in-Ok-Some.field-0-is) at c.in-Ok-Some.ensures in
    rw c.record.ensures (item_can_follow c.args.self.now.standing c.in-Ok-Some.framed.line c.find.new.self c.in-Ok-Some.framed.message.now framed.keeps)
