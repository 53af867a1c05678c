use Rattle.std.proofs.Common.{◌≡◌, ◌∙◌, ap, arith}
use Rattle.hc_transcript.specs.History.{next_position}
use Rattle.hc_transcript.specs.Reader.{records_read, text_lent}
use Rattle.hc_split.proofs.SplitLemmas.{none_read, read_one, splits_nothing, splits_one}
use Rattle.hc_split.proofs.splitter.Splitter.step.Goals as goal

pub returns-then-not-branch-clause-on : goal.returns-then-not-branch-clause-on
returns-then-not-branch-clause-on g c = λ octets records h is.
    splits_nothing g.W.Write.contents c.args.outlets.now c.args.self.now c.read.new.self octets records h
    (none_read c.in_ok-read.field-0 c.read.new.self octets records h c.if-not-branch.true (c.in_ok-read.ensures.read octets records h is)) c.in_ok-read.ensures.parts c.in_ok-read.ensures.format

pub returns-in-Ok-clause-on : goal.returns-in-Ok-clause-on
returns-in-Ok-clause-on g c = λ octets records h is.
    let r = read_one c.in_ok-read.field-0 c.read.new.self octets records h c.if-not-branch.false (c.in_ok-read.ensures.read octets records h is) in
    let reader = c.in_ok-part.ensures.reader in
    let read : c.records.result ≡ records_read c.read.new.self.reader = c.records.ensures.value ∙ ap records_read reader in
    let position : c.records.result ≡ next_position h = omega (arith, read, r.reads.stands.records) in
    splits_one g.W.Write.contents c.args.outlets.now c.give.new.outlets c.args.self.now c.read.new.self c.routed.new.self c.in_ok-part.part c.records.result c.text.result.now octets records h r
    c.in_ok-read.ensures.parts c.in_ok-read.ensures.format c.in_ok-part.ensures.reader c.in_ok-part.ensures.parts c.in_ok-part.ensures.format
    (c.in_ok-part.ensures.routed h r.item r.routes r.lends) (c.text.ensures ∙ ap text_lent reader) position c.in-Ok.ensures.texts c.in-Ok.ensures.tables
