use Rattle.std.proofs.Common.{sym, ◌∙◌}
use Rattle.hc_transcript.specs.Reader.{waiting}
use Rattle.hc_transcript.proofs.ReaderLemmas.{whole_is, unread_left}
use Rattle.hc_transcript.proofs.reader.RecordReader.finish.Goals as goal

pub returns-clause-ok : goal.returns-clause-ok
returns-clause-ok c = λ octets records h agrees. whole_is c.args.self.now octets records h agrees (sym c.is_whole.ensures ∙ c.if-not-is_whole.false)

pub returns-then-not-is_whole-clause-torn : goal.returns-then-not-is_whole-clause-torn
returns-then-not-is_whole-clause-torn c = λ octets records h agrees.
    unread_left c.args.self.now.format (waiting c.args.self.now) (sym c.is_whole.ensures ∙ c.if-not-is_whole.true)
