use Rattle.std.proofs.Common.{◌≡◌, ◌∙◌, Some, sym}
use Rattle.hc_transcript.specs.Reader.{format_read}
use Rattle.hc_audit.proofs.JudgeLemmas.{might_be_of, in_the_read, next_is}
use Rattle.hc_history.specs.Counting.{counts_of}
use Rattle.hc_history.specs.Seen.{IsSeenAs}
use Rattle.hc_transcript.specs.declared.format.Format.{Format}
use Rattle.hc_audit.proofs.judge.Judge.advance.Goals as goal

pub returns-in-Err-clause-gives : goal.returns-in-Err-clause-gives
returns-in-Err-clause-gives g c = λ settings octets h read.
    next_is g.I.Index.seen _ settings octets h c.in-Err.fault c.position.result c.next_behind.result c.next_behind.ensures c.position.ensures
    (c.in-Err.ensures.gives octets read.records h read.reads)

pub returns-in-Ok-false-clause-gives : goal.returns-in-Ok-false-clause-gives
returns-in-Ok-false-clause-gives g c = λ settings octets h read.
    let on = rw c.in-Ok-false.field-0-test at (c.in-Ok-false.ensures.gives octets read.records h read.reads) in (
      record {
        records = read.records;
        reads = on.0;
        index = λ k may. read.index k (might_be_of (format_read c.args.self.now.reader) (format_read c.advance.new.self) c.in-Ok-false.ensures.format k may);
        counts = λ k may. read.counts k (might_be_of (format_read c.args.self.now.reader) (format_read c.advance.new.self) c.in-Ok-false.ensures.format k may);
        settings_are = read.settings_are;
      },
      on.1,
    )

pub returns-in-Ok-true-clause-gives : goal.returns-in-Ok-true-clause-gives
returns-in-Ok-true-clause-gives g c = λ settings octets h read.
    let a = rw c.in-Ok-true.field-0-test at (c.in-Ok-true.ensures.gives octets read.records h read.reads) in
    let format = c.unwrap.result in
    let is : format_read c.advance.new.self ≡ Some format = sym c.format.ensures ∙ c.unwrap.ensures in
    record {
      one = a.one;
      records = read.records;
      item = a.item;
      reads = a.agrees;
      lends = a.lends;
      format_is = is;
      index = in_the_read (λ (k : Format). IsSeenAs k (g.I.Index.seen c.args.self.now.index) h) (format_read c.args.self.now.reader) (format_read c.advance.new.self) format
          c.in-Ok-true.ensures.format is read.index;
      counts = in_the_read (λ (k : Format). c.args.self.now.counts ≡ counts_of k settings h) (format_read c.args.self.now.reader) (format_read c.advance.new.self) format
          c.in-Ok-true.ensures.format is read.counts;
      settings_are = read.settings_are;
    }
