use Rattle.hc_transcript.specs.Reader.{format_read}
use Rattle.hc_transcript.specs.declared.format.Format.{Format}
use Rattle.hc_history.specs.WrongReplies.{AreWrongIn}
use Rattle.hc_audit.proofs.JudgeLemmas.{might_be_of, in_the_read}
use Rattle.hc_audit.proofs.SurveyLemmas.{met_ends}
use Rattle.hc_audit.proofs.judge.Judge.survey_whole.Goals as goal

pub returns-in-Waiting-clause-gives : goal.returns-in-Waiting-clause-gives
returns-in-Waiting-clause-gives g c = λ settings octets was.
    let told = c.records.invariant settings octets was in
    let s = told.2 in
    let on = rw c.in-Waiting.is at (c.in_ok-advance.ensures.gives settings octets told.0 s.read) in (
      told.0,
      told.1,
      record {
        surveying = record {
          read = on.0;
          wrong = λ k may. s.wrong k (might_be_of (format_read c.records.self.reader) (format_read c.advance.new.self.reader) c.in_ok-advance.ensures.format k may);
        };
        waits = on.1;
      },
      told.3,
      told.4,
    )

pub returns-in-Broken-clause-gives : goal.returns-in-Broken-clause-gives
returns-in-Broken-clause-gives g c = λ settings octets was.
    let told = c.records.invariant settings octets was in
    let s = told.2 in
    let met = rw c.in-Broken.is at (c.in_ok-advance.ensures.gives settings octets told.0 s.read) in (
      told.0,
      told.1,
      met_ends c.records.self.reader c.advance.new.self.reader octets settings s.read.records told.0 c.in-Broken.fault c.in-Broken.position told.1 s.read.reads
          c.in_ok-advance.ensures.format s.wrong met.0 met.1,
      told.3,
      told.4,
    )

pub records-preserved : goal.records-preserved
records-preserved g c = λ settings octets was.
    let told = c.records.invariant settings octets was in
    let s = told.2 in
    let a = rw c.in-Record.is at (c.in_ok-advance.ensures.gives settings octets told.0 s.read) in
    c.in_ok-take_in-in-Record.ensures.goes_on settings octets (
      told.0,
      told.1,
      record {
        ahead = a;
        wrong = in_the_read (λ (k : Format). AreWrongIn k settings told.0 told.1) (format_read c.records.self.reader) (format_read c.advance.new.self.reader) c.in-Record.format
            c.in_ok-advance.ensures.format a.format_is s.wrong;
      },
      told.3,
      told.4,
    )
