use Rattle.std.proofs.Common.{sym, subst}
use Rattle.hc_transcript.specs.Reader.{format_read}
use Rattle.hc_transcript.specs.declared.format.Format.{Format}
use Rattle.hc_transcript.specs.Items.{Item}
use Rattle.hc_history.specs.Found.{AnswersOpen}
use Rattle.hc_history.specs.Right.{AllRight}
use Rattle.hc_audit.proofs.JudgeLemmas.{might_be_of, in_the_read, met_stands, found_here, marked_here, ahead_open, wrong_stands, right_goes_on}
use Rattle.hc_audit.proofs.judge.Judge.step.Goals as goal

pub returns-in-Waiting-clause-gives : goal.returns-in-Waiting-clause-gives
returns-in-Waiting-clause-gives g c = λ settings octets j.
    let on = rw c.in-Waiting.is at (c.in_ok-advance.ensures.gives settings octets j.history j.read) in
    record {
      judging = record {
        history = j.history;
        read = on.0;
        right = λ k may. j.right k (might_be_of (format_read c.args.self.now.reader) (format_read c.advance.new.self.reader) c.in_ok-advance.ensures.format k may);
      };
      waits = on.1;
    }

pub returns-in-Broken-clause-gives : goal.returns-in-Broken-clause-gives
returns-in-Broken-clause-gives g c = λ settings octets j.
    let met = rw c.in-Broken.is at (c.in_ok-advance.ensures.gives settings octets j.history j.read) in
    met_stands c.advance.new.self.reader octets settings j.history c.in-Broken.fault c.in-Broken.position
    (λ k may. j.right k (might_be_of (format_read c.args.self.now.reader) (format_read c.advance.new.self.reader) c.in_ok-advance.ensures.format k may)) met.0 met.1

pub returns-in-Wrong-clause-gives : goal.returns-in-Wrong-clause-gives
returns-in-Wrong-clause-gives g c = λ settings octets j.
    let a = rw c.in-Record.is at (c.in_ok-advance.ensures.gives settings octets j.history j.read) in
    let format = c.in-Record.format in
    wrong_stands g.I.Index.seen c.advance.new.self settings octets j.history format a c.in-Wrong.reason c.records.result
    (in_the_read (λ (k : Format). AllRight k settings j.history) (format_read c.args.self.now.reader) (format_read c.advance.new.self.reader) format
    c.in_ok-advance.ensures.format a.format_is j.right)
    (found_here format _ settings _ a.item j.history _ _ a.settings_are (c.view-view.ensures.item a.item a.lends) c.in-Wrong.is (c.in_ok-finding.ensures.finding j.history a.index))
    c.records.ensures.value

pub returns-clause-gives : goal.returns-clause-gives
returns-clause-gives g c = λ settings octets j.
    let a = rw c.in-Record.is at (c.in_ok-advance.ensures.gives settings octets j.history j.read) in
    let format = c.in-Record.format in
    let item = c.view-view.ensures.item a.item a.lends in
    let opens = subst (λ (i : Item). AnswersOpen j.history i) (sym item) (ahead_open g.I.Index.seen c.advance.new.self settings octets j.history format a) in
    right_goes_on g.I.Index.seen c.advance.new.self settings octets j.history format a _
    (in_the_read (λ (k : Format). AllRight k settings j.history) (format_read c.args.self.now.reader) (format_read c.advance.new.self.reader) format
    c.in_ok-advance.ensures.format a.format_is j.right)
    (found_here format _ settings _ a.item j.history _ _ a.settings_are item c.in_default.is (c.in_ok-finding.ensures.finding j.history a.index))
    c.note.ensures.format (c.in_ok-note.ensures.read settings octets j.history a
    (marked_here format _ settings _ a.item j.history _ a.settings_are item (c.in_ok-finding.ensures.mark j.history a.index opens)))
