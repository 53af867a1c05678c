use Rattle.std.proofs.Common.{◌≡◌, ◌∷◌, ◌∙◌, ap, subst, arith, Option}
use Rattle.hc_transcript.specs.declared.format.Format.{Format}
use Rattle.hc_transcript.specs.Items.{Item}
use Rattle.hc_transcript.specs.History.{next_position}
use Rattle.hc_transcript.specs.Reader.{format_read}
use Rattle.hc_status.specs.declared.marks.Mark.{Mark}
use Rattle.hc_history.specs.declared.verdicts.Counts.{Counts}
use Rattle.hc_history.specs.Counting.{counts_of, marked, one_more}
use Rattle.hc_history.specs.Marks.{item_mark}
use Rattle.hc_history.specs.Seen.{IsSeenAs}
use Rattle.hc_audit.proofs.JudgeLemmas.{of_the_read}
use Rattle.hc_audit.proofs.judge.Judge.note.Goals as goal

pub returns-clause-read : goal.returns-clause-read
returns-clause-read g c = λ settings octets h a mark-is.
    let position : c.records-position.result ≡ next_position h = omega (arith, c.records-position.ensures.value, a.reads.stands.records) in
    record {
      records = a.one ∷ a.records;
      reads = a.reads;
      index = of_the_read (λ (k : Format). IsSeenAs k (g.I.Index.seen c.note.new.self) (a.item ∷ h)) (format_read c.args.self.now.reader) c.args.format
          a.format_is
          (subst (λ (i : Item). IsSeenAs c.args.format (g.I.Index.seen c.note.new.self) (i ∷ h)) (c.view-view.ensures.item a.item a.lends) (c.in_ok-note.ensures h position a.index));
      counts = of_the_read (λ (k : Format). c.count.new.self ≡ counts_of k settings (a.item ∷ h)) (format_read c.args.self.now.reader) c.args.format
          a.format_is
          (c.count.ensures
          ∙ ap (λ (m : Option Mark). marked m (one_more c.args.self.now.counts)) mark-is
          ∙ ap (λ (n : Counts). marked (item_mark c.args.format settings h a.item) (one_more n)) a.counts);
      settings_are = a.settings_are;
    }
