use Rattle.std.proofs.Common.{◌≡◌, ◌∷◌, ℕ, List, ap, arith, rules, string_bytes, subst}
use Rattle.hc_transcript.specs.History.{next_position}
use Rattle.hc_transcript.specs.Reader.{records_read}
use Rattle.hc_shown.specs.declared.span.Span.{Span}
use Rattle.hc_shown.specs.Shown.{AddsIf, is_within}
use Rattle.hc_shown.specs.Showings.{Shows, ShowsAll, ShowsBefore}
use Rattle.hc_shown.proofs.ShowingLemmas.{all_of, met_before, nothing_more, shown_next}
use Rattle.hc_shown.proofs.showing.Showing.show_next.Goals as goal

pub returns-then-records-self-clause-gives : goal.returns-then-records-self-clause-gives
returns-then-records-self-clause-gives c = λ span octets text has.
    let last = ap (λ (s : Span). s.last) has.span_is in
    nothing_more (λ (t : List ℕ). ShowsAll span octets t) text _
    (all_of c.args.self.now span octets text has (omega (arith, last, c.if-records-self.true, c.records.ensures.value)))

pub returns-in-Err : goal.returns-in-Err
returns-in-Err c = record {
  gives = λ span octets text has.
      let last = ap (λ (s : Span). s.last) has.span_is in
      nothing_more (λ (t : List ℕ). ShowsBefore span octets t c.position.result c.in-Err.fault) text _
      (met_before c.args.self.now.reader c.advance.new.self span octets text has.records has.history c.in-Err.fault c.position.result has.agrees c.in-Err.ensures.format has.shown
      (omega (arith, last, c.if-records-self.false, c.records.ensures.value, has.agrees.stands.records))
      (c.in-Err.ensures.gives octets has.records has.history has.agrees (search rules)) c.position.ensures);
  shrinks = λ is. absurd cc;
}

pub returns-in_ok-show-in-Ok-true-clause-gives : goal.returns-in_ok-show-in-Ok-true-clause-gives
returns-in_ok-show-in-Ok-true-clause-gives c = λ span octets text has.
    let last = ap (λ (s : Span). s.last) has.span_is in
    let a = rw c.in-Ok-true.field-0-test at (c.in-Ok-true.ensures.gives octets has.records has.history has.agrees) in
    let position : records_read c.advance.new.self ≡ next_position has.history = omega (arith, a.agrees.stands.records) in
    let adds = subst (λ (s : Span). AddsIf (is_within s (next_position has.history)) (next_position has.history) a.item (string_bytes c.args.out.now) (string_bytes c.show.new.out)) has.span_is
    (c.in_ok-show-in-Ok-true.ensures (next_position has.history) a.item position a.lends) in
    let next = shown_next span has.history a.item text _ _ has.shown adds in (
      next.0,
      next.1,
      record {
        span_is = has.span_is;
        records = a.one ∷ has.records;
        history = a.item ∷ has.history;
        agrees = a.agrees;
        some = has.some;
        no_more = omega (arith, last, c.if-records-self.false, c.records.ensures.value, has.agrees.stands.records);
        shown = next.2;
      },
    )

pub returns-in-Ok-false-clause-gives : goal.returns-in-Ok-false-clause-gives
returns-in-Ok-false-clause-gives c = λ span octets text has.
    let last = ap (λ (s : Span). s.last) has.span_is in
    let on = rw c.in-Ok-false.field-0-test at (c.in-Ok-false.ensures.gives octets has.records has.history has.agrees) in
    nothing_more (λ (t : List ℕ). Shows (record { reader = c.advance.new.self; span = c.args.self.now.span }) span octets t) text _ (record {
      has = record {
        span_is = has.span_is;
        records = has.records;
        history = has.history;
        agrees = on.0;
        some = has.some;
        no_more = has.no_more;
        shown = has.shown;
      };
      waits = on.1;
      fewer = omega (arith, last, c.if-records-self.false, c.records.ensures.value, has.agrees.stands.records);
    })
