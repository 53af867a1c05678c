use Rattle.std.proofs.Common.{refl, sym, ◌∙◌, ap, subst, Some, List, ℕ}
use Rattle.hc_head.specs.Reading.{IsWholeHead}
use Rattle.hc_framing.proofs.ReaderLemmas.{framing_fault_told}
use Rattle.hc_framing.proofs.reader.MessageReader.read_head.Goals as goal

pub returns-in-Err-framing : goal.returns-in-Err-framing
returns-in-Err-framing g c = (
  refl,
  framing_fault_told g.H.MessageHead.form g.met.H.MessageHead.laws
      c.args.self.now c.in-Err-framing.fault (g.met.H.MessageHead.laws.shows c.args.self.now.kind c.in-Ok-Whole.head c.in-Err-framing.fault (sym c.framing.ensures ∙ c.in-Err-framing.is)) (record {
        head = c.in-Ok-Whole.head;
        len = c.in-Ok-Whole.field-0-1;
        begins = subst (λ (o : List ℕ). IsWholeHead g.H.MessageHead.form.begins g.H.MessageHead.form.field_count o c.args.self.now.room c.in-Ok-Whole.head c.in-Ok-Whole.field-0-1) c.as_slice.ensures (rw c.in-Ok-Whole.field-0-is at c.in-Ok-Whole.ensures.gives);
        framed = sym c.framing.ensures ∙ c.in-Err-framing.is;
      }),
)

pub returns-in-Ok : goal.returns-in-Ok
returns-in-Ok g c = (
  record { kind_is = refl; room_is = refl; stage_is = refl; start_is = refl; search_is = refl },
  (
    record {
      head = c.in-Ok-Whole.head;
      len = c.in-Ok-Whole.field-0-1;
      begins = subst (λ (o : List ℕ). IsWholeHead g.H.MessageHead.form.begins g.H.MessageHead.form.field_count o c.args.self.now.room c.in-Ok-Whole.head c.in-Ok-Whole.field-0-1) c.as_slice.ensures (rw c.in-Ok-Whole.field-0-is at c.in-Ok-Whole.ensures.gives);
      framed = sym c.framing.ensures ∙ c.in-Ok.is;
    },
    ap (λ h. Some h) c.into_bare.ensures,
  ),
)
