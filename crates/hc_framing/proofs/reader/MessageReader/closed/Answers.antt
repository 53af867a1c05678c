use Rattle.std.proofs.Common.{◌≡◌, List, ℕ, rules, sym, ◌∙◌, subst, inl, inr}
use Rattle.hc_head.specs.Reading.{IsWholeHead}
use Rattle.hc_framing.specs.declared.reader.MessageStage.{MessageStage}
use Rattle.hc_framing.specs.declared.reader.MessageStage.TheVariants as at
use Rattle.hc_framing.proofs.ReaderLemmas.{none_at_end, cut_in_body}
use Rattle.hc_framing.proofs.reader.MessageReader.closed.Goals as goal

failed_or_not : (stage : MessageStage) → stage ≡ at.Head → stage ≡ at.Failed → ⊥
failed_or_not stage head failed = search (rules, sym head ∙ failed)

pub unreachable-requires : goal.unreachable-requires
unreachable-requires g c = elim c.requires [
  | inl a ↦ none_at_end g.H.MessageHead.form g.met.H.MessageHead.laws a.kind a.room c.args.self.now a.octets c.in-Ok-Whole.field-0-0 c.in-Ok-Whole.field-0-1 c.in-Head.is a.agrees
      (subst (λ (o : List ℕ). IsWholeHead g.H.MessageHead.form.begins g.H.MessageHead.form.field_count o c.args.self.now.room c.in-Ok-Whole.field-0-0 c.in-Ok-Whole.field-0-1) c.as_slice.ensures
      (rw c.in-Ok-Whole.field-0-is at c.in-Ok-Whole.ensures.gives))
  | inr failed ↦ failed_or_not c.args.self.now.stage c.in-Head.is failed
]

pub returns-else-ends_with_close-clause-err : goal.returns-else-ends_with_close-clause-err
returns-else-ends_with_close-clause-err g c = λ kind room octets agrees.
    cut_in_body g.H.MessageHead.form g.met.H.MessageHead.laws kind room c.args.self.now octets c.in-Body.is agrees (c.ends_with_close.ensures.no c.if-ends_with_close.false)
