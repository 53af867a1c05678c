use Rattle.std.proofs.Common.{◌≡◌, rules, refl, sym, ◌∙◌, inl, inr}
use Rattle.hc_framing.specs.declared.reader.MessageStage.{MessageStage}
use Rattle.hc_framing.specs.declared.reader.MessageStage.TheVariants as at
use Rattle.hc_framing.proofs.ReaderLemmas.{closes}
use Rattle.hc_framing.proofs.reader.MessageReader.end.Goals as goal

failed_or_not : (stage : MessageStage) → stage ≡ at.Body → stage ≡ at.Failed → ⊥
failed_or_not stage body failed = search (rules, sym body ∙ failed)

pub returns-in-Ok-clause-gives : goal.returns-in-Ok-clause-gives
returns-in-Ok-clause-gives g c = λ kind room octets agrees.
    (refl, closes g.H.MessageHead.form g.met.H.MessageHead.laws kind room c.args.self.now _ octets c.in-Ok.ensures.ok.0.stage_is agrees c.in-Ok.ensures.ok.0.until refl c.in-Ok.ensures.ok.1.head_is c.in-Ok.ensures.ok.1.body_is)

pub returns-in-Ok-clause-has : goal.returns-in-Ok-clause-has
returns-in-Ok-clause-has g c = elim c.requires [
  | inl a ↦ let e = closes g.H.MessageHead.form g.met.H.MessageHead.laws a.kind a.room c.args.self.now _ a.octets c.in-Ok.ensures.ok.0.stage_is a.agrees c.in-Ok.ensures.ok.0.until refl c.in-Ok.ensures.ok.1.head_is c.in-Ok.ensures.ok.1.body_is in (e.message, e.holds)
  | inr failed ↦ absurd (failed_or_not c.args.self.now.stage c.in-Ok.ensures.ok.0.stage_is failed)
]
