use Rattle.std.proofs.Common.{List, ℕ, ◌≡◌, ◌+◌, ◌++◌, ap, sym, subst, ◌∙◌, take, length}
use Rattle.hc_framing.specs.Messages.{BeginsBody}
use Rattle.hc_framing.specs.BodyReading.{AgreesFraming}
use Rattle.hc_framing.proofs.BodyLemmas.{part_within, part_on, part_end}
use Rattle.hc_framing.proofs.body.BodyReader.feed.Goals as goal

pub returns-then-part : goal.returns-then-part
returns-then-part c = record {
  gives = λ framing octets agrees.
      let part = c.in_ok-part.part in
      let piece = c.args.piece.now in
      let used = c.loop-used.used in
      let body = c.loop-used.self.octets in
      let rest = c.split_at.result.1.now in
      let within = c.loop-used.invariant.within in
      let gives = c.in_ok-part.ensures.gives framing (octets ++ take used piece) body (c.loop-used.invariant.agrees framing octets agrees) in
      let whole : c.freeze.new.self.whole ≡ body ++ take part.body rest =
      c.in_ok-freeze.ensures ∙ c.in_ok-extend_from_slice.ensures.ok ∙ ap (λ (o : List ℕ). body ++ o) c.split_at-in-loop-used.ensures.front in (
        (part_within framing c.step.new.self octets body piece rest used part c.split_at.ensures.back within gives).1,
        subst (λ (o : List ℕ). BeginsBody framing (octets ++ take (used + part.used) piece) o (length octets + (used + part.used))) (sym whole)
            (part_end framing c.step.new.self octets body piece rest used part c.split_at.ensures.back within gives c.if-part.true),
      );
}

pub loop-used-preserved : goal.loop-used-preserved
loop-used-preserved c =
    let part = c.in_ok-part.part in
    let piece = c.args.piece.now in
    let used = c.loop-used.used in
    let body = c.loop-used.self.octets in
    let rest = c.split_at.result.1.now in
    let within = c.loop-used.invariant.within in
    let before = c.requires.octets ++ take used piece in
    let now = c.in_ok-part.ensures.gives c.requires.framing before body (c.loop-used.invariant.agrees c.requires.framing c.requires.octets c.requires.agrees) in
    record {
      within = (part_within c.requires.framing c.step.new.self c.requires.octets body piece rest used part c.split_at.ensures.back within now).1;
      agrees = λ framing octets agrees.
          let gives = c.in_ok-part.ensures.gives framing (octets ++ take used piece) body (c.loop-used.invariant.agrees framing octets agrees) in
          let kept : c.extend_from_slice.new.self ≡ body ++ take part.body rest =
          c.in_ok-extend_from_slice.ensures.ok ∙ ap (λ (o : List ℕ). body ++ o) c.split_at-in-loop-used.ensures.front in
          subst (λ (o : List ℕ). AgreesFraming framing c.step.new.self (octets ++ take (used + part.used) piece) o) (sym kept)
          (part_on framing c.step.new.self octets body piece rest used part c.split_at.ensures.back within gives c.if-part.false).1;
    }
