use Rattle.std.proofs.Common.{arith, refl, sym, ◌∙◌}
use Rattle.hc_gaps.specs.Forms.{is_space}
use Rattle.hc_gaps.proofs.TightLemmas.{all_taken, no_spaces, octet_taken, space_taken}
use Rattle.hc_gaps.proofs.forms.tighten.Goals as goal

pub loop-index-preserved-then-is_space : goal.loop-index-preserved-then-is_space
loop-index-preserved-then-is_space c = record {
  order = omega arith;
  spaces = space_taken (is_space c.loop-index.place) c.args.octets.now c.loop-index.behind c.loop-index.index _ c.loop-index.invariant.order
      c.loop-index-test.true refl c.loop-index.invariant.spaces (sym c.is_space.ensures ∙ c.if-is_space.true);
  is = c.loop-index.invariant.is;
}

pub loop-index-preserved : goal.loop-index-preserved
loop-index-preserved c = record {
  order = omega arith;
  spaces = no_spaces (is_space c.behind-place.result) c.args.octets.now _;
  is = octet_taken c.loop-index.place c.behind-place.result c.loop-index.is_separated c.separates-is_separator.result c.args.octets.now c.kept.result.now
      c.loop-index.tight.items c.extend_from_slice.new.self.items c.push.new.self.items _ c.loop-index.behind c.loop-index.index _
      c.loop-index.invariant.order c.loop-index-test.true refl c.loop-index.invariant.spaces (sym c.is_space.ensures ∙ c.if-is_space.false)
      c.behind-place.ensures c.separates-is_separator.ensures c.kept.ensures c.in_ok-extend_from_slice.ensures.items c.in_ok-push.ensures.items
      c.loop-index.invariant.is;
}

pub returns : goal.returns
returns c =
    all_taken c.loop-index.place c.loop-index.is_separated c.args.octets.now c.loop-index.tight.items _ c.loop-index.behind c.loop-index.index
    c.loop-index.invariant.order c.loop-index-test.false c.loop-index.invariant.spaces c.loop-index.invariant.is
