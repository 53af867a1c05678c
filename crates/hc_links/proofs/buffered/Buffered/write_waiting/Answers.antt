use Rattle.std.proofs.Common.{◌∙◌, List, Ok, ℕ, ap, arith, length, subst, take, ◌++◌}
use Rattle.std.proofs.lemmas.List.{length-drop}
use Rattle.hc_links.proofs.BufferLemmas.{front_got, kept_through}
use Rattle.hc_links.proofs.buffered.Buffered.write_waiting.Goals as goal

pub returns-in_err-count-clause-got : goal.returns-in_err-count-clause-got
returns-in_err-count-clause-got g c = λ octets had.
    let h = c.pieces.invariant.got octets had in (h.0, c.in_err-count.ensures.got h.0 h.1, h.2)

pub returns-in_err-count-clause-kept : goal.returns-in_err-count-clause-kept
returns-in_err-count-clause-kept g c = λ kept had.
    let h = c.pieces.invariant.kept kept had in (h.0, c.in_err-count.ensures.got (kept ++ h.0) h.1)

pub pieces-preserved : goal.pieces-preserved
pieces-preserved g c =
    let few = c.pieces.invariant.few in
    let fewer = c.pieces.invariant.fewer in
    let waited = c.pieces.self.waiting in
    let n = c.in_ok-count.count in record {
      few = rw c.in_ok-count.ensures.count few;
      count = c.in_ok-count.ensures.count ∙ c.pieces.invariant.count;
      given = λ given had. c.in_ok-count.ensures.given given (c.pieces.invariant.given given had);
      reads = λ times had. c.in_ok-count.ensures.reads times (c.pieces.invariant.reads times had);
      got = λ octets had.
          front_got g.R.Link.has_got c.pieces.self.link c.write.new.self waited c.skip.new.self n octets c.skip.ensures
          (subst (λ (all : List ℕ). (got : List ℕ) → g.R.Link.has_got c.pieces.self.link got → g.R.Link.has_got c.write.new.self (got ++ take n all)) c.as_slice-in-pieces.ensures
          c.in_ok-count.ensures.got.2)
          (c.pieces.invariant.got octets had);
      kept = λ kept had.
          kept_through g.R.Link.has_got c.pieces.self.link c.write.new.self (Ok n) c.as_slice-in-pieces.result.now kept c.in_ok-count.ensures.got (c.pieces.invariant.kept kept had);
      fewer = omega (arith, ap length c.skip.ensures, length-drop n waited, fewer);
    }
