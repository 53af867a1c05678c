use Rattle.std.proofs.Common.{◌∙◌, ◌<◌, ℕ, subst, sym}
use Rattle.hc_connection.specs.Forwards.{AreKept}
use Rattle.hc_connection.specs.Moves.{most_reads}
use Rattle.hc_connection.specs.Sides.{Tells}
use Rattle.hc_connection.proofs.ForwardLemmas.{keeps_none, tells_none}
use Rattle.hc_connection.proofs.peers.Peers.waited.Goals as goal

pub returns-then-is_some-clause-kept : goal.returns-then-is_some-clause-kept
returns-then-is_some-clause-kept g c = λ log kept. c.told-told.ensures.kept log (c.waiting.invariant.kept log kept)

pub returns-then-is_some-clause-tells : goal.returns-then-is_some-clause-tells
returns-then-is_some-clause-tells g c = λ few log told.
    c.told-told.ensures.tells (subst (λ (n : ℕ). n < most_reads) (sym c.waiting.invariant.reads) few) log (c.waiting.invariant.tells few log told)

pub waiting-preserved : goal.waiting-preserved
waiting-preserved g c =
    let none = sym c.is_some.ensures ∙ c.if-is_some.false in record {
      tells = λ few log told.
          tells_none (Tells g.C.Link.has_given g.C.Link.has_got g.C.Link.was_read g.C.Link.count c.told-told.new.self.client) c.told-told.result log none
          (c.told-told.ensures.tells (subst (λ (n : ℕ). n < most_reads) (sym c.waiting.invariant.reads) few) log (c.waiting.invariant.tells few log told));
      kept = λ log kept.
          keeps_none (AreKept g.O.Link.Link.has_given g.O.Link.Link.has_got c.told-told.new.self.forwards.links) c.told-told.result log none
          (c.told-told.ensures.kept log (c.waiting.invariant.kept log kept));
      reads = c.told-told.ensures.reads ∙ c.waiting.invariant.reads;
      number = c.told-told.ensures.number ∙ c.waiting.invariant.number;
    }
