use Rattle.std.proofs.Common.{◌∙◌, ap, List, subst, sym, ℕ}
use Rattle.hc_service.specs.declared.event.Event.{Event}
use Rattle.hc_scripts.specs.ScriptParts.{BeginsEvent, event_with}
use Rattle.hc_scripts.proofs.ScriptEventLemmas.{begins_bare}
use Rattle.hc_scripts.proofs.reading.read_event.Goals as goal

pub returns-then-not-has_octets-clause-ok : goal.returns-then-not-has_octets-clause-ok
returns-then-not-has_octets-clause-ok c =
    let line = c.in_ok-line.line in
    subst (λ (e : Event). BeginsEvent c.args.text.now e c.in_ok-line.behind.now) (sym (c.event_with.ensures ∙ ap (λ (octets : List ℕ). event_with line octets) c.new.ensures))
    (begins_bare line.kind line.number line.moment line.size c.args.text.now c.in_ok-line.behind.now (sym c.if-not-has_octets.ensures) c.in_ok-line.ensures.ok)
