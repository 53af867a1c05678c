use Rattle.std.proofs.Common.{Option, ap, sym, ◌∙◌}
use Rattle.std.specs.Prelude.{option_and_then}
use Rattle.hc_service.specs.declared.open.OpenForward.{OpenForward}
use Rattle.hc_service.specs.State.{Awaited, exchange_for}
use Rattle.hc_open.specs.Links.{IsLink}
use Rattle.hc_open.proofs.TableLemmas.{found}
use Rattle.hc_core.proofs.desk.Desk.exchange_of.Goals as goal

pub returns-in-Some : goal.returns-in-Some
returns-in-Some g c = λ settings s stands.
    let it = found IsLink _ _ c.in-Some.link.now (stands.links.by_number.at c.args.forward) (sym c.in-Some.ensures.value) in
    c.exchange.ensures ∙ ap (λ (x : OpenForward). exchange_for x.purpose) it.2.forward
    ∙ ap (λ (o : Option Awaited). option_and_then (λ (a : Awaited). exchange_for a.forward.purpose) o) (sym it.1)
