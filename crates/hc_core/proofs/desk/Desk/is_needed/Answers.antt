use Rattle.std.proofs.Common.{Option, false, ap, sym, ◌∙◌}
use Rattle.std.specs.Prelude.{option_map, unwrap_or}
use Rattle.hc_service.specs.State.{Awaited}
use Rattle.hc_open.specs.Links.{IsLink}
use Rattle.hc_open.proofs.TableLemmas.{found}
use Rattle.hc_core.specs.Held.{goes_on}
use Rattle.hc_core.proofs.desk.Desk.is_needed.Goals as goal

pub returns-in-Some : goal.returns-in-Some
returns-in-Some g c = λ settings s stands.
    let it = found IsLink _ _ c.in-Some.link.now (stands.links.by_number.at c.args.forward) (sym c.in-Some.ensures.value) in
    c.goes_on.ensures ∙ ap goes_on it.2.forward ∙ ap (λ (o : Option Awaited). unwrap_or (option_map (λ (a : Awaited). goes_on a.forward) o) false) (sym it.1)
