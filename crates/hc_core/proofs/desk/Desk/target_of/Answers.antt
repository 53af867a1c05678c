use Rattle.std.proofs.Common.{Option, Some, ap, sym, ◌∙◌}
use Rattle.std.specs.Prelude.{option_map}
use Rattle.hc_service.specs.declared.open.OpenForward.{OpenForward}
use Rattle.hc_service.specs.State.{Awaited}
use Rattle.hc_open.specs.Links.{IsLink}
use Rattle.hc_open.proofs.TableLemmas.{found}
use Rattle.hc_core.proofs.desk.Desk.target_of.Goals as goal

pub returns-in-Some : goal.returns-in-Some
returns-in-Some g c = λ settings s stands.
    let it = found IsLink _ _ c.in-Some.link.now (stands.links.by_number.at c.args.forward) (sym c.in-Some.ensures.value) in
    ap (λ (x : OpenForward). Some x.target) it.2.forward ∙ ap (λ (o : Option Awaited). option_map (λ (a : Awaited). a.forward.target) o) (sym it.1)
