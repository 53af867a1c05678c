use Rattle.std.proofs.Common.{[], Option, ap, sym, ◌∙◌}
use Rattle.std.specs.Prelude.{option_map, unwrap_or}
use Rattle.hc_incoming.specs.Counts.{count_of}
use Rattle.hc_service.specs.State.{Awaited}
use Rattle.hc_open.specs.Links.{IsLink}
use Rattle.hc_open.proofs.TableLemmas.{found}
use Rattle.hc_core.proofs.desk.Desk.held_of_forward.Goals as goal

pub returns-in-Some : goal.returns-in-Some
returns-in-Some g c = λ settings s stands.
    let it = found IsLink _ _ c.in-Some.link.now (stands.links.by_number.at c.args.forward) (sym c.in-Some.ensures.value) in
    c.heard.ensures _ it.0.received it.2.reads ∙ ap (λ (o : Option Awaited). count_of (unwrap_or (option_map (λ (a : Awaited). a.received) o) [])) (sym it.1)
