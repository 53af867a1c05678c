use Rattle.std.proofs.Common.{Option, false, ap, sym, ◌∙◌}
use Rattle.std.specs.Prelude.{is_some, option_map, unwrap_or}
use Rattle.hc_service.specs.Reactions.{is_for_store}
use Rattle.hc_service.specs.State.{Awaited}
use Rattle.hc_open.specs.Links.{IsLink}
use Rattle.hc_open.proofs.TableLemmas.{found}
use Rattle.hc_core.proofs.UnreadLemmas.{is_alone}
use Rattle.hc_core.proofs.desk.Desk.is_background.Goals as goal

pub returns-in-Some : goal.returns-in-Some
returns-in-Some g c = λ settings s stands.
    let it = found IsLink _ _ c.in-Some.link.now (stands.links.by_number.at c.args.forward) (sym c.in-Some.ensures.value) in
    let answer = is_alone c.in-Some.link.now it.0 c.is_none.result it.2 (ap is_some (sym c.exchange.ensures) ∙ c.is_none.ensures) in
    answer ∙ ap (λ (o : Option Awaited). unwrap_or (option_map (λ (a : Awaited). is_for_store a.forward.purpose) o) false) (sym it.1)
