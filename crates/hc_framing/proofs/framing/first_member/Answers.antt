use Rattle.std.proofs.Common.{rules, tests}
use Rattle.std.proofs.lemmas.Iterator.{YieldsList-from_slice}
use Rattle.std.proofs.lemmas.Iterator.Search.{position_from_yields_List}
use Rattle.hc_framing.specs.Framing.{is_comma}
use Rattle.hc_framing.proofs.FramingLemmas.{comma_is}
use Rattle.hc_framing.proofs.framing.first_member.Goals as goal

pub returns : goal.returns
returns c =
    comma_is c.args.value.now c.position-comma.result c.unwrap_or.result is_comma
    (position_from_yields_List is_comma _ _ _ c.position-comma.ensures.ran (YieldsList-from_slice c.args.value.now cc) (λ x b q k. search (rules, tests)))
    c.unwrap_or.ensures
