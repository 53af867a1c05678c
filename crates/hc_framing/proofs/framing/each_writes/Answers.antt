use Rattle.std.proofs.Common.{rules, tests}
use Rattle.std.proofs.lemmas.Iterator.Search.{all_from_yields_List}
use Rattle.std.proofs.lemmas.Iterator.Splits.{YieldsList-from_slice_split}
use Rattle.hc_framing.specs.Framing.{is_comma, member_length, is_number_of}
use Rattle.hc_framing.proofs.framing.each_writes.Goals as goal

pub returns : goal.returns
returns c =
    all_from_yields_List (λ member. is_number_of c.args.length (member_length member)) _ _ _ c.all.ensures.ran
    (YieldsList-from_slice_split _ is_comma c.args.value.now c.split.ensures.rest c.split.ensures.done c.split.ensures.closure (λ x b q k. search (rules, tests)))
    (λ x b q k. search (rules, tests))
