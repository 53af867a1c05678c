use Rattle.hc_framing.proofs.FramingLemmas.{first_found}
use Rattle.hc_framing.proofs.framing.first_length.Goals as goal

pub returns : goal.returns
returns c = first_found c.args.value.now c.first_member.result.now _ c.first_member.ensures c.member_length.ensures
