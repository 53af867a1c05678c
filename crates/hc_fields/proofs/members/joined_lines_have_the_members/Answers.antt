use Rattle.hc_fields.specs.Values.{values_of}
use Rattle.hc_fields.proofs.JoinLemmas.{joined_have}
use Rattle.hc_fields.proofs.members.joined_lines_have_the_members.Goals as goal

pub returns : goal.returns
returns c = λ name fields value closed joined. joined_have (values_of name fields) value closed joined
