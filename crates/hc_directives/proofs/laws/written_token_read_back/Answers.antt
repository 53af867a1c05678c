use Rattle.hc_directives.proofs.TextLemmas.{directive_reads, token_reads}
use Rattle.hc_directives.proofs.laws.written_token_read_back.Goals as goal

pub returns : goal.returns
returns c = λ name argument named token. directive_reads name argument argument named (token_reads argument token)
