use Rattle.std.proofs.Common.{◌≡◌, ℕ, List, Option, Some, None, IsTrue}
use Rattle.hc_fields.specs.Tokens.{is_token}
use Rattle.hc_directives.specs.Directives.{directive_of, directive_named}
use Rattle.hc_directives.specs.Texts.{quoted, directive_text, IsWritable}
use Rattle.hc_directives.proofs.TextLemmas.{directive_reads, argument_reads, bare_reads}
use Rattle.hc_directives.proofs.laws.written_directive_read_back.Goals as goal

read_back : (name : List ℕ) (argument : Option (List ℕ)) → IsTrue (is_token name) → IsWritable argument → directive_of (directive_text name argument) ≡ Some (directive_named name argument)
read_back name None named writable = bare_reads name named
read_back name (Some argument) named writable = directive_reads name (quoted argument) argument named (argument_reads argument writable)

pub returns : goal.returns
returns c = read_back
