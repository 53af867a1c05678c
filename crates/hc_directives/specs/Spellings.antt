-- What is meant by the directives that private functions return.
use Rattle.std.specs.Prelude.{ℕ, List}
use Rattle.std.specs.Option.{option_map}
use Rattle.hc_directives.specs.declared.spelling.Argument.{Argument}
use Rattle.hc_directives.specs.declared.spelling.Argument.TheVariants.{Token, Quoted}
use Rattle.hc_directives.specs.declared.spelling.Spelling.{Spelling}
use Rattle.hc_directives.specs.QuotedStrings.{unescaped}
use Rattle.hc_directives.specs.Directives.{Directive, directive_named}

-- what an argument says, by how it is spelled
abbrev pub argument_meant : Argument → List ℕ
argument_meant (Token text) = text.now
argument_meant (Quoted text) = unescaped text.now

-- the directive that is spelled so
abbrev pub directive_meant : Spelling → Directive
directive_meant spelling = directive_named spelling.name.now (option_map argument_meant spelling.argument)
