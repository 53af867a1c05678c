-- A command line, as a parse sees it.
use Rattle.std.specs.Prelude.{◌≡◌, ◌≢◌, ◌⊎◌, ℕ, List, [], ◌∷◌, Option, Some, Result, IfOk, true, false, codes, map, option_and_then, slice_get}
use Rattle.std.specs.declared.alloc.AllocError.{AllocError}
use Rattle.clap.specs.Words.{App, Row, Rule, Text, app_of, first_of, new_app, with_rule, with_subcommand}
use Rattle.clap.specs.Simple.{on_top}
use Rattle.clap.specs.declared.Command.{Command as Builder}
use Rattle.clap.specs.declared.builder.command.Command.TheViews.{out-Command}
use Rattle.clap.specs.declared.error.ErrorKind.{ErrorKind}
use Rattle.clap.specs.declared.error.ErrorKind.TheVariants as kind
use Rattle.hc_options.specs.Rows.{Entry, audit_entries, rule_by}

-- ---- what a command takes

-- a command with these arguments after its own
abbrev pub with_rules : App → List Rule → App
with_rules app [] = app
with_rules app (rule ∷ rest) = with_rules (with_rule app rule) rest

-- a command of that name with these
abbrev pub command_with : Text → List Entry → App
command_with name entries = with_rules (new_app name) (map rule_by entries)

abbrev pub audit : App
audit = command_with (codes "audit") audit_entries

-- the command above its subcommands, without them
abbrev pub program : App
program = on_top (λ s. record s { has_version = true; subcommand_required = true }) (new_app (codes "hcache"))

-- and with `audit` alone
abbrev pub auditing : App
auditing = with_subcommand program audit.top

-- a command that takes that, where memory sufficed, of which no argument is global
abbrev pub IsMade : App → Result Builder AllocError → Type 0
IsMade app made = IfOk made (λ command. (app_of command ≡ app) × ((out-Command command).has_globals ≡ false))

-- ---- what the words say

-- the first value of that name after the subcommand
abbrev pub value_in : Option (Text × List Row) → Text → Option Text
value_in given name = option_and_then (λ p. first_of name p.1) given

-- ---- plain words

-- the word does not begin with a hyphen (45)
abbrev pub IsFileName : Text → Type 0
IsFileName word = slice_get word 0 ≢ Some 45

-- the word is `-`, or does not begin with a hyphen
abbrev pub IsWord : Text → Type 0
IsWord word = (word ≡ codes "-") ⊎ IsFileName word

-- ---- the exit status

-- the exit status after an error of the parse: help and the version end well, unless they can't be written
abbrev pub IsErrorStatus : ErrorKind → ℕ → Type 0
IsErrorStatus kind.OutOfMemory status = status ≡ 3
IsErrorStatus kind.DisplayHelp status = (status ≡ 0) ⊎ (status ≡ 3)
IsErrorStatus kind.DisplayVersion status = (status ≡ 0) ⊎ (status ≡ 3)
IsErrorStatus _ status = status ≡ 64
