-- The arguments and options of commands, as rows of a table.
use Rattle.std.specs.Prelude.{◌≡◌, ◌⊎◌, Bool, true, false, List, [], ◌∷◌, ◌++◌, Some, codes, if◌then◌else◌, is_some}
use Rattle.std.specs.Str.{bytes_eq}
use Rattle.clap.specs.Words.{Rule, Text, new_rule}
use Rattle.clap.specs.declared.builder.action.ArgAction.TheVariants.{Append, SetTrue}
use Rattle.hc_options.specs.declared.rows.Kind.{Kind}
use Rattle.hc_options.specs.declared.rows.Kind.TheVariants.{Argument, Flag, Repeated, Valued}
use Rattle.hc_options.specs.declared.rows.Row.{Row}
use Rattle.hc_options.specs.declared.rows.Takes.{Takes}
use Rattle.hc_options.specs.declared.rows.Takes.TheVariants.{AnyText, FileName, Count, Number, Size, AllowedWords, Names, VaryNames, CacheName, Positions, OriginAddress}
use Rattle.hc_options.specs.Values.{count_of, names_of, number_within, size_from}
use Rattle.hc_options.specs.Allowing.{normalized_of, words_of}

-- a row, but for what help says
pub record Entry : Type 0 where
  pub name : Text
  pub kind : Kind
  pub takes : Takes
  pub required : Bool

abbrev pub entry_of : Row → Entry
entry_of row = record { name = row.name.now; kind = row.kind; takes = row.takes; required = row.required }

-- it is one of them
abbrev pub IsAmong : Entry → List Entry → Type 0
IsAmong entry [] = ⊥
IsAmong entry (first ∷ rest) = (entry ≡ first) ⊎ IsAmong entry rest

-- ---- what a parse sees of it

abbrev pub flag_rule : Text → Rule
flag_rule name = record (new_rule name) { long = Some name; action = Some SetTrue }

-- an option with one value
abbrev pub valued_rule : Text → Bool → Rule
valued_rule name required = record (new_rule name) { long = Some name; value_names = 1; required = required }

-- and one with as many as it is given
abbrev pub repeated_rule : Text → Bool → Rule
repeated_rule name required = record (valued_rule name required) { action = Some Append }

abbrev pub argument_rule : Text → Bool → Rule
argument_rule name required = record (new_rule name) { required = required }

abbrev pub kind_rule : Kind → Text → Bool → Rule
kind_rule Argument name required = argument_rule name required
kind_rule Flag name required = flag_rule name
kind_rule Valued name required = valued_rule name required
kind_rule Repeated name required = repeated_rule name required

abbrev pub rule_by : Entry → Rule
rule_by entry = kind_rule entry.kind entry.name entry.required

abbrev pub row_rule : Row → Rule
row_rule row = kind_rule row.kind row.name.now row.required

-- ---- which values are taken

-- whether a row takes that text; a cache's name, positions and an origin are read where they are asked for
abbrev pub is_taken : Takes → Text → Bool
is_taken AnyText text = true
is_taken FileName text = if bytes_eq text (codes "-") then false else true
is_taken Count text = is_some (count_of text)
is_taken (Number least most) text = is_some (number_within least most text)
is_taken (Size least) text = is_some (size_from least text)
is_taken AllowedWords text = is_some (words_of text)
is_taken Names text = is_some (names_of text)
is_taken VaryNames text = is_some (normalized_of text)
is_taken CacheName text = true
is_taken Positions text = true
is_taken OriginAddress text = true

-- ---- the tables

abbrev pub argument : Text → Takes → Bool → Entry
argument name takes required = record { name = name; kind = Argument; takes = takes; required = required }

abbrev pub option : Text → Takes → Entry
option name takes = record { name = name; kind = Valued; takes = takes; required = false }

abbrev pub flag : Text → Entry
flag name = record { name = name; kind = Flag; takes = AnyText; required = false }

-- the transcript of a command that reads one once
abbrev pub audited : Entry
audited = argument (codes "FILE") AnyText true

-- by which settings a command judges
abbrev pub judging : List Entry
judging = option (codes "slack") Count ∷ option (codes "ignore") Names ∷ flag (codes "errors-only") ∷ option (codes "allow") AllowedWords
    ∷ option (codes "default-ttl") Count ∷ option (codes "grace") Count ∷ option (codes "normalized") VaryNames ∷ option (codes "age-slack") Count
    ∷ flag (codes "infer-marks") ∷ []

-- and how many replies a command has to judge
abbrev pub counting : List Entry
counting = option (codes "min-hits") Count ∷ option (codes "min-judged") Count ∷ []

-- of a command that judges all replies
abbrev pub terms : List Entry
terms = judging ++ counting

-- and those of `audit`
abbrev pub audit_entries : List Entry
audit_entries = audited ∷ terms
