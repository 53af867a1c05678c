-- The directives of Cache-Control (RFC 9111 section 5.2).
use Rattle.std.specs.Prelude.{ℕ, Bool, not, ◌==◌, List, [], ◌∷◌, Option, Some, None, if◌then◌else◌, codes}
use Rattle.std.specs.List.{list_any, filter_map, count_by, before_first, after_first}
use Rattle.std.specs.Option.{is_some, option_map}
use Rattle.std.specs.Str.{bytes_eq, str_to_ascii_lowercase}
use Rattle.hc_fields.specs.declared.fields.Field.{Field}
use Rattle.hc_fields.specs.Lists.{members_of}
use Rattle.hc_fields.specs.Numbers.{number_of}
use Rattle.hc_directives.specs.declared.cache_control.Seconds.{Seconds}
use Rattle.hc_directives.specs.declared.cache_control.Seconds.TheVariants.{Absent, Bare, Value, Unreadable}
use Rattle.hc_fields.specs.Tokens.{is_token}
use Rattle.hc_directives.specs.QuotedStrings.{quoted_text, unescaped}

-- a directive: its name in lower case, and what its argument says, if it has one
pub record Directive : Type 0 where
  pub name : List ℕ
  pub argument : Option (List ℕ)

-- what a Cache-Control says: its directives in order, and how many members are no directives
pub record CacheControl : Type 0 where
  pub directives : List Directive
  pub unreadable : ℕ

-- ---- from the fields to the directives

-- an equals sign
abbrev pub is_equals : ℕ → Bool
is_equals octet = octet == 61

-- what an argument says: a token itself, a quoted string without its quotes and backslashes
abbrev pub argument_of : List ℕ → Option (List ℕ)
argument_of text = if is_token text then Some text else option_map unescaped (quoted_text text)

-- a directive of that name and argument
abbrev pub directive_named : List ℕ → Option (List ℕ) → Directive
directive_named name argument = record { name = str_to_ascii_lowercase name; argument = argument }

-- the directive that a member is: a token, or a token, an equals sign and an argument
abbrev pub directive_of : List ℕ → Option Directive
directive_of member =
    if is_token member then Some (directive_named member None)
    else if is_token (before_first is_equals member)
    then option_map (λ argument. directive_named (before_first is_equals member) (Some argument)) (argument_of (after_first is_equals member))
    else None

-- what the members say
abbrev pub read_members : List (List ℕ) → CacheControl
read_members members = record {
  directives = filter_map directive_of members;
  unreadable = count_by (λ member. not (is_some (directive_of member))) members;
}

-- what the Cache-Control lines say
abbrev pub cache_control : List Field → CacheControl
cache_control fields = read_members (members_of (codes "cache-control") fields)

-- ---- what the directives say

-- whether the directive has that name, in any case
abbrev pub is_named : List ℕ → Directive → Bool
is_named name directive = bytes_eq directive.name (str_to_ascii_lowercase name)

-- whether a directive has that name
abbrev pub has_directive : List ℕ → List Directive → Bool
has_directive name directives = list_any (is_named name) directives

-- the first directive of that name, which is the one that counts
abbrev pub first_directive : List ℕ → List Directive → Option Directive
first_directive name [] = None
first_directive name (d ∷ ds) = if is_named name d then Some d else first_directive name ds

-- the number, or that it is none
abbrev pub seconds_read : Option ℕ → Seconds
seconds_read (Some seconds) = Value seconds
seconds_read None = Unreadable

-- the seconds that an argument says
abbrev pub seconds_of_argument : Option (List ℕ) → Seconds
seconds_of_argument None = Bare
seconds_of_argument (Some text) = seconds_read (number_of text)

-- the seconds that a directive says
abbrev pub seconds_of : Option Directive → Seconds
seconds_of None = Absent
seconds_of (Some directive) = seconds_of_argument directive.argument
