-- How a directive is written.
use Rattle.std.specs.Prelude.{ℕ, ◌||◌, ◌==◌, List, [], ◌∷◌, ◌++◌, Option, Some, None, IsTrue, if◌then◌else◌}
use Rattle.std.specs.Bool.{⊤}
use Rattle.std.specs.List.{flat_map, list_all}
use Rattle.hc_directives.specs.QuotedStrings.{is_escapable}

-- an octet in a quoted string: a backslash stands before a quote and before a backslash (RFC 9110 section 5.6.4)
abbrev pub escaped : ℕ → List ℕ
escaped octet = if octet == 34 || octet == 92 then 92 ∷ octet ∷ [] else octet ∷ []

-- a quoted string that says the text
abbrev pub quoted : List ℕ → List ℕ
quoted text = 34 ∷ (flat_map escaped text ++ 34 ∷ [])

-- a directive: its name, then an equals sign and its argument as a quoted string, if it has one (RFC 9111 section 5.2)
abbrev pub directive_text : List ℕ → Option (List ℕ) → List ℕ
directive_text name None = name
directive_text name (Some argument) = name ++ 61 ∷ quoted argument

-- the argument, if there is one, has no controls but tabs
abbrev pub IsWritable : Option (List ℕ) → Type 0
IsWritable None = ⊤
IsWritable (Some argument) = IsTrue (list_all is_escapable argument)
