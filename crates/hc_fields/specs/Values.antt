-- The values of a name among field lines (RFC 9110 section 5.2).
use Rattle.std.specs.Prelude.{ℕ, Bool, not, List, [], ◌∷◌, ◌++◌, Option, Some, None, filter, if◌then◌else◌, codes}
use Rattle.std.specs.List.{list_any, join_by}
use Rattle.std.specs.Str.{bytes_eq}
use Rattle.hc_fields.specs.declared.fields.Field.{Field}

-- a line of that name and that value
abbrev pub line : List ℕ → List ℕ → Field
line name value = record { name = name; value = value }

-- the values of the lines of that name, in order
abbrev pub values_of : List ℕ → List Field → List (List ℕ)
values_of name [] = []
values_of name (f ∷ fs) = if bytes_eq f.name name then f.value ∷ values_of name fs else values_of name fs

-- whether a line has that name
abbrev pub has_name : List ℕ → List Field → Bool
has_name name fields = list_any (λ f. bytes_eq f.name name) fields

-- the lines of that name, in order
abbrev pub lines_of : List ℕ → List Field → List Field
lines_of name fields = filter (λ f. bytes_eq f.name name) fields

-- the lines of other names, in order
abbrev pub without : List ℕ → List Field → List Field
without name fields = filter (λ f. not (bytes_eq f.name name)) fields

-- several values as one, with a comma and a space between each two (RFC 9110 section 5.3)
abbrev pub joined_values : List (List ℕ) → Option (List ℕ)
joined_values [] = None
joined_values (value ∷ values) = Some (join_by (λ v. v) (codes ", ") (value ∷ values))

-- the one value, where there is exactly one
abbrev pub only : List (List ℕ) → Option (List ℕ)
only [] = None
only (value ∷ []) = Some value
only (value ∷ other ∷ values) = None

-- the value of the one line of that name, where there is exactly one
abbrev pub only_value : List ℕ → List Field → Option (List ℕ)
only_value name fields = only (values_of name fields)

-- the lines after an update: the older ones whose names no newer one has, and then the newer ones (RFC 9111 section 3.2)
abbrev pub updated : List Field → List Field → List Field
updated older newer = filter (λ f. not (has_name f.name newer)) older ++ newer
