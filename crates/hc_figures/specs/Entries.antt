-- What objects are made of: entries, each a name and its value, that are put in one behind another. Of two with the same name the later one stays.
use Rattle.std.specs.Prelude.{◌≡◌, ◌&&◌, ◌||◌, ℕ, Bool, true, false, not, List, [], ◌∷◌, Option, None, Some}
use Rattle.std.specs.Str.{bytes_eq}
use Rattle.serde_json.specs.Data.{Data, Members, no_members, boolean, null, number, object, put, string, unsigned}
use Rattle.serde_json.specs.Find.{get_member}

abbrev pub Entry : Type 0
Entry = List ℕ × Data

-- ---- values

abbrev pub number_data : ℕ → Data
number_data n = number (unsigned n)

-- a number, or null where there is none
abbrev pub some_data : Option ℕ → Data
some_data None = null
some_data (Some n) = number_data n

-- ---- entries

abbrev pub number_at : List ℕ → ℕ → Entry
number_at name n = (name, number_data n)

abbrev pub text_at : List ℕ → List ℕ → Entry
text_at name text = (name, string text)

abbrev pub flag_at : List ℕ → Bool → Entry
flag_at name b = (name, boolean b)

-- ---- objects

-- the members, with these put in
abbrev pub with_all : List Entry → Members → Members
with_all [] old = old
with_all (entry ∷ entries) old = with_all entries (put entry.0 entry.1 old)

-- the object of these
abbrev pub object_with : List Entry → Data
object_with entries = object (with_all entries no_members)

-- ---- what members have

-- whether one of these has that name
abbrev pub is_named : List ℕ → List Entry → Bool
is_named name [] = false
is_named name (entry ∷ entries) = bytes_eq name entry.0 || is_named name entries

-- no two of them have the same
abbrev pub are_distinct : List Entry → Bool
are_distinct [] = true
are_distinct (entry ∷ entries) = not (is_named entry.0 entries) && are_distinct entries

-- the members have each of these
abbrev pub HaveAll : List Entry → Members → Type 0
HaveAll [] all = Unit {0}
HaveAll (entry ∷ entries) all = (get_member entry.0 all ≡ Some entry.1) × HaveAll entries all
