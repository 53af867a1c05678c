-- Values that mean the same though they are written in other ways, and fields that a directive names.
use Rattle.std.specs.Prelude.{ℕ, Bool, true, false, ◌&&◌, ◌||◌, not, ◌==◌, ◌-◌, ◌++◌, nat_lt, is_some, List, [], ◌∷◌, Option, Some, None, length, take, drop, count_by, slice_index, bytes_eq, codes, if◌then◌else◌}
use Rattle.std.specs.List.{list_all, list_any}
use Rattle.std.specs.Str.{str_eq_ignore_ascii_case, str_to_ascii_lowercase}
use Rattle.hc_fields.specs.declared.fields.Field.{Field}
use Rattle.hc_fields.specs.Lists.{is_blank, list_members, members_of}
use Rattle.hc_fields.specs.Values.{has_name, joined_values, values_of}
use Rattle.hc_gaps.specs.declared.forms.Place.{Place}
use Rattle.hc_gaps.specs.declared.forms.Place.TheVariants.{Plain, Quoted, Escaped}

-- ---- a value without the blanks that mean nothing (RFC 9110 sections 5.6.1, 5.6.3 and 5.6.6)

-- where the octet behind this one stands: a quote opens and closes a quoted string, a backslash inside of one escapes the next octet (section 5.6.4)
abbrev pub place_behind : Place → ℕ → Place
place_behind Plain octet = if octet == 34 then Quoted else Plain
place_behind Quoted octet = if octet == 34 then Plain else if octet == 92 then Escaped else Quoted
place_behind Escaped octet = Quoted

-- a comma or a semicolon
abbrev pub is_separator : ℕ → Bool
is_separator octet = octet == 44 || octet == 59

-- one of these that stands outside of quoted strings
abbrev pub separates : Place → ℕ → Bool
separates Plain octet = is_separator octet
separates Quoted octet = false
separates Escaped octet = false

-- a space or a tab that does
abbrev pub is_space : Place → ℕ → Bool
is_space Plain octet = is_blank octet
is_space Quoted octet = false
is_space Escaped octet = false

-- blanks apart, a separator stands there first, or nothing
abbrev pub begins_separated : List ℕ → Bool
begins_separated [] = true
begins_separated (c ∷ cs) = if is_blank c then begins_separated cs else is_separator c

-- all octets but the blanks outside of quoted strings before which, or behind which, a separator or nothing stands, blanks apart; whether that is so before the first octet is given
abbrev pub tight_from : Place → Bool → List ℕ → List ℕ
tight_from place separated [] = []
tight_from place separated (c ∷ cs) =
    if is_space place c
    then (if separated || begins_separated cs then tight_from place separated cs else c ∷ tight_from place separated cs)
    else c ∷ tight_from (place_behind place c) (separates place c) cs

abbrev pub tight_form : List ℕ → List ℕ
tight_form value = tight_from Plain true value

-- the same of a value that may be there
abbrev pub tight_value : Option (List ℕ) → List ℕ
tight_value None = []
tight_value (Some value) = tight_form value

-- of the lines of that name, joined (RFC 9110 section 5.3)
abbrev pub tight_lines : List ℕ → List Field → List ℕ
tight_lines name fields = tight_value (joined_values (values_of name fields))

-- ---- values that mean the same

-- the fields that are lists without an order, in which letters may be of either case (RFC 9110 section 12.5)
abbrev pub preference_names : List (List ℕ)
preference_names = codes "accept" ∷ codes "accept-charset" ∷ codes "accept-encoding" ∷ codes "accept-language" ∷ []

-- Vary selects by such a list
abbrev pub is_preference : Bool → List ℕ → Bool
is_preference selector name = selector && list_any (λ known. bytes_eq known name) preference_names

-- how often a member stands in a list
abbrev pub times_in : List ℕ → List (List ℕ) → ℕ
times_in member members = count_by (λ other. bytes_eq member other) members

-- each member of one of both stands equally often in both
abbrev pub same_members : List (List ℕ) → List (List ℕ) → Bool
same_members one other = list_all (λ member. times_in member one == times_in member other) (one ++ other)

-- both values are the same octets; as a list of preferences, they have the same members in any order, be letters of either case
abbrev pub same_meaning : Bool → List ℕ → List ℕ → Bool
same_meaning preference one other =
    if preference then same_members (list_members (str_to_ascii_lowercase one)) (list_members (str_to_ascii_lowercase other)) else bytes_eq one other

-- both have lines of that name in lower case, and these mean the same
abbrev pub same_lines : List ℕ → List Field → List Field → Bool → Bool
same_lines name one other selector =
    has_name name one && has_name name other && same_meaning (is_preference selector name) (tight_lines name one) (tight_lines name other)

-- the same of a name in any case; whether Vary selects by the field is given (RFC 9111 section 4.1)
unfoldable pub means_the_same : List ℕ → List Field → List Field → Bool → Bool
means_the_same name one other selector = same_lines (str_to_ascii_lowercase name) one other selector

-- ---- the fields that a directive names (RFC 9111 sections 5.2.2.4 and 5.2.2.7)

-- what stands behind that directive in a member that begins with it, in any case
abbrev pub behind_directive : List ℕ → List ℕ → Option (List ℕ)
behind_directive directive member =
    if str_eq_ignore_ascii_case (take (length directive) member) directive then Some (drop (length directive) member) else None

-- nothing stands behind it
abbrev pub is_nothing : Option (List ℕ) → Bool
is_nothing None = false
is_nothing (Some []) = true
is_nothing (Some (c ∷ cs)) = false

-- the argument that stands behind it, and behind `=`
abbrev pub argument_in : Option (List ℕ) → Option (List ℕ)
argument_in None = None
argument_in (Some []) = None
argument_in (Some (c ∷ cs)) = if c == 61 then Some cs else None

-- a quote stands at both ends
abbrev pub is_quoted : List ℕ → Bool
is_quoted argument = nat_lt 1 (length argument) && slice_index argument 0 == 34 && slice_index argument (length argument - 1) == 34

-- an argument without the quotes about it
abbrev pub unquoted : List ℕ → List ℕ
unquoted argument = if is_quoted argument then take (length argument - 2) (drop 1 argument) else argument

-- the names that an argument lists
abbrev pub listed_in : Option (List ℕ) → List (List ℕ)
listed_in None = []
listed_in (Some argument) = list_members (unquoted argument)

-- the names that a member says with that directive
abbrev pub named_by : List ℕ → List ℕ → List (List ℕ)
named_by directive member = listed_in (argument_in (behind_directive directive member))

-- a member says that directive of the field of that name, in any case
abbrev pub is_said_of : List ℕ → List ℕ → List ℕ → Bool
is_said_of name directive member = list_any (λ named. str_eq_ignore_ascii_case named name) (named_by directive member)

-- the response says `no-cache` or `private` of it, so that a cache need not store it (RFC 9111 section 3.1)
unfoldable pub need_not_be_stored : List ℕ → List Field → Bool
need_not_be_stored name response =
    list_any (λ member. is_said_of name (codes "no-cache") member || is_said_of name (codes "private") member) (members_of (codes "cache-control") response)

-- a line has that name, in any case
abbrev pub has_any_case : List ℕ → List Field → Bool
has_any_case name fields = list_any (λ f. str_eq_ignore_ascii_case f.name name) fields

-- a member says that directive without an argument
abbrev pub is_bare : List ℕ → List ℕ → Bool
is_bare directive member = is_nothing (behind_directive directive member)

-- or with one
abbrev pub has_argument : List ℕ → List ℕ → Bool
has_argument directive member = is_some (argument_in (behind_directive directive member))

-- it says it of a field that both have
abbrev pub names_common : List ℕ → List Field → List Field → List ℕ → Bool
names_common directive response reply member = list_any (λ named. has_any_case named response && has_any_case named reply) (named_by directive member)

-- the response says that directive, each time of some fields alone, of which the reply has none that the response has
unfoldable pub leaves_out : List ℕ → List Field → List Field → Bool
leaves_out directive response reply =
    list_any (has_argument directive) (members_of (codes "cache-control") response)
    && not (list_any (λ member. is_bare directive member || names_common directive response reply member) (members_of (codes "cache-control") response))
