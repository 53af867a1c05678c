-- What Cache-Status says of a reply (RFC 9211 section 2), by the last member of its list: that of the cache nearest to the client.
use Rattle.std.specs.Prelude.{ℕ, Bool, true, false, List, [], ℤ, Option, Some, None, is_some, option_map, find, Result, Ok, Err, codes, if◌then◌else◌}
use Rattle.std.specs.List.{last_or}
use Rattle.std.specs.Str.{bytes_eq}
use Rattle.hc_fields.specs.declared.fields.Field.{Field}
use Rattle.hc_fields.specs.Values.{values_of, joined_values}
use Rattle.hc_status.specs.declared.fault.SfFault.{SfFault}
use Rattle.hc_status.specs.declared.items.Bare.{Bare}
use Rattle.hc_status.specs.declared.items.Bare.TheVariants.{Integer, Str, Token, Bool as Boolean}
use Rattle.hc_status.specs.declared.items.Parameter.{Parameter}
use Rattle.hc_status.specs.declared.items.Member.{Member}
use Rattle.hc_status.specs.declared.marks.Mark.{Mark}
use Rattle.hc_status.specs.declared.marks.Mark.TheVariants.{Hit, Forwarded, Both, Unmarked}
use Rattle.hc_status.specs.Reading.{list_of}

-- the value of the parameter of that key
abbrev pub value_of : List ℕ → List Parameter → Option Bare
value_of key params = option_map (λ p. p.value) (find (λ p. bytes_eq p.key key) params)

-- whether it is the Boolean true
abbrev pub is_true : Option Bare → Bool
is_true (Some (Boolean b)) = b
is_true _ = false

-- the seconds, where it is an Integer (RFC 9211 section 2.4)
abbrev pub seconds_of : Option Bare → Option ℤ
seconds_of (Some (Integer n)) = Some n
seconds_of _ = None

-- whether the item names a cache: a String or a Token does (RFC 9211 section 2)
abbrev pub names_cache : Bare → Bool
names_cache (Str name) = true
names_cache (Token name) = true
names_cache _ = false

-- the mark, by whether the request was a hit (RFC 9211 section 2.1) and went forward (section 2.2), by the seconds left, and by whether it waited for the forward
-- of another one (section 2.6)
abbrev pub mark_by : Bool → Bool → Option ℤ → Bool → Mark
mark_by true true ttl collapsed = Both
mark_by true false ttl collapsed = Hit ttl
mark_by false true ttl collapsed = Forwarded collapsed
mark_by false false ttl collapsed = Unmarked

-- the mark of a member: `hit` and `collapsed` count where they are true, `fwd` whatever its value (this project's own choice)
abbrev pub mark_of_member : Member → Mark
mark_of_member m =
    if names_cache m.item
    then mark_by (is_true (value_of (codes "hit") m.params)) (is_some (value_of (codes "fwd") m.params)) (seconds_of (value_of (codes "ttl") m.params))
    (is_true (value_of (codes "collapsed") m.params))
    else Unmarked

-- the mark by the last member, if there is one
abbrev pub mark_of_last : Option Member → Mark
mark_of_last None = Unmarked
mark_of_last (Some m) = mark_of_member m

-- the mark of a list; one that can't be read is dropped (RFC 8941 section 4.2), and marks nothing
abbrev pub mark_of_list : Result (List Member) SfFault → Mark
mark_of_list (Ok members) = mark_of_last (last_or None members)
mark_of_list (Err fault) = Unmarked

-- the list that joined lines are; no line is the empty list
abbrev pub list_of_text : Option (List ℕ) → Result (List Member) SfFault
list_of_text None = Ok []
list_of_text (Some text) = list_of text

-- the list that the lines of Cache-Status are
abbrev pub cache_status : List Field → Result (List Member) SfFault
cache_status fields = list_of_text (joined_values (values_of (codes "cache-status") fields))

-- the mark of a reply with these fields
abbrev pub mark_of : List Field → Mark
mark_of fields = mark_of_list (cache_status fields)
