-- What a report has, as JSON, of wrong replies by their kind.
use Rattle.std.specs.Prelude.{◌≡◌, ◌+◌, ◌-◌, ◌^◌, ◌&&◌, ◌==◌, ℕ, Bool, true, false, List, Option, Some, codes, nat_le, min, option_and_then, option_map, unwrap_or, IsUtf8}
use Rattle.serde_json.specs.Data.{Data, Members, no_members, member, number, unsigned, put}
use Rattle.serde_json.specs.Find.{as_bool, as_number, as_object, as_u64, get, get_member}
use Rattle.serde_json.specs.Read.{read}
use Rattle.hc_figures.specs.Kinds.{Kind}

-- ---- counts

-- the number that a value is, if it is one that counts
abbrev pub number_of : Option Data → Option ℕ
number_of value = option_and_then as_u64 (option_and_then as_number value)

-- how many there are of a kind: none where no member says so
abbrev pub count_under : Kind → Members → ℕ
count_under kind counts = unwrap_or (number_of (get_member kind counts)) 0

-- with one more of a kind, up to the greatest number
abbrev pub with_one_more : Kind → Members → Members
with_one_more kind counts = put kind (number (unsigned (min (count_under kind counts + 1) (2 ^ 64 - 1)))) counts

-- the sum of two numbers, if both are there
abbrev pub plus : Option ℕ → Option ℕ → Option ℕ
plus a b = option_and_then (λ m. option_map (λ n. m + n) b) a

-- the sum of the members, if each counts something
abbrev pub sum_of : Members → Option ℕ
sum_of no_members = Some 0
sum_of (member kind count counts) = plus (number_of (Some count)) (sum_of counts)

-- whether the base has as many of each kind of the members, by all counts, or more
abbrev pub covers : (Kind → ℕ) → Members → Members → Bool
covers base all no_members = true
covers base all (member kind count counts) = nat_le (count_under kind all) (base kind) && covers base all counts

-- how many of these the base has: of each kind as many as both have
abbrev pub known_of : (Kind → ℕ) → Members → Members → ℕ
known_of base all no_members = 0
known_of base all (member kind count counts) = min (count_under kind all) (base kind) + known_of base all counts

-- how many of these aren't there any more: of each kind as many as there are fewer of it now
abbrev pub gone_of : Members → (Kind → ℕ) → Members → ℕ
gone_of all now no_members = 0
gone_of all now (member kind count counts) = (count_under kind all - now kind) + gone_of all now counts

-- ---- a report

-- whether its transcript doesn't break
abbrev pub whole_in : Data → Option Bool
whole_in report = option_and_then as_bool (option_and_then (get (codes "whole")) (get (codes "ends") report))

abbrev pub is_whole : Data → Bool
is_whole report = unwrap_or (whole_in report) false

-- its wrong replies by their kind, and how many it counts
abbrev pub counts_in : Data → Option Members
counts_in report = option_and_then as_object (get (codes "baseline") report)

abbrev pub wrong_in : Data → Option ℕ
wrong_in report = number_of (option_and_then (get (codes "count")) (get (codes "wrong") report))

-- whether these numbers are the same, if both are there
abbrev pub are_same : Option ℕ → Option ℕ → Bool
are_same a b = unwrap_or (option_and_then (λ m. option_map (λ n. m == n) b) a) false

-- whether those by their kind are all that it counts
abbrev pub has_all : Data → Bool
has_all report = are_same (option_and_then sum_of (counts_in report)) (wrong_in report)

-- ---- a baseline

-- a report is one if its transcript is whole and it has all wrong replies by their kind
abbrev pub is_baseline : Data → Bool
is_baseline report = is_whole report && has_all report

-- the octets are JSON of one
pub record IsBaseline (octets : List ℕ) (report : Data) : Type 0 where
  pub is_text : IsUtf8 octets
  pub is_json : read octets ≡ Some report
  pub is : is_baseline report ≡ true

-- how many it has of a kind
abbrev pub base_in : Data → Kind → ℕ
base_in report kind = unwrap_or (option_map (count_under kind) (counts_in report)) 0

-- how many of its wrong replies aren't there any more, where there are so many of each kind now
abbrev pub gone_in : Data → (Kind → ℕ) → ℕ
gone_in report now = unwrap_or (option_map (λ counts. gone_of counts now counts) (counts_in report)) 0
