use Rattle.std.proofs.Common.{◌≡◌, ℕ, Bool, true, false, ◌+◌, ◌-◌, ◌≤◌, List, Option, Some, None, IfSome, min, nat_lt, unwrap_or, option_map, option_and_then, codes, arith, rules, if◌then◌else◌}
use Rattle.std.specs.Option.{option_or}
use Rattle.std.specs.List.{slice_get}
use Rattle.std.proofs.lemmas.Bool.Decides.{nat_tests}
use Rattle.std.specs.Str.Parse.{digits_value}
use Rattle.hc_fields.specs.declared.fields.Field.{Field}
use Rattle.hc_fields.specs.Values.{values_of}
use Rattle.hc_fields.specs.Lists.{list_members}
use Rattle.hc_fields.specs.Numbers.{number_of, is_number}
use Rattle.hc_directives.specs.Directives.{Directive, cache_control, first_directive, seconds_of, seconds_of_argument, seconds_read}
use Rattle.hc_fresh.specs.declared.ages.Times.{Times}
use Rattle.hc_fresh.specs.Lifetimes.{seconds_stated, seconds_until, directive_lifetime, freshness_lifetime}
use Rattle.hc_fresh.specs.Ages.{age_line, age_value, current_age, fresh, corrected_initial_age}

-- at most the limit
abbrev IsSmall : ℕ → Type 0
IsSmall n = n ≤ 2147483648

-- ---- numbers

capped : (b : Bool) (n : ℕ) → IfSome (if b then Some (min 2147483648 n) else None) IsSmall
capped true n = omega arith
capped false n = search rules

number_small : (text : List ℕ) → IfSome (number_of text) IsSmall
number_small text = capped (is_number text) (digits_value 10 text)

unwrapped : (o : Option ℕ) → IfSome o IsSmall → IsSmall (unwrap_or o 0)
unwrapped None h = omega arith
unwrapped (Some n) h = h

number_of_some : (o : Option (List ℕ)) → IfSome (option_and_then number_of o) IsSmall
number_of_some None = search rules
number_of_some (Some text) = number_small text

pub age_value_small : (fields : List Field) → age_value fields ≤ 2147483648
age_value_small fields = unwrapped _ (number_of_some (option_and_then (λ line. slice_get (list_members line) 0) (age_line fields)))

-- ---- lifetimes

either : (a b : Option ℕ) → IfSome a IsSmall → IfSome b IsSmall → IfSome (option_or a b) IsSmall
either None b h k = k
either (Some n) b h k = h

read_small : (o : Option ℕ) → IfSome o IsSmall → IfSome (seconds_stated (seconds_read o)) IsSmall
read_small None h = omega arith
read_small (Some n) h = h

argument_small : (argument : Option (List ℕ)) → IfSome (seconds_stated (seconds_of_argument argument)) IsSmall
argument_small None = omega arith
argument_small (Some text) = read_small (number_of text) (number_small text)

stated_small : (directive : Option Directive) → IfSome (seconds_stated (seconds_of directive)) IsSmall
stated_small None = search rules
stated_small (Some d) = argument_small d.argument

directive_small : (name : List ℕ) (fields : List Field) → IfSome (directive_lifetime name fields) IsSmall
directive_small name fields = stated_small (first_directive name (cache_control fields).directives)

until_small : (date : ℕ) (line : Option (List ℕ)) → IfSome (option_map (seconds_until date) line) IsSmall
until_small date None = search rules
until_small date (Some text) = omega arith

pub lifetime_small : (fields : List Field) (date : ℕ) → freshness_lifetime fields date ≤ 2147483648
lifetime_small fields date =
    unwrapped _ (either _ _ (directive_small (codes "s-maxage") fields)
    (either _ _ (directive_small (codes "max-age") fields) (until_small date (slice_get (values_of (codes "expires") fields) 0))))

-- ---- ages

older : (initial response now later : ℕ) → now ≤ later → min 2147483648 (initial + (now - response)) ≤ min 2147483648 (initial + (later - response))
older initial response now later h = omega arith

-- what isn't over one number isn't over a greater one
not_over : (lifetime age older : ℕ) → age ≤ older → nat_lt age lifetime ≡ false → nat_lt older lifetime ≡ false
not_over lifetime age older h k = grind (arith, nat_tests)

pub stays_stale : (lifetime : ℕ) (times : Times) (now later : ℕ) → now ≤ later → fresh lifetime (current_age times now) ≡ false → fresh lifetime (current_age times later) ≡ false
stays_stale lifetime times now later h k =
    not_over lifetime (current_age times now) (current_age times later) (older (corrected_initial_age times) times.response_time now later h) k
