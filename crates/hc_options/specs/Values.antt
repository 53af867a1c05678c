-- What the values of options say.
use Rattle.std.specs.Prelude.{ℕ, Bool, ◌==◌, ◌&&◌, ◌||◌, List, [], Option, Some, None, ◌∷◌, ◌+◌, ◌*◌, codes, false, map, min, nat_le, if◌then◌else◌, option_and_then, option_map}
use Rattle.std.specs.Ffi.{without_last}
use Rattle.std.specs.List.{last_or, list_all, slice_split}
use Rattle.std.specs.Option.{option_map_or}
use Rattle.std.specs.Str.{bytes_eq, str_to_ascii_lowercase}
use Rattle.std.specs.Str.Parse.{digits_value}
use Rattle.clap.specs.Words.{Text}
use Rattle.hc_fields.specs.Numbers.{is_number, largest_number}
use Rattle.hc_fields.specs.Tokens.{is_token}
use Rattle.hc_transcript.specs.Limits.{greatest_number}
use Rattle.hc_history.specs.declared.settings.UnmarkedReplies.{UnmarkedReplies}
use Rattle.hc_history.specs.declared.settings.UnmarkedReplies.TheVariants.{Allow, ErrorsOnly}
use Rattle.hc_options.specs.declared.rows.Takes.{Takes}
use Rattle.hc_options.specs.declared.rows.Takes.TheVariants.{AnyText, FileName, Count, Number, Size, AllowedWords, Names, VaryNames, CacheName, Positions, OriginAddress}

-- ---- numbers

-- the seconds, or whatever else is counted, that one or more digits write, from 0 to 2147483648
abbrev pub count_of : Text → Option ℕ
count_of text =
    if is_number text && nat_le (digits_value 10 text) largest_number then Some (digits_value 10 text) else None

-- where the option isn't given it is 0
abbrev pub count_or_zero : Option Text → Option ℕ
count_or_zero None = Some 0
count_or_zero (Some text) = count_of text

-- or it may be left out
abbrev pub count_by : Option Text → Option (Option ℕ)
count_by None = Some None
count_by (Some text) = option_map Some (count_of text)

-- the number that one or more digits write, where it is in that range, and at most 999999999999
abbrev pub number_within : ℕ → ℕ → Text → Option ℕ
number_within least most text =
    if is_number text && (nat_le least (digits_value 10 text) && nat_le (digits_value 10 text) (min most greatest_number)) then Some (digits_value 10 text) else None

-- as many of these units as one or more digits write, where that is from 0 to 999999999999
abbrev pub octets_in : ℕ → Text → Option ℕ
octets_in unit text =
    if is_number text && nat_le (digits_value 10 text * unit) greatest_number then Some (digits_value 10 text * unit) else None

-- the unit that a letter stands for: `k`, `m` and `g`, in either case
abbrev pub unit_of : ℕ → Option ℕ
unit_of letter = if letter == 107 || letter == 75 then Some 1024 else if letter == 109 || letter == 77 then Some 1048576
    else if letter == 103 || letter == 71 then Some 1073741824 else None

-- as many octets as digits say, or as many units where the letter of one ends them
abbrev pub octets_of : Text → Option ℕ
octets_of text =
    option_map_or (λ unit. octets_in unit (without_last text)) (option_and_then unit_of (last_or None text)) (octets_in 1 text)

-- where that is enough
abbrev pub size_from : ℕ → Text → Option ℕ
size_from least text = option_and_then (λ octets. if nat_le least octets then Some octets else None) (octets_of text)

-- the number of a value, if numbers or sizes are taken
abbrev pub number_of : Takes → Text → Option ℕ
number_of AnyText text = None
number_of FileName text = None
number_of Count text = None
number_of (Number least most) text = number_within least most text
number_of (Size least) text = size_from least text
number_of AllowedWords text = None
number_of Names text = None
number_of VaryNames text = None
number_of CacheName text = None
number_of Positions text = None
number_of OriginAddress text = None

-- where it may be left out
abbrev pub number_by : Takes → Option Text → Option (Option ℕ)
number_by takes None = Some None
number_by takes (Some text) = option_map Some (number_of takes text)

-- or is the usual one then
abbrev pub number_or : Takes → ℕ → Option Text → Option ℕ
number_or takes usual None = Some usual
number_or takes usual (Some text) = number_of takes text

-- ---- names

abbrev pub is_comma : ℕ → Bool
is_comma octet = octet == 44

-- the texts between the commas of a list
abbrev pub between_commas : Text → List Text
between_commas list = slice_split is_comma list

-- the names that stand there, in lower case, where each of them is a token
abbrev pub names_of : Text → Option (List Text)
names_of list =
    if list_all is_token (between_commas list) then Some (map str_to_ascii_lowercase (between_commas list)) else None

-- `--ignore`: no names where it isn't given
abbrev pub ignored_by : Option Text → Option (List Text)
ignored_by None = Some []
ignored_by (Some list) = names_of list

-- ---- the flags

-- `--errors-only`: a flag that was given has the value `true`
abbrev pub unmarked_by : Option Text → UnmarkedReplies
unmarked_by None = Allow
unmarked_by (Some text) = if bytes_eq text (codes "true") then ErrorsOnly else Allow

-- and so has every flag: whether it was given
abbrev pub flag_by : Option Text → Bool
flag_by None = false
flag_by (Some text) = bytes_eq text (codes "true")

-- ---- what private functions return

-- how many octets stand before the first comma
abbrev pub len_before_comma : Text → ℕ
len_before_comma [] = 0
len_before_comma (c ∷ cs) = if is_comma c then 0 else len_before_comma cs + 1
