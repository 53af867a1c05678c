-- By which settings a report was made, and of which targets.
use Rattle.std.specs.Bool.{beq}
use Rattle.std.specs.Prelude.{◌&&◌, ◌||◌, Bool, true, false, List, ℕ, Option, Some, codes, is_some, option_and_then, option_map, unwrap_or}
use Rattle.std.specs.Str.{bytes_eq}
use Rattle.serde_json.specs.Data.{Data, Members, no_members, member}
use Rattle.serde_json.specs.Find.{as_bool, as_null, as_object, as_str, get, get_member}
use Rattle.hc_figures.specs.Reports.{are_same, number_of}

-- the settings that it says, if it says some: those of an older version don't
abbrev pub settings_in : Data → Option Members
settings_in report = option_and_then as_object (get (codes "settings") report)

-- ---- values

abbrev pub same_numbers : Data → Data → Bool
same_numbers had asked = are_same (number_of (Some had)) (number_of (Some asked))

abbrev pub same_flags : Data → Data → Bool
same_flags had asked = unwrap_or (option_and_then (λ a. option_map (λ b. beq a b) (as_bool asked)) (as_bool had)) false

abbrev pub same_texts : Data → Data → Bool
same_texts had asked = unwrap_or (option_and_then (λ a. option_map (λ b. bytes_eq a b) (as_str asked)) (as_str had)) false

-- whether they are the same number, truth value or text, or both null
abbrev pub read_alike : Data → Data → Bool
read_alike had asked = same_numbers had asked || (same_flags had asked || (same_texts had asked || (is_some (as_null had) && is_some (as_null asked))))

-- ---- settings

-- whether the members have that setting, with that value
abbrev pub has_setting : Members → List ℕ → Data → Bool
has_setting had name asked = unwrap_or (option_map (λ value. read_alike value asked) (get_member name had)) false

-- and each of these
abbrev pub has_settings : Members → Members → Bool
has_settings had no_members = true
has_settings had (member name asked rest) = has_setting had name asked && has_settings had rest

-- whether a report was made by these settings, or doesn't say by which
abbrev pub is_made_by : Data → Members → Bool
is_made_by report asked = unwrap_or (option_map (λ had. has_settings had asked) (settings_in report)) true

-- ---- targets

-- the digest of the targets of its recording
abbrev pub digest_in : Data → Option (List ℕ)
digest_in report = option_and_then as_str (option_and_then (get (codes "digest")) (get (codes "targets") report))
