-- What the options say that allow more than the strict rules.
use Rattle.std.specs.Prelude.{◌≡◌, Bool, false, ◌||◌, List, [], ◌∷◌, Option, Some, None, codes, if◌then◌else◌}
use Rattle.std.specs.List.{list_all, list_any}
use Rattle.std.specs.Str.{bytes_eq}
use Rattle.clap.specs.Words.{Text}
use Rattle.hc_history.specs.declared.allowed.Allowed.{Allowed}
use Rattle.hc_options.specs.declared.allowing.AllowedWords.{AllowedWords}
use Rattle.hc_options.specs.Values.{between_commas, count_by, count_or_zero, flag_by, names_of}

-- ---- the words of `--allow`

abbrev pub allowed_words : List Text
allowed_words = codes "added-fields" ∷ codes "joined-lines" ∷ codes "ranges" ∷ []

abbrev pub is_word : Text → Bool
is_word text = list_any (λ known. bytes_eq known text) allowed_words

-- whether a word stands between the commas of a list
abbrev pub has_word : Text → Text → Bool
has_word list word = list_any (λ text. bytes_eq text word) (between_commas list)

abbrev pub is_all : Text → Bool
is_all list = bytes_eq list (codes "all")

-- what the list allows, where each of its texts is a word, or it is `all`
abbrev pub words_of : Text → Option AllowedWords
words_of list =
    if is_all list || list_all is_word (between_commas list)
    then Some (record {
      added_fields = is_all list || has_word list (codes "added-fields");
      joined_lines = is_all list || has_word list (codes "joined-lines");
      ranges = is_all list || has_word list (codes "ranges");
    })
    else None

-- `--allow`: nothing where it isn't given
abbrev pub allow_by : Option Text → Option AllowedWords
allow_by None = Some (record { added_fields = false; joined_lines = false; ranges = false })
allow_by (Some list) = words_of list

-- ---- names

-- the names of fields, of which none is `*`
abbrev pub normalized_of : Text → Option (List Text)
normalized_of list = if has_word list (codes "*") then None else names_of list

-- `--normalized`: no names where it isn't given
abbrev pub normalized_by : Option Text → Option (List Text)
normalized_by None = Some []
normalized_by (Some list) = normalized_of list

-- ---- all of it

-- the values, by their names, ask to allow that
pub record AsksAllowed (value : Text → Option Text) (allowed : Allowed) : Type 0 where
  pub words_are : allow_by (value (codes "allow"))
      ≡ Some (record { added_fields = allowed.added_fields; joined_lines = allowed.joined_lines; ranges = allowed.ranges })
  pub default_lifetime_is : count_by (value (codes "default-ttl")) ≡ Some allowed.default_lifetime
  pub grace_is : count_by (value (codes "grace")) ≡ Some allowed.grace
  pub normalized_is : normalized_by (value (codes "normalized")) ≡ Some allowed.normalized
  pub age_slack_is : count_or_zero (value (codes "age-slack")) ≡ Some allowed.age_slack
  pub inferred_marks_is : flag_by (value (codes "infer-marks")) ≡ allowed.inferred_marks
