-- By which settings a report is made, as its JSON says it.
use Rattle.std.specs.Prelude.{◌≡◌, ℕ, Bool, true, false, List, [], ◌∷◌, ◌++◌, Some, codes, map}
use Rattle.serde_json.specs.Data.{Members, no_members, member, null, object}
use Rattle.serde_json.specs.Find.{get_member}
use Rattle.serde_json.specs.View.{view}
use Rattle.hc_figures.specs.Entries.{Entry, flag_at, number_at, some_data, text_at, with_all}
use Rattle.hc_figures.specs.declared.baseline.Baseline.{Baseline}
use Rattle.hc_figures.specs.Made.{is_made_by}
use Rattle.hc_shown.specs.Octets.{octets_text}
use Rattle.hc_history.specs.declared.allowed.Allowed.{Allowed}
use Rattle.hc_history.specs.declared.settings.Settings.{Settings}
use Rattle.hc_history.specs.declared.settings.UnmarkedReplies.{UnmarkedReplies}
use Rattle.hc_history.specs.declared.settings.UnmarkedReplies.TheVariants.{Allow, ErrorsOnly}

-- ---- names

-- each as the name of a member
abbrev pub name_entries : List (List ℕ) → List Entry
name_entries names = map (λ name. (octets_text name, null)) names

abbrev pub in_order : List (List ℕ) → Members
in_order names = with_all (name_entries names) no_members

-- one more behind those before it, and a comma between them
abbrev pub with_name : List ℕ → List ℕ → List ℕ
with_name [] name = name
with_name (first ∷ rest) name = (first ∷ rest) ++ 44 ∷ [] ++ name

-- the names of the members, behind those before them
abbrev pub joined : List ℕ → Members → List ℕ
joined text no_members = text
joined text (member name value rest) = joined (with_name text name) rest

-- the names in order, each once, with commas between them
abbrev pub names_text : List (List ℕ) → List ℕ
names_text names = joined [] (in_order names)

-- ---- settings

abbrev pub is_errors_only : UnmarkedReplies → Bool
is_errors_only Allow = false
is_errors_only ErrorsOnly = true

-- what is allowed beside the strict rules, each by its option or by its word of `--allow`
abbrev pub allowed_entries : Allowed → List Entry
allowed_entries allowed =
    flag_at (codes "added_fields") allowed.added_fields ∷ flag_at (codes "joined_lines") allowed.joined_lines ∷ flag_at (codes "ranges") allowed.ranges
    ∷ (codes "default_ttl", some_data allowed.default_lifetime) ∷ (codes "grace", some_data allowed.grace) ∷ text_at (codes "normalized") (names_text allowed.normalized)
    ∷ flag_at (codes "infer_marks") allowed.inferred_marks ∷ number_at (codes "age_slack") allowed.age_slack ∷ []

-- all of them
abbrev pub setting_entries : Settings → List Entry
setting_entries settings =
    number_at (codes "slack") settings.slack ∷ text_at (codes "ignored") (names_text settings.ignored) ∷ flag_at (codes "errors_only") (is_errors_only settings.unmarked)
    ∷ allowed_entries settings.allowed

abbrev pub settings_members : Settings → Members
settings_members settings = with_all (setting_entries settings) no_members

-- whether a baseline was made by them, or doesn't say by which it was
abbrev pub made_by : Baseline → Settings → Bool
made_by baseline settings = is_made_by (view baseline.report) (settings_members settings)

-- the members say by which settings the report was made
abbrev pub SaySettings : Settings → Members → Type 0
SaySettings settings members = get_member (codes "settings") members ≡ Some (object (settings_members settings))
