-- Why words that have no fault of their form are refused all the same.
use Rattle.std.specs.Prelude.{◌≡◌, Bool, true, false, ⊤, List, Option, Some, None, option_map}
use Rattle.clap.specs.Words.{Text}
use Rattle.clap.specs.declared.error.ErrorKind.{ErrorKind}
use Rattle.clap.specs.declared.error.ErrorKind.TheVariants as kind
use Rattle.hc_options.specs.declared.refusal.Refusal.{Refusal}
use Rattle.hc_options.specs.declared.refusal.Refusal.TheVariants.{Memory, Missing, Value}
use Rattle.hc_options.specs.declared.rows.Takes.{Takes}
use Rattle.hc_options.specs.Rows.{Entry, IsAmong, entry_of}

-- a value that has to be there isn't
pub record IsMissing (entries : List Entry) (value : Text → Option Text) : Type 0 where
  pub entry : Entry
  pub is_among : IsAmong entry entries
  pub is_required : entry.required ≡ true
  pub is_left_out : value entry.name ≡ None

-- a value is there that isn't taken
pub record IsOutside (taken : Takes → Text → Bool) (entries : List Entry) (value : Text → Option Text) (entry : Entry) : Type 0 where
  pub is_among : IsAmong entry entries
  pub is_refused : option_map (taken entry.takes) (value entry.name) ≡ Some false

-- why a command with these arguments and options asks nothing by its values
abbrev pub Refuses : (Takes → Text → Bool) → List Entry → (Text → Option Text) → Refusal → Type 0
Refuses taken entries value Memory = ⊤
Refuses taken entries value Missing = IsMissing entries value
Refuses taken entries value (Value row) = IsOutside taken entries value (entry_of row.now)

-- the kind of the error that says it; none says the want of memory
abbrev pub refused_kind : Refusal → Option ErrorKind
refused_kind Memory = None
refused_kind Missing = Some kind.MissingRequiredArgument
refused_kind (Value row) = Some kind.ValueValidation

-- ---- what private functions promise

-- the kind of the error that says it; that of the want of memory is never said
abbrev pub kind_by : Refusal → ErrorKind
kind_by Memory = kind.OutOfMemory
kind_by Missing = kind.MissingRequiredArgument
kind_by (Value row) = kind.ValueValidation
