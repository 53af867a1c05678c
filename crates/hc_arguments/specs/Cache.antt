-- What the cache is that a command asks for.
use Rattle.std.specs.Prelude.{◌≡◌, ℕ, Option, Some, None, codes, if◌then◌else◌}
use Rattle.clap.specs.Words.{Text}
use Rattle.hc_service.specs.declared.settings.CoreSettings.{CoreSettings}
use Rattle.hc_service.specs.Settings.{is_name}
use Rattle.hc_options.specs.declared.rows.Takes.TheVariants.{Number, Size}
use Rattle.hc_options.specs.Values.{number_or}

-- the name, where a cache may have it
abbrev pub name_of : Text → Option Text
name_of name = if is_name name then Some name else None

-- `--name`: hcache where it isn't given
abbrev pub name_by : Option Text → Option Text
name_by None = Some (codes "hcache")
name_by (Some name) = name_of name

-- of so many targets `serve` keeps responses where `--keys` isn't given, and so many `proxy`
abbrev pub keys_served : ℕ
keys_served = 1024

abbrev pub keys_proxied : ℕ
keys_proxied = 65536

-- the values, by their names, ask for that cache; it keeps the usual number of targets, in 67108864 octets, where they aren't given
pub record AsksCache (usual : ℕ) (value : Text → Option Text) (settings : CoreSettings) : Type 0 where
  pub keys_is : number_or (Number 1 65536) usual (value (codes "keys")) ≡ Some settings.keys
  pub bytes_is : number_or (Size 0) 67108864 (value (codes "bytes")) ≡ Some settings.bytes
  pub name_is : name_by (value (codes "name")) ≡ Some settings.name

-- the cache without options, of so many targets
abbrev pub plain_cache : ℕ → CoreSettings
plain_cache keys = record { name = codes "hcache"; keys = keys; bytes = 67108864 }
