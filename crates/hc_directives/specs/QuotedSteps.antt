-- A quoted string read octet by octet. These definitions are what private functions return.
use Rattle.std.specs.Prelude.{ℕ, Bool, true, false, ◌==◌, Option, Some, None, if◌then◌else◌}
use Rattle.hc_directives.specs.QuotedStrings.{is_escapable, is_plain}

-- whether the octet behind this one is escaped, if this one may stand there
abbrev pub escaped_behind : Bool → ℕ → Option Bool
escaped_behind true octet = if is_escapable octet then Some false else None
escaped_behind false octet =
    if octet == 92 then Some true else if is_plain octet then Some false else None
