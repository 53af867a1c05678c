use Rattle.std.proofs.Common.{◌≡◌, ◌≤◌, ◌++◌, true, string_bytes}
use Rattle.std.specs.List.{list_all}
use Rattle.std.specs.Char.Escape.{escape_ascii}
use Rattle.std.specs.Char.Iter.{escape_byte_rest, escape_byte_end}
use Rattle.hc_shown.specs.Octets.{is_printable}
use Rattle.hc_shown.proofs.octets.push_octet.Given as goal

abbrev pub invariant-loop-shown : goal.invariant-loop-shown
invariant-loop-shown l = record {
  written : string_bytes l.out ++ escape_byte_rest l.shown-iterator ≡ string_bytes l.initial.out ++ escape_ascii l.octet;
  printable : list_all is_printable (escape_byte_rest l.shown-iterator) ≡ true;
  within : escape_byte_end l.shown-iterator ≤ 4;
}
