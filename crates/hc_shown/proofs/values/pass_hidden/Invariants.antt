use Rattle.std.proofs.Common.{◌≡◌, ◌≤◌, ◌-◌, length}
use Rattle.hc_shown.specs.Hidden.{pieces_behind}
use Rattle.hc_shown.proofs.values.pass_hidden.Given as goal

abbrev pub invariant-loop-octet : goal.invariant-loop-octet
invariant-loop-octet l = record {
  pieces : pieces_behind 0 l.initial.place l.octets ≡ pieces_behind (length l.octets - length l.rest) l.place l.rest;
  within : length l.rest ≤ length l.octets;
}

abbrev pub decreases-loop-octet : goal.decreases-loop-octet
decreases-loop-octet l = length l.rest
