use Rattle.std.proofs.Common.{◌≡◌, ◌≤◌, ◌++◌, true, drop}
use Rattle.std.specs.List.{list_all, slice_range}
use Rattle.hc_gaps.specs.Forms.{is_space, tight_form, tight_from}
use Rattle.hc_gaps.proofs.forms.tighten.Given as goal

-- blanks alone stand behind what was put, and what is put with what is made of these and of the rest is all
abbrev pub invariant-loop-index : goal.invariant-loop-index
invariant-loop-index l = record {
  order : l.behind ≤ l.index;
  spaces : list_all (is_space l.place) (slice_range l.octets l.behind l.index) ≡ true;
  is : l.tight.items ++ tight_from l.place l.is_separated (drop l.behind l.octets) ≡ l.fn.tight.items ++ tight_form l.octets;
}
