-- What is kept of a stored response that nothing freshens any more.
use Rattle.std.specs.Prelude.{Bool, true, ◌&&◌, not, List, [], None, codes}
use Rattle.hc_fields.specs.declared.fields.Field.{Field}
use Rattle.hc_fields.specs.Values.{lines_of}
use Rattle.hc_rules.specs.Validators.{has_validator}
use Rattle.hc_update.specs.declared.stored.Stored.{Stored}

-- whether nothing freshens it any more: it is invalid, and has no validator, so that no 304 is about it
abbrev pub is_lost : Stored → Bool
is_lost state = state.invalid && not (has_validator state.fields)

-- the lines that select
abbrev pub vary_lines : List Field → List Field
vary_lines fields = lines_of (codes "vary") fields

-- of one that is lost, its request, its status and its Vary lines, and that it is invalid
abbrev pub remnant : Stored → Stored
remnant state = record {
  request = state.request;
  status = state.status;
  fields = vary_lines state.fields;
  body = [];
  times = record { date = 0; age_value = 0; request_time = 0; response_time = 0 };
  invalid = true;
  validated_at = None;
}
