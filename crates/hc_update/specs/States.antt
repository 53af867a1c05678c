-- The life of one stored response (RFC 9111 sections 3.1, 3.2, 4.3.4 and 4.4).
use Rattle.std.specs.Prelude.{ℕ, Bool, true, false, ◌||◌, ◌&&◌, not, List, Some, None, filter, unwrap_or, codes, nat_le}
use Rattle.std.specs.Str.{bytes_eq}
use Rattle.hc_fields.specs.declared.fields.Field.{Field}
use Rattle.hc_fields.specs.Values.{updated}
use Rattle.hc_fields.specs.Connection.{left_out_of_store}
use Rattle.hc_head.specs.declared.head.RequestHead.{RequestHead}
use Rattle.hc_head.specs.declared.head.ResponseHead.{ResponseHead}
use Rattle.hc_head.specs.Methods.{is_unsafe}
use Rattle.hc_framing.specs.declared.message.Message.{Message}
use Rattle.hc_fresh.specs.declared.ages.Times.{Times}
use Rattle.hc_fresh.specs.Ages.{age_value}
use Rattle.hc_fresh.specs.DateLines.{date_stated, dated}
use Rattle.hc_update.specs.declared.stored.Stored.{Stored}

-- ---- what is kept of a response

-- the lines that are kept: not those of a connection or a proxy (section 3.1), and not Age, which is kept among the times
abbrev pub kept_lines : List Field → List Field
kept_lines received = filter (λ f. not (left_out_of_store f.name received || bytes_eq f.name (codes "age"))) received

-- the fields that are stored: the lines that are kept, with exactly one Date (RFC 9110 section 6.6.1; that several Date lines, or one that is
-- no date, give way to the moment of the response is this project's own choice)
abbrev pub stored_fields : List Field → ℕ → List Field
stored_fields received response_time = dated response_time (kept_lines received)

-- what the age is counted from (section 4.2.3): the Date of the fields that are stored, the Age as it was received, and both moments
abbrev pub times_of : List Field → ℕ → ℕ → Times
times_of received request_time response_time = record {
  date = unwrap_or (date_stated (kept_lines received)) response_time;
  age_value = age_value received;
  request_time = request_time;
  response_time = response_time;
}

-- ---- its changes

-- a response to that forward, as it is when it came
abbrev pub initial_state : RequestHead → ℕ → Message ResponseHead → ℕ → Stored
initial_state forward request_time response response_time = record {
  request = forward;
  status = response.head.status;
  fields = stored_fields response.head.fields response_time;
  body = response.body;
  times = times_of response.head.fields request_time response_time;
  invalid = false;
  validated_at = None;
}

-- freshened by a 304 (section 4.3.4): its fields follow those of other names (section 3.2), its times replace the old ones, the response is
-- valid again and was validated at that position; the request, the status and the body stay
abbrev pub freshened : Stored → List Field → ℕ → ℕ → ℕ → Stored
freshened state received request_time response_time position = record {
  request = state.request;
  status = state.status;
  fields = updated state.fields (stored_fields received response_time);
  body = state.body;
  times = times_of received request_time response_time;
  invalid = false;
  validated_at = Some position;
}

-- invalidated (section 4.4)
abbrev pub invalidated : Stored → Stored
invalidated state = record {
  request = state.request;
  status = state.status;
  fields = state.fields;
  body = state.body;
  times = state.times;
  invalid = true;
  validated_at = state.validated_at;
}

-- whether a response of that status to that method invalidates what is stored of its target: one that is no error, to an unsafe method
abbrev pub invalidates : List ℕ → ℕ → Bool
invalidates method status = is_unsafe method && nat_le 200 status && nat_le status 399
