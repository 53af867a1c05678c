-- The replies that the cache of that name gives at a moment, on a connection that closes behind them or doesn't.
use Rattle.std.specs.Prelude.{ℕ, Bool, List, [], ◌∷◌, ◌++◌, if◌then◌else◌}
use Rattle.hc_fields.specs.declared.fields.Field.{Field}
use Rattle.hc_head.specs.declared.head.ResponseHead.{ResponseHead}
use Rattle.hc_head.specs.declared.head.Version.TheVariants.{Http11}
use Rattle.hc_head.specs.Statuses.{not_modified}
use Rattle.hc_framing.specs.declared.message.Message.{Message}
use Rattle.hc_fresh.specs.Ages.{current_age}
use Rattle.hc_fresh.specs.DateLines.{date_line, dated}
use Rattle.hc_status.specs.declared.cache_status.Handling.{Handling}
use Rattle.hc_update.specs.declared.stored.Stored.{Stored}
use Rattle.hc_replies.specs.Lines.{passed_back, kept_statuses, repeated, age_line, closing, lines_behind}

-- a reply of that status, with those lines and that body
abbrev pub reply : ℕ → List Field → List ℕ → Message ResponseHead
reply status fields body = record { head = record { status = status; version = Http11; fields = fields }; body = body }

-- what the origin answered, with one Date (RFC 9110 sections 6.6.1 and 7.6)
abbrev pub forwarded_reply : List ℕ → Handling → Bool → ℕ → Message ResponseHead → Message ResponseHead
forwarded_reply name handling closes moment response =
    reply response.head.status (dated moment (kept_statuses (passed_back response.head.fields)) ++ lines_behind name handling closes) response.body

-- a stored response, with its age and its body, of which HEAD gets none (RFC 9111 section 4)
abbrev pub stored_reply : List ℕ → Handling → Bool → ℕ → Bool → Stored → Message ResponseHead
stored_reply name handling closes moment to_head state =
    reply state.status (kept_statuses state.fields ++ age_line (current_age state.times moment) ∷ lines_behind name handling closes)
    (if to_head then [] else state.body)

-- that what the client has of a stored response still holds (RFC 9111 section 4.3.2, RFC 9110 section 15.4.5)
abbrev pub not_modified_reply : List ℕ → Handling → Bool → ℕ → Stored → Message ResponseHead
not_modified_reply name handling closes moment state =
    reply not_modified (repeated state.fields ++ age_line (current_age state.times moment) ∷ lines_behind name handling closes) []

-- a reply of that status that the cache makes itself
abbrev pub generated_reply : ℕ → ℕ → Bool → Message ResponseHead
generated_reply status moment closes = reply status (date_line moment ∷ closing closes) []
