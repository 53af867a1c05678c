-- Replies frame no body, and are read in a transcript as they were written.
use Rattle.std.proofs.Common.{◌≡◌, ℕ, ◌+◌, ◌≤◌, ◌<◌, Bool, true, false, cond, not, List, [], ◌∷◌, ◌++◌, length, Option, Some, None, refl, sym, subst, arith, lit<}
use Rattle.std.specs.Prelude.{codes}
use Rattle.std.specs.List.{list_all}
use Rattle.std.specs.Str.{bytes_eq}
use Rattle.std.proofs.lemmas.Bool.{and_from, or_from}
use Rattle.std.proofs.lemmas.Fmt.{length-decimal-le}
use Rattle.std.proofs.lemmas.List.{append_assoc}
use Rattle.hc_fields.specs.declared.fields.Field.{Field}
use Rattle.hc_fields.specs.Connection.{removed}
use Rattle.hc_fields.specs.Values.{without}
use Rattle.hc_fields.proofs.ValueLemmas.{name_dropped}
use Rattle.hc_head.specs.declared.head.ResponseHead.{ResponseHead}
use Rattle.hc_head.specs.declared.head.TheConstants.Room.{RECORDED}
use Rattle.hc_head.specs.declared.head.Version.TheVariants.{Http11}
use Rattle.hc_rules.specs.Passing.{AreKeptLines, AreOwnLines}
use Rattle.hc_head.specs.Plain.{is_plain_field, IsPlainResponse}
use Rattle.hc_head.specs.Statuses.{not_modified}
use Rattle.hc_head.specs.Weights.{line_weight, fields_weight}
use Rattle.hc_head.specs.Writable.{has_framing, IsWritableResponse}
use Rattle.hc_head.proofs.PlainLemmas.{visible_plain, number_plain, age_plain, cache_status_plain, connection_plain, date_plain}
use Rattle.hc_head.proofs.WeightLemmas.{weight_first}
use Rattle.hc_rules.proofs.PassingLemmas.{no_framing_fewer, no_framing_both, kept_fewer, passed_response}
use Rattle.hc_framing.specs.declared.message.Message.{Message}
use Rattle.hc_fresh.specs.declared.ages.Times.{Times}
use Rattle.hc_fresh.specs.Ages.{current_age}
use Rattle.hc_fresh.specs.DateLines.{date_stated, date_line, dated_by, dated}
use Rattle.hc_status.specs.declared.cache_status.Handling.{Handling}
use Rattle.hc_status.specs.Marks.{cache_status}
use Rattle.hc_update.specs.declared.stored.Stored.{Stored}
use Rattle.hc_rules.specs.Forwards.{close_line}
use Rattle.hc_replies.specs.Lines.{passed_back, has_member, kept_statuses, repeated, age_line, own_line, closing, lines_behind}
use Rattle.hc_replies.specs.Replies.{forwarded_reply, stored_reply, not_modified_reply, generated_reply}
use Rattle.hc_replies.specs.Laws.{is_repeated, IsWritableStatus}
use Rattle.hc_replies.proofs.TextLemmas.{member_visible, date_text_plain}

-- ---- framing

behind_no_framing : (name : List ℕ) (handling : Handling) (closes : Bool) → has_framing (lines_behind name handling closes) ≡ false
behind_no_framing name handling true = refl
behind_no_framing name handling false = refl

aged_no_framing : (age : ℕ) (name : List ℕ) (handling : Handling) (closes : Bool) → has_framing (age_line age ∷ lines_behind name handling closes) ≡ false
aged_no_framing age name handling true = refl
aged_no_framing age name handling false = refl

statuses_no_framing : (fields : List Field) → has_framing fields ≡ false → has_framing (kept_statuses fields) ≡ false
statuses_no_framing fields none = go (has_member (cache_status fields))
  where
    go : (has : Bool) → has_framing (cond has fields (without (codes "cache-status") fields)) ≡ false
    go true = none
    go false = no_framing_fewer (λ f. not (bytes_eq f.name (codes "cache-status"))) fields none

passed_no_framing : (received : List Field) → has_framing received ≡ false → has_framing (kept_statuses (passed_back received)) ≡ false
passed_no_framing received none = statuses_no_framing (passed_back received) (no_framing_fewer (λ f. not (removed f.name received)) received none)

dated_no_framing : (moment : ℕ) (fields : List Field) → has_framing fields ≡ false → has_framing (dated moment fields) ≡ false
dated_no_framing moment fields none = go (date_stated fields)
  where
    go : (stated : Option ℕ) → has_framing (dated_by stated moment fields) ≡ false
    go (Some date) = none
    go None = no_framing_both (without (codes "date") fields) (date_line moment ∷ []) (no_framing_fewer (λ f. not (bytes_eq f.name (codes "date"))) fields none) refl

pub forwarded_no_framing : (name : List ℕ) (handling : Handling) (closes : Bool) (moment : ℕ) (response : Message ResponseHead) → has_framing response.head.fields ≡ false
    → has_framing (forwarded_reply name handling closes moment response).head.fields ≡ false
forwarded_no_framing name handling closes moment response none =
    no_framing_both (dated moment (kept_statuses (passed_back response.head.fields))) (lines_behind name handling closes)
    (dated_no_framing moment (kept_statuses (passed_back response.head.fields)) (passed_no_framing response.head.fields none))
    (behind_no_framing name handling closes)

pub stored_no_framing : (name : List ℕ) (handling : Handling) (closes : Bool) (moment : ℕ) (to_head : Bool) (state : Stored) → has_framing state.fields ≡ false
    → has_framing (stored_reply name handling closes moment to_head state).head.fields ≡ false
stored_no_framing name handling closes moment to_head state none =
    let age = current_age state.times moment in
    no_framing_both (kept_statuses state.fields) (age_line age ∷ lines_behind name handling closes) (statuses_no_framing state.fields none)
    (aged_no_framing age name handling closes)

-- none of what a 304 repeats frames a body
repeated_no_framing : (fields : List Field) → has_framing (repeated fields) ≡ false
repeated_no_framing fields =
    or_from _ _ (name_dropped is_repeated (codes "content-length") fields refl) (name_dropped is_repeated (codes "transfer-encoding") fields refl)

pub not_modified_no_framing : (name : List ℕ) (handling : Handling) (closes : Bool) (moment : ℕ) (state : Stored)
    → has_framing (not_modified_reply name handling closes moment state).head.fields ≡ false
not_modified_no_framing name handling closes moment state =
    let age = current_age state.times moment in
    no_framing_both (repeated state.fields) (age_line age ∷ lines_behind name handling closes) (repeated_no_framing state.fields)
    (aged_no_framing age name handling closes)

pub generated_no_framing : (status moment : ℕ) (closes : Bool) → has_framing (generated_reply status moment closes).head.fields ≡ false
generated_no_framing status moment true = refl
generated_no_framing status moment false = refl

-- ---- the cache's own lines

close_plain : is_plain_field close_line ≡ true
close_plain = and_from _ _ connection_plain refl

-- lines that are plain, few and short
record AreLight (lines : List Field) (most weight : ℕ) : Type 0 where
  plain : list_all is_plain_field lines ≡ true
  few : length lines ≤ most
  light : fields_weight lines ≤ weight

closing_light : (closes : Bool) → AreLight (closing closes) 1 19
closing_light true = record { plain = and_from _ _ close_plain refl; few = omega arith; light = omega arith }
closing_light false = record { plain = refl; few = omega arith; light = omega arith }

first_light : (f : Field) (lines : List Field) (most weight own : ℕ) → is_plain_field f ≡ true → line_weight f ≤ own → AreLight lines most weight
    → AreLight (f ∷ lines) (1 + most) (own + weight)
first_light f lines most weight own plain light are = record {
  plain = and_from _ _ plain are.plain;
  few = omega (arith, are.few);
  light = omega (arith, light, are.light, weight_first f lines);
}

behind_light : (name : List ℕ) (handling : Handling) (closes : Bool) → IsWritableStatus name handling → AreLight (lines_behind name handling closes) 2 180
behind_light name handling closes is =
    let member = member_visible name handling is in
    first_light (own_line name handling) (closing closes) 1 19 161 (and_from _ _ cache_status_plain (visible_plain (own_line name handling).value member.visible))
    (omega (arith, member.short)) (closing_light closes)

aged_light : (times : Times) (moment : ℕ) (name : List ℕ) (handling : Handling) (closes : Bool) → IsWritableStatus name handling
    → AreLight (age_line (current_age times moment) ∷ lines_behind name handling closes) 3 197
aged_light times moment name handling closes is =
    let age = current_age times moment in
    let few = length-decimal-le 10 age (lit< tt) (omega arith) (omega arith) in
    first_light (age_line age) (lines_behind name handling closes) 2 180 17 (and_from _ _ age_plain (number_plain age)) (omega (arith, few))
    (behind_light name handling closes is)

dated_light : (moment : ℕ) (lines : List Field) (most weight : ℕ) → moment < 253402300800 → AreLight lines most weight
    → AreLight (date_line moment ∷ lines) (1 + most) (37 + weight)
dated_light moment lines most weight early are =
    let text = date_text_plain moment early in
    first_light (date_line moment) lines most weight 37 (and_from _ _ date_plain text.plain) (omega (arith, text.short)) are

own_lines : (lines : List Field) → AreLight lines 3 217 → has_framing lines ≡ false → AreOwnLines lines
own_lines lines are none = record { plain = are.plain; no_framing = none; few = omega (arith, are.few); light = omega (arith, are.light) }

more_light : (lines : List Field) (most weight more_most more : ℕ) → most ≤ more_most → weight ≤ more → AreLight lines most weight → AreLight lines more_most more
more_light lines most weight more_most more m w are = record { plain = are.plain; few = omega (arith, m, are.few); light = omega (arith, w, are.light) }

-- ---- whole replies

statuses_kept : (fields : List Field) → AreKeptLines fields → AreKeptLines (kept_statuses fields)
statuses_kept fields are = go (has_member (cache_status fields))
  where
    go : (has : Bool) → AreKeptLines (cond has fields (without (codes "cache-status") fields))
    go true = are
    go false = kept_fewer (λ f. not (bytes_eq f.name (codes "cache-status"))) fields are

-- lines with one Date, and those of the cache's own behind them
dated_writable : (status moment : ℕ) (fields behind : List Field) → 100 ≤ status → status < 1000 → moment < 253402300800 → AreKeptLines fields → has_framing fields ≡ false
    → AreLight behind 2 180 → has_framing behind ≡ false
    → IsWritableResponse (record { status = status; version = Http11; fields = dated moment fields ++ behind }) RECORDED
dated_writable status moment fields behind least greatest early are none own no_own = go (date_stated fields)
  where
    go : (stated : Option ℕ) → IsWritableResponse (record { status = status; version = Http11; fields = dated_by stated moment fields ++ behind }) RECORDED
    go (Some date) = passed_response status Http11 fields [] behind least greatest are none (own_lines behind (more_light behind 2 180 3 217 (omega arith) (omega arith) own) no_own)
    go None =
        let kept = without (codes "date") fields in
        subst (λ (all : List Field). IsWritableResponse (record { status = status; version = Http11; fields = all }) RECORDED)
        (sym (append_assoc kept (date_line moment ∷ []) behind))
        (passed_response status Http11 kept [] (date_line moment ∷ behind) least greatest (kept_fewer (λ f. not (bytes_eq f.name (codes "date"))) fields are)
        (no_framing_fewer (λ f. not (bytes_eq f.name (codes "date"))) fields none)
        (own_lines (date_line moment ∷ behind) (dated_light moment behind 2 180 early own) (no_framing_both (date_line moment ∷ []) behind refl no_own)))

pub forwarded_writable : (name : List ℕ) (handling : Handling) (closes : Bool) (moment : ℕ) (response : Message ResponseHead) → IsWritableStatus name handling
    → moment < 253402300800 → IsPlainResponse response.head → AreKeptLines response.head.fields → has_framing response.head.fields ≡ false
    → IsWritableResponse (forwarded_reply name handling closes moment response).head RECORDED
forwarded_writable name handling closes moment response is early plain are none =
    let passed = passed_back response.head.fields in
    dated_writable response.head.status moment (kept_statuses passed) (lines_behind name handling closes) plain.least plain.greatest early
    (statuses_kept passed (kept_fewer (λ f. not (removed f.name response.head.fields)) response.head.fields are)) (passed_no_framing response.head.fields none)
    (behind_light name handling closes is) (behind_no_framing name handling closes)

pub stored_writable : (name : List ℕ) (handling : Handling) (closes : Bool) (moment : ℕ) (to_head : Bool) (state : Stored) → IsWritableStatus name handling
    → 100 ≤ state.status → state.status < 1000 → AreKeptLines state.fields → has_framing state.fields ≡ false
    → IsWritableResponse (stored_reply name handling closes moment to_head state).head RECORDED
stored_writable name handling closes moment to_head state is least greatest are none =
    let behind = age_line (current_age state.times moment) ∷ lines_behind name handling closes in
    passed_response state.status Http11 (kept_statuses state.fields) [] behind least greatest (statuses_kept state.fields are) (statuses_no_framing state.fields none)
    (own_lines behind (more_light behind 3 197 3 217 (omega arith) (omega arith) (aged_light state.times moment name handling closes is))
    (aged_no_framing (current_age state.times moment) name handling closes))

pub not_modified_writable : (name : List ℕ) (handling : Handling) (closes : Bool) (moment : ℕ) (state : Stored) → IsWritableStatus name handling
    → AreKeptLines state.fields → IsWritableResponse (not_modified_reply name handling closes moment state).head RECORDED
not_modified_writable name handling closes moment state is are =
    let behind = age_line (current_age state.times moment) ∷ lines_behind name handling closes in
    passed_response not_modified Http11 (repeated state.fields) [] behind (omega arith) (omega arith) (kept_fewer (λ f. is_repeated f.name) state.fields are)
    (repeated_no_framing state.fields)
    (own_lines behind (more_light behind 3 197 3 217 (omega arith) (omega arith) (aged_light state.times moment name handling closes is))
    (aged_no_framing (current_age state.times moment) name handling closes))

pub generated_writable : (status moment : ℕ) (closes : Bool) → 100 ≤ status → status < 1000 → moment < 253402300800
    → IsWritableResponse (generated_reply status moment closes).head RECORDED
generated_writable status moment closes least greatest early =
    let lines = date_line moment ∷ closing closes in
    passed_response status Http11 [] [] lines least greatest (record { plain = refl; few = omega arith; light = omega arith }) refl
    (own_lines lines (more_light lines 2 56 3 217 (omega arith) (omega arith) (dated_light moment (closing closes) 1 19 early (closing_light closes)))
    (generated_no_framing status moment closes))
