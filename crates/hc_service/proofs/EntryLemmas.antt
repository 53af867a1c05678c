-- What is stored can be a reply, and replies can be recorded.
use Rattle.std.proofs.Common.{◌≡◌, ℕ, ◌≤◌, ◌<◌, Bool, true, false, cond, ◌&&◌, ◌||◌, List, [], ◌∷◌, length, Option, Some, None, refl, sym, ap, ◌∙◌, subst, arith, ⊎_elim}
use Rattle.std.specs.Prelude.{◌==◌, nat_le, not, codes, filter}
use Rattle.std.specs.List.{AllByRecursion, list_all, IsDistinct}
use Rattle.std.specs.Map.{keys_of}
use Rattle.std.specs.Str.{bytes_eq}
use Rattle.std.proofs.lemmas.Bool.{cases_Bool, eqb-true, and_from, and_parts, or_right, leb-true}
use Rattle.hc_fields.specs.declared.fields.Field.{Field}
use Rattle.hc_fields.specs.Connection.{left_out_of_store}
use Rattle.hc_fields.specs.Values.{has_name, without}
use Rattle.hc_head.specs.declared.head.RequestHead.{RequestHead}
use Rattle.hc_head.specs.declared.head.ResponseHead.{ResponseHead}
use Rattle.hc_head.specs.declared.head.Target.{Target}
use Rattle.hc_head.specs.Methods.{is_head}
use Rattle.hc_head.specs.Plain.{is_plain_field}
use Rattle.hc_head.specs.Statuses.{partial_content}
use Rattle.hc_head.specs.Targets.{same_target}
use Rattle.hc_head.specs.Writable.{has_framing}
use Rattle.hc_head.specs.Weights.{fields_weight}
use Rattle.hc_rules.proofs.PassingLemmas.{kept_from_stored, no_framing_fewer, no_framing_both, no_name_fewer, no_name_both, no_name_refused}
use Rattle.hc_head.proofs.PlainLemmas.{plain_fewer, plain_both, date_plain}
use Rattle.hc_framing.specs.declared.message.Message.{Message}
use Rattle.hc_framing.specs.Framing.{ends_with_head}
use Rattle.hc_fresh.specs.DateLines.{date_stated, date_line, dated, dated_by}
use Rattle.hc_rules.specs.Storing.{may_store, is_storable, asks_for_storable, is_understood_if_asked, no_store_permits, is_not_private, has_authorization, permits_authorized, invites_storing}
use Rattle.hc_status.specs.declared.cache_status.Handling.{Handling}
use Rattle.hc_status.specs.declared.cache_status.Handling.TheVariants.{Hit, Fwd}
use Rattle.hc_update.specs.declared.stored.Stored.{Stored}
use Rattle.hc_update.specs.Sizes.{fits}
use Rattle.hc_update.specs.States.{initial_state, kept_lines}
use Rattle.hc_replies.proofs.TextLemmas.{date_text_plain}
use Rattle.hc_replies.specs.Laws.{IsWritableStatus}
use Rattle.hc_replies.specs.Replies.{stored_reply, not_modified_reply}
use Rattle.hc_replies.proofs.WritableLemmas.{forwarded_writable, stored_writable, not_modified_writable, generated_writable}
use Rattle.hc_transcript.specs.Written.{IsWritableAnswer}
use Rattle.hc_transcript.specs.Items.{Item}
use Rattle.hc_store.specs.declared.putting.Put.{Put}
use Rattle.hc_store.specs.declared.putting.Put.TheVariants as put
use Rattle.hc_store.specs.Entries.{AllHeld, Holdings, Entries, may_hold, variants_of, weight}
use Rattle.hc_store.specs.Calls.{Puts, Freshens, invalidated, is_small_enough}
use Rattle.hc_store.specs.Changes.{Validation, after_validation, is_validated, may_become, renewed, may_stay}
use Rattle.hc_service.specs.declared.cases.Cause.{Cause}
use Rattle.hc_service.specs.declared.cases.Cause.TheVariants.{UriMiss}
use Rattle.hc_service.specs.declared.open.OpenForward.{OpenForward}
use Rattle.hc_service.specs.Settings.{is_name}
use Rattle.hc_service.specs.Serving.{ttl_at, has_still}
use Rattle.hc_service.specs.Cases.{word_of}
use Rattle.hc_service.specs.Replying.{Wanted, made_reply, entry_reply, entry_status, hit_reply, status_told, replacing_reply, collapsed_reply, passed_reply}
use Rattle.hc_service.specs.Choices.{Finds, PutsResponse, Stores, may_update, validation_by}
use Rattle.hc_update.specs.States.{invalidates}
use Rattle.hc_service.specs.Answers.{Renews}
use Rattle.hc_service.specs.Agreement.{HasSource, CanReply, IsSound}
use Rattle.hc_service.specs.Laws.{IsReceivedAnswer, IsToldStatus, HasSources}
use Rattle.hc_store.proofs.HeldLemmas.{all_weaken, choose_held, put_held, without_held, variants_held, held_weaken, left_held, freshen_held}
use Rattle.hc_service.proofs.SourceLemmas.{on_test}
use Rattle.hc_service.proofs.NameLemmas.{hit_writable, forward_writable, replacing_writable, collapsed_writable}

-- ---- lines with one Date

date_line_plain : (moment : ℕ) → moment < 253402300800 → list_all is_plain_field (date_line moment ∷ []) ≡ true
date_line_plain moment early = and_from _ _ (and_from _ _ date_plain (date_text_plain moment early).plain) refl

dated_plain : (moment : ℕ) (fields : List Field) → moment < 253402300800 → list_all is_plain_field fields ≡ true → list_all is_plain_field (dated moment fields) ≡ true
dated_plain moment fields early plain = go (date_stated fields)
  where
    go : (stated : Option ℕ) → list_all is_plain_field (dated_by stated moment fields) ≡ true
    go (Some date) = plain
    go None = plain_both (without (codes "date") fields) (date_line moment ∷ []) (plain_fewer _ fields plain) (date_line_plain moment early)

dated_frames_none : (moment : ℕ) (fields : List Field) → has_framing fields ≡ false → has_framing (dated moment fields) ≡ false
dated_frames_none moment fields none = go (date_stated fields)
  where
    go : (stated : Option ℕ) → has_framing (dated_by stated moment fields) ≡ false
    go (Some date) = none
    go None = no_framing_both (without (codes "date") fields) (date_line moment ∷ []) (no_framing_fewer _ fields none) refl

dated_has_no_age : (moment : ℕ) (fields : List Field) → has_name (codes "age") fields ≡ false → has_name (codes "age") (dated moment fields) ≡ false
dated_has_no_age moment fields none = go (date_stated fields)
  where
    go : (stated : Option ℕ) → has_name (codes "age") (dated_by stated moment fields) ≡ false
    go (Some date) = none
    go None = no_name_both (codes "age") (without (codes "date") fields) (date_line moment ∷ []) (no_name_fewer (codes "age") _ fields none) refl

kept_has_no_age : (received : List Field) → has_name (codes "age") (kept_lines received) ≡ false
kept_has_no_age received = no_name_refused (codes "age") _ received (λ f is. ap not (or_right (left_out_of_store f.name received) (bytes_eq f.name (codes "age")) is))

-- ---- what may be stored

whole_status : (forward : RequestHead) (response : ResponseHead) → may_store forward response ≡ true → (response.status == partial_content) ≡ false
whole_status forward response may =
    ⊎_elim
    (λ (part : (response.status == partial_content) ≡ true). absurd (false_true (sym (never part) ∙ may)))
    (λ (whole : (response.status == partial_content) ≡ false). whole)
    (cases_Bool (response.status == partial_content))
  where
    false_true : false ≡ true → ⊥
    false_true e = cc

    second : (a b c d e f g : Bool) → b ≡ false → (a && b && c && d && e && f && g) ≡ false
    second true true c d e f g is = absurd (cc)
    second true false c d e f g is = refl
    second false b c d e f g is = refl

    never : (response.status == partial_content) ≡ true → may_store forward response ≡ false
    never part =
        second (asks_for_storable forward) (is_storable response.status) (is_understood_if_asked response) (no_store_permits response.fields) (is_not_private response.fields)
        (not (has_authorization forward) || permits_authorized response.fields) (invites_storing response)
        (ap is_storable (eqb-true response.status partial_content part))

pub begun_can_reply : (forward : OpenForward) (moment : ℕ) (response : Message ResponseHead) → IsReceivedAnswer false response → moment < 253402300800 → may_store forward.request response.head ≡ true
    → fits (initial_state forward.request forward.moment response moment) ≡ true → CanReply (initial_state forward.request forward.moment response moment)
begun_can_reply forward moment response r early may small =
    let fields = dated moment (kept_lines response.head.fields) in
    let parts = and_parts (nat_le (length fields) 100) (nat_le (fields_weight fields) 65536) small in
    record {
      lines = kept_from_stored fields (dated_plain moment (kept_lines response.head.fields) early (plain_fewer _ response.head.fields r.lines.plain))
          (leb-true (length fields) 100 parts.0) (leb-true (fields_weight fields) 65536 parts.1);
      no_framing = dated_frames_none moment (kept_lines response.head.fields) (no_framing_fewer _ response.head.fields r.no_framing);
      no_age = dated_has_no_age moment (kept_lines response.head.fields) (kept_has_no_age response.head.fields);
      is_final = r.is_final;
      has_digits = r.plain.greatest;
      is_whole = whole_status forward.request response.head may;
      short = r.short;
      bare = r.bare;
    }

-- ---- a store of which all is sound

abbrev pub all_can_reply : Holdings → Type 0
all_can_reply store = AllHeld (λ target stored. CanReply stored) store.entries

pub found_can_reply : (target : Target) (asked : List Field) (old : Holdings) (chosen : Option Stored) (new : Holdings) → all_can_reply old → Finds target asked old chosen new → all_can_reply new
found_can_reply target asked old chosen new h finds = subst all_can_reply (sym finds.1) (choose_held (λ _ stored. CanReply stored) target old.entries h)

-- a 304 was received as an answer with these lines
pub freshened_can_reply : (v : Validation) (stored : Stored) → (to_head : Bool) (response : Message ResponseHead) → IsReceivedAnswer to_head response → v.not_modified ≡ response.head
    → v.response_time < 253402300800 → CanReply stored → (keeps : Bool) → may_stay keeps v stored ≡ true → CanReply (after_validation v stored)
freshened_can_reply v stored to_head response r same early can keeps stays = go (is_validated v stored) refl
  where
    newer : List Field
    newer = dated v.response_time (kept_lines v.not_modified.fields)

    plain_newer : list_all is_plain_field newer ≡ true
    plain_newer = dated_plain v.response_time (kept_lines v.not_modified.fields) early
        (plain_fewer _ v.not_modified.fields (subst (λ (m : ResponseHead). list_all is_plain_field m.fields ≡ true) (sym same) r.lines.plain))

    frames_none : has_framing newer ≡ false
    frames_none = dated_frames_none v.response_time (kept_lines v.not_modified.fields)
        (no_framing_fewer _ v.not_modified.fields (subst (λ (m : ResponseHead). has_framing m.fields ≡ false) (sym same) r.no_framing))

    go : (b : Bool) → is_validated v stored ≡ b → CanReply (cond b (renewed v stored) stored)
    go false none = can
    go true is =
        let becomes : may_become keeps (renewed v stored) ≡ true = sym (ap (λ (b : Bool). not b || may_become keeps (renewed v stored)) is) ∙ stays in
        let small = (and_parts (fits (renewed v stored)) (may_hold keeps (renewed v stored)) becomes).0 in
        let parts = and_parts (nat_le (length (renewed v stored).fields) 100) (nat_le (fields_weight (renewed v stored).fields) 65536) small in
        let older = filter (λ (f : Field). not (has_name f.name newer)) stored.fields in
        record {
          lines = kept_from_stored (renewed v stored).fields (plain_both older newer (plain_fewer _ stored.fields can.lines.plain) plain_newer)
              (leb-true (length (renewed v stored).fields) 100 parts.0) (leb-true (fields_weight (renewed v stored).fields) 65536 parts.1);
          no_framing = no_framing_both older newer (no_framing_fewer _ stored.fields can.no_framing) frames_none;
          no_age = no_name_both (codes "age") older newer (no_name_fewer (codes "age") _ stored.fields can.no_age)
              (dated_has_no_age v.response_time (kept_lines v.not_modified.fields) (kept_has_no_age v.not_modified.fields));
          is_final = can.is_final;
          has_digits = can.has_digits;
          is_whole = can.is_whole;
          short = can.short;
          bare = can.bare;
        }

pub freshen_can_reply : (forward : OpenForward) (moment position : ℕ) (to_head : Bool) (response : Message ResponseHead) (old new : Holdings) → IsReceivedAnswer to_head response → moment < 253402300800
    → all_can_reply old → Freshens (validation_by forward moment position response.head) forward.target old new → all_can_reply new
freshen_can_reply forward moment position to_head response old new r early h f =
    subst all_can_reply (sym f.becomes)
    (freshen_held (λ _ stored. CanReply stored) old.bytes v forward.target f.left old.entries
    (without_held (λ _ stored. CanReply stored) forward.target old.entries h)
    (all_weaken _ (λ stored. CanReply (after_validation v stored)) (λ stored p. freshened_can_reply v stored to_head response r refl early p.0 old.keeps_cookies p.1) f.left
    (left_held CanReply old.keeps_cookies v (variants_of forward.target old.entries) f.left (variants_held (λ _ stored. CanReply stored) forward.target old.entries h) f.leaves)))
  where
    v : Validation
    v = validation_by forward moment position response.head

pub renewed_can_reply : (forward : OpenForward) (moment position : ℕ) (to_head : Bool) (response : Message ResponseHead) (old new : Holdings) → IsReceivedAnswer to_head response → moment < 253402300800
    → all_can_reply old → Renews forward moment position response.head old new → all_can_reply new
renewed_can_reply forward moment position to_head response old new r early h renews =
    ⊎_elim
    (λ (p : (may_update forward response.head ≡ true) × Freshens (validation_by forward moment position response.head) forward.target renews.between new).
    freshen_can_reply forward moment position to_head response renews.between new r early between p.1)
    (λ (p : (may_update forward response.head ≡ false) × (new ≡ renews.between)). subst all_can_reply (sym p.1) between)
    (on_test (may_update forward response.head) _ _ renews.updates)
  where
    between : all_can_reply renews.between
    between =
        ⊎_elim
        (λ (p : (invalidates forward.request.method response.head.status ≡ true) × (renews.between ≡ invalidated forward.target old)).
        subst all_can_reply (sym p.1) (without_held (λ _ stored. CanReply stored) forward.target old.entries h))
        (λ (p : (invalidates forward.request.method response.head.status ≡ false) × (renews.between ≡ old)). subst all_can_reply (sym p.1) h)
        (on_test (invalidates forward.request.method response.head.status) _ _ renews.invalidates)

pub put_can_reply : (forward : OpenForward) (moment : ℕ) (response : Message ResponseHead) (old : Holdings) (stored : Bool) (new : Holdings) → IsReceivedAnswer false response → moment < 253402300800
    → all_can_reply old → Stores forward moment response old stored new → all_can_reply new
put_can_reply forward moment response old stored new r early h stores =
    ⊎_elim
    (λ (p : (may_store forward.request response.head ≡ true) × PutsResponse forward moment response old stored new). by_answer p.0 p.1.answer p.1.puts)
    (λ (p : (may_store forward.request response.head ≡ false) × ((stored ≡ false) × (new ≡ old))). subst all_can_reply (sym p.1.1) h)
    (on_test (may_store forward.request response.head) _ _ stores)
  where
    by_answer : may_store forward.request response.head ≡ true → (answer : Put) → Puts forward.target (initial_state forward.request forward.moment response moment) old answer new → all_can_reply new
    by_answer may put.Stored p =
        let state = initial_state forward.request forward.moment response moment in
        subst all_can_reply (sym p.1)
        (put_held (λ _ stored. CanReply stored) old.keys old.bytes forward.target state old.entries h
        (begun_can_reply forward moment response r early may (and_parts (fits state) (nat_le (weight state) old.bytes) (and_parts (may_hold old.keeps_cookies state) (is_small_enough state old) p.0).1).0))
    by_answer may put.SetsCookie p = subst all_can_reply (sym p.1) h
    by_answer may put.TooLarge p = subst all_can_reply (sym p.2) h
    by_answer may put.NoMemory p = subst all_can_reply (sym p.2) h

-- both facts of what is held
pub all_both : (P Q : Target → Stored → Type 0) (entries : Entries) → AllHeld P entries → AllHeld Q entries → AllHeld (λ target stored. P target stored × Q target stored) entries
all_both P Q [] p q = tt
all_both P Q (e ∷ entries) p q = (each e.1 p.0 q.0, all_both P Q entries p.1 q.1)
  where
    each : (xs : List Stored) → AllByRecursion (P e.0) xs → AllByRecursion (Q e.0) xs → AllByRecursion (λ stored. P e.0 stored × Q e.0 stored) xs
    each [] p q = tt
    each (x ∷ xs) p q = ((p.0, q.0), each xs p.1 q.1)

pub sound_parts : (since : Target → ℕ) (items : List Item) (store : Holdings) → IsDistinct same_target (keys_of store.entries) → AllHeld (IsSound since items) store.entries → HasSources since items store × all_can_reply store
sound_parts since items store keys sound = (
  record { keys = keys; sources = held_weaken (IsSound since items) (HasSource since items) (λ target stored s. s.0) store.entries sound },
  held_weaken (IsSound since items) (λ _ stored. CanReply stored) (λ target stored s. s.1) store.entries sound,
)

-- ---- replies that can be recorded

pub record IsFit (to_head : Bool) (reply : Message ResponseHead) : Type 0 where
  pub writable : IsWritableAnswer to_head reply
  pub digits : reply.head.status < 1000

-- a stored response, or that what the client has of it still holds
entry_fit : (wanted : Wanted) (handling : Handling) (stored : Stored) → IsWritableStatus wanted.name handling → CanReply stored → IsFit (is_head wanted.asked.method) (entry_reply wanted handling stored)
entry_fit wanted handling stored writable can = go (has_still wanted.asked.fields stored)
  where
    short : (head : Bool) → length (cond head [] stored.body) ≤ 16777216
    short true = omega arith
    short false = can.short

    bare : (head : Bool) → ends_with_head head stored.status ≡ true → cond head [] stored.body ≡ []
    bare true ends = refl
    bare false ends = can.bare ends

    go : (b : Bool) → IsFit (is_head wanted.asked.method)
        (cond b (not_modified_reply wanted.name handling wanted.closes wanted.moment stored) (stored_reply wanted.name handling wanted.closes wanted.moment (is_head wanted.asked.method) stored))
    go true = record {
      writable = record {
        readable = record {
          head = not_modified_writable wanted.name handling wanted.closes wanted.moment stored writable can.lines;
          short = omega arith;
          bare = λ ends. refl;
        };
        is_final = omega arith;
      };
      digits = omega arith;
    }
    go false = record {
      writable = record {
        readable = record {
          head = stored_writable wanted.name handling wanted.closes wanted.moment (is_head wanted.asked.method) stored writable (omega (arith, can.is_final)) can.has_digits can.lines can.no_framing;
          short = short (is_head wanted.asked.method);
          bare = bare (is_head wanted.asked.method);
        };
        is_final = can.is_final;
      };
      digits = can.has_digits;
    }

pub hit_fit : (wanted : Wanted) (stored : Stored) → is_name wanted.name ≡ true → CanReply stored → IsFit (is_head wanted.asked.method) (hit_reply wanted stored)
hit_fit wanted stored name can = entry_fit wanted (Hit (Some (ttl_at stored wanted.moment))) stored (hit_writable wanted.name stored wanted.moment name) can

pub replacing_fit : (wanted : Wanted) (why : Cause) (told : Option ℕ) (stored : Stored) → is_name wanted.name ≡ true → IsToldStatus told → CanReply stored
    → IsFit (is_head wanted.asked.method) (replacing_reply wanted why told stored)
replacing_fit wanted why told stored name small can =
    entry_fit wanted (Fwd (word_of why) (status_told told (entry_status wanted stored)) false false) stored (replacing_writable wanted.name why told (entry_status wanted stored) name small) can

pub collapsed_fit : (wanted : Wanted) (stored : Stored) → is_name wanted.name ≡ true → CanReply stored → IsFit (is_head wanted.asked.method) (collapsed_reply wanted stored)
collapsed_fit wanted stored name can = entry_fit wanted (Fwd (word_of UriMiss) None false true) stored (collapsed_writable wanted.name name) can

pub passed_fit : (wanted : Wanted) (why : Cause) (stored : Bool) (to_head : Bool) (response : Message ResponseHead) → is_name wanted.name ≡ true → wanted.moment < 253402300800
    → IsReceivedAnswer to_head response → IsFit to_head (passed_reply wanted why stored response)
passed_fit wanted why stored to_head response name early r = record {
  writable = record {
    readable = record {
      head = forwarded_writable wanted.name (Fwd (word_of why) None stored false) wanted.closes wanted.moment response (forward_writable wanted.name why stored name) early r.plain r.lines r.no_framing;
      short = r.short;
      bare = r.bare;
    };
    is_final = r.is_final;
  };
  digits = r.plain.greatest;
}

pub made_fit : (wanted : Wanted) (to_head : Bool) (status : ℕ) → 200 ≤ status → status < 1000 → wanted.moment < 253402300800 → IsFit to_head (made_reply wanted status)
made_fit wanted to_head status final digits early = record {
  writable = record {
    readable = record { head = generated_writable status wanted.moment wanted.closes (omega arith) digits early; short = omega arith; bare = λ ends. refl };
    is_final = final;
  };
  digits = digits;
}
