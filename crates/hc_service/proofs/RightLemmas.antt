-- The replies of a cache from what it stores are right.
use Rattle.std.proofs.Common.{◌≡◌, ℕ, ◌+◌, ◌≤◌, Bool, true, false, cond, ◌&&◌, ◌||◌, List, [], ◌∷◌, ◌++◌, length, take, ℤ, pos, ◌-ℤ◌, nat_abs, Option, Some, None, refl, sym, ap, ◌∙◌, subst, arith, inr, ⊎_elim}
use Rattle.std.specs.Prelude.{◌==◌, nat_le, not, codes, option_and_then, if◌then◌else◌}
use Rattle.std.specs.Cmp.Lexicographic.{pointwise}
use Rattle.std.specs.List.{list_all}
use Rattle.std.specs.Str.{bytes_eq}
use Rattle.std.proofs.lemmas.Bool.{cases_Bool, eq-eqb, and_from, or_left, or_right, le-leb, lt-ltb}
use Rattle.std.proofs.lemmas.Int.{ints}
use Rattle.std.proofs.lemmas.Slice.Eq.{bytes_eq-Decides}
use Rattle.hc_fields.specs.declared.fields.Field.{Field}
use Rattle.hc_fields.specs.Numbers.{number_of}
use Rattle.hc_fields.specs.Values.{values_of, only_value, has_name}
use Rattle.hc_head.specs.declared.head.ResponseHead.{ResponseHead}
use Rattle.hc_head.specs.declared.head.Target.{Target}
use Rattle.hc_head.specs.Methods.{is_get, is_head}
use Rattle.hc_head.specs.Statuses.{partial_content}
use Rattle.hc_framing.specs.declared.message.Message.{Message}
use Rattle.hc_rules.specs.Conditions.{repeated_names}
use Rattle.hc_status.specs.declared.cache_status.Handling.{Handling}
use Rattle.hc_status.specs.declared.cache_status.Handling.TheVariants.{Hit, Fwd}
use Rattle.hc_status.specs.declared.marks.Mark.{Mark}
use Rattle.hc_status.specs.declared.marks.Mark.TheVariants as mark
use Rattle.hc_status.specs.Marks.{mark_of}
use Rattle.hc_status.specs.Texts.{written_mark}
use Rattle.hc_update.specs.declared.stored.Stored.{Stored}
use Rattle.hc_replies.specs.Replies.{stored_reply, not_modified_reply}
use Rattle.hc_replies.specs.Laws.{is_own_name, is_repeated, IsPlainStatus}
use Rattle.hc_replies.proofs.ReplyLemmas.{stored_marked, stored_values, stored_age_told, not_modified_marked, not_modified_age_told, repeated_values, no_other_values}
use Rattle.hc_transcript.specs.Items.{Item, ClientReply, Exchange}
use Rattle.hc_transcript.specs.History.{exchange_of}
use Rattle.hc_history.specs.Claims.{claim_of, ttl_of}
use Rattle.hc_history.specs.Filters.{within, is_age, is_ttl, is_exempt, same_values, compared_names, names_of, has_its_body, has_its_fields, has_its_age, has_its_ttl, strict_filters}
use Rattle.hc_history.specs.Marks.{reply_mark, judged_mark}
use Rattle.hc_history.specs.declared.among.Among.TheVariants.{Any, InWindow}
use Rattle.hc_history.specs.Allowing.{filters}
use Rattle.hc_history.specs.Reused.{Pass, IsReused, collapsed_count, filter_count, forwarded_count}
use Rattle.hc_history.proofs.AllowedLemmas.{strict_alike}
use Rattle.hc_history.specs.Right.{IsRight, IsRightTo, IsRightBy}
use Rattle.hc_history.specs.Usable.{age_at, lifetime_of, is_usable}
use Rattle.hc_head.proofs.SameTargetLemmas.{same_target_itself}
use Rattle.hc_store.specs.Choosing.{is_selected}
use Rattle.hc_service.specs.Sending.{recorded_format}
use Rattle.hc_service.specs.Agreement.{HasSource, CanReply}
use Rattle.hc_service.specs.Replying.{Wanted, collapsed_reply, entry_reply, hit_reply}
use Rattle.hc_service.specs.Runs.{strict}
use Rattle.hc_service.specs.declared.cases.Cause.TheVariants.{UriMiss}
use Rattle.hc_service.specs.Cases.{word_of}
use Rattle.hc_service.specs.Joining.{may_be_shared}
use Rattle.hc_service.specs.Serving.{ttl_at, has_still, may_be_served}
use Rattle.hc_service.proofs.UsableLemmas.{served_usable, shared_usable}

-- ---- small facts

pointwise_same : (xs : List (List ℕ)) → pointwise bytes_eq xs xs ≡ true
pointwise_same [] = refl
pointwise_same (x ∷ xs) = and_from _ _ ((bytes_eq-Decides x x).1 refl) (pointwise_same xs)

all_so : {X : Type 0} (test : X → Bool) → ((x : X) → test x ≡ true) → (xs : List X) → list_all test xs ≡ true
all_so test so [] = refl
all_so test so (x ∷ xs) = and_from _ _ (so x) (all_so test so xs)

all_both : {X : Type 0} (test : X → Bool) (xs ys : List X) → list_all test xs ≡ true → list_all test ys ≡ true → list_all test (xs ++ ys) ≡ true
all_both test [] ys h k = k
all_both test (x ∷ xs) ys h k = let parts = split_and (test x) (list_all test xs) h in and_from _ _ parts.0 (all_both test xs ys parts.1 k)
  where
    split_and : (a b : Bool) → (a && b) ≡ true → (a ≡ true) × (b ≡ true)
    split_and true b e = (refl, e)
    split_and false b e = absurd (cc)

-- all names of lines pass what each name passes that a line has
all_named : (fields : List Field) (test : List ℕ → Bool) → ((name : List ℕ) → has_name name fields ≡ true → test name ≡ true) → list_all test (names_of fields) ≡ true
all_named [] test so = refl
all_named (f ∷ fields) test so =
    and_from _ _ (so f.name (or_left _ _ ((bytes_eq-Decides f.name f.name).1 refl))) (all_named fields test (λ name is. so name (or_right _ _ is)))

-- a line has a name of which there is a value
some_value : (name : List ℕ) (fields : List Field) → has_name name fields ≡ true → values_of name fields ≡ [] → ⊥
some_value name [] is none = cc
some_value name (f ∷ fields) is none =
    ⊎_elim
    (λ (same : bytes_eq f.name name ≡ true). never f.value (values_of name fields) (sym (ap (λ (b : Bool). cond b (f.value ∷ values_of name fields) (values_of name fields)) same) ∙ none))
    (λ (other : bytes_eq f.name name ≡ false).
    some_value name fields (sym (ap (λ (b : Bool). b || has_name name fields) other) ∙ is)
    (sym (ap (λ (b : Bool). cond b (f.value ∷ values_of name fields) (values_of name fields)) other) ∙ none))
    (cases_Bool (bytes_eq f.name name))
  where
    never : (v : List ℕ) (vs : List (List ℕ)) → v ∷ vs ≡ [] → ⊥
    never v vs e = cc

second_of_three : (a b c : Bool) → b ≡ true → (a || b || c) ≡ true
second_of_three true true c is = refl
second_of_three false true c is = refl
second_of_three a false c is = absurd (cc)

all_nine : (a b c d e f g h i : Bool) → a ≡ true → b ≡ true → c ≡ true → d ≡ true → e ≡ true → f ≡ true → g ≡ true → h ≡ true → i ≡ true
    → list_all (λ x. x) (take 9 (a ∷ b ∷ c ∷ d ∷ e ∷ f ∷ g ∷ h ∷ i ∷ [])) ≡ true
all_nine a b c d e f g h i ea eb ec ed ee ef eg eh ei = rw (ea, eb, ec, ed, ee, ef, eg, eh, ei) refl

all_seven : (a b c d e f g h i : Bool) → a ≡ true → b ≡ true → c ≡ true → d ≡ true → e ≡ true → f ≡ true → g ≡ true
    → list_all (λ x. x) (take 7 (a ∷ b ∷ c ∷ d ∷ e ∷ f ∷ g ∷ h ∷ i ∷ [])) ≡ true
all_seven a b c d e f g h i ea eb ec ed ee ef eg = rw (ea, eb, ec, ed, ee, ef, eg) refl

all_eight : (a b c d e f g h i : Bool) → a ≡ true → b ≡ true → c ≡ true → d ≡ true → e ≡ true → f ≡ true → g ≡ true → h ≡ true
    → list_all (λ x. x) (take 8 (a ∷ b ∷ c ∷ d ∷ e ∷ f ∷ g ∷ h ∷ i ∷ [])) ≡ true
all_eight a b c d e f g h i ea eb ec ed ee ef eg eh = rw (ea, eb, ec, ed, ee, ef, eg, eh) refl

within_itself : (n : ℕ) → within 0 n n ≡ true
within_itself n = and_from _ _ (le-leb n (n + 0) (omega arith)) (le-leb n (n + 0) (omega arith))

no_difference : (z : ℤ) → nat_le (nat_abs (z -ℤ z)) 0 ≡ true
no_difference z = let same : z -ℤ z ≡ pos 0 = omega (arith, ints) in ap (λ (d : ℤ). nat_le (nat_abs d) 0) same

-- ---- a reply from the store

module _ (items : List Item) (x : Exchange) (moment : ℕ) (name : List ℕ) (closes : Bool) (handling : Handling) (stored : Stored) where
  -- it is marked, and has the body, the fields and the age of the stored response, or those of a 304 that the client's condition earns
  pub record Carries (reply : Message ResponseHead) : Type 0 where
    pub marked : mark_of reply.head.fields ≡ written_mark handling
    pub is_whole : (reply.head.status == partial_content) ≡ false
    pub body : has_its_body (claim_of recorded_format strict x moment reply items) stored ≡ true
    pub fields : has_its_fields (claim_of recorded_format strict x moment reply items) stored ≡ true
    pub age : option_and_then number_of (only_value (codes "age") reply.head.fields) ≡ Some (age_at stored moment)

  abbrev kept_reply : Message ResponseHead
  kept_reply = stored_reply name handling closes moment (is_head x.request.method) stored

  abbrev short_reply : Message ResponseHead
  short_reply = not_modified_reply name handling closes moment stored

  -- the names that the cache writes anew are exempt
  exempt : (reply : Message ResponseHead) (field : List ℕ) → is_own_name field ≡ true → is_exempt (claim_of recorded_format strict x moment reply items) field ≡ true
  exempt reply field own =
      ⊎_elim
      (λ (e : bytes_eq (codes "age") field ≡ true).
      subst (λ (n : List ℕ). is_exempt (claim_of recorded_format strict x moment reply items) n ≡ true) ((bytes_eq-Decides (codes "age") field).0 e) (second_of_three _ true _ refl))
      (λ (past : bytes_eq (codes "age") field ≡ false). ⊎_elim
      (λ (e : bytes_eq (codes "cache-status") field ≡ true).
      subst (λ (n : List ℕ). is_exempt (claim_of recorded_format strict x moment reply items) n ≡ true) ((bytes_eq-Decides (codes "cache-status") field).0 e) (second_of_three _ true _ refl))
      (λ (beyond : bytes_eq (codes "cache-status") field ≡ false). ⊎_elim
      (λ (e : bytes_eq (codes "connection") field ≡ true).
      subst (λ (n : List ℕ). is_exempt (claim_of recorded_format strict x moment reply items) n ≡ true) ((bytes_eq-Decides (codes "connection") field).0 e) refl)
      (λ (none : bytes_eq (codes "connection") field ≡ false). absurd (true_is_false (sym own ∙ rw (past, beyond, none) refl)))
      (cases_Bool (bytes_eq (codes "connection") field)))
      (cases_Bool (bytes_eq (codes "cache-status") field)))
      (cases_Bool (bytes_eq (codes "age") field))
    where
      true_is_false : true ≡ false → ⊥
      true_is_false e = cc

  same_body : (head : Bool) → (if head then length (if head then [] else stored.body) == 0 else bytes_eq (if head then [] else stored.body) stored.body) ≡ true
  same_body true = refl
  same_body false = (bytes_eq-Decides stored.body stored.body).1 refl

  -- the stored response
  same_field : (field : List ℕ) → (is_exempt (claim_of recorded_format strict x moment kept_reply items) field || same_values kept_reply.head.fields stored.fields field) ≡ true
  same_field field =
      ⊎_elim
      (λ (own : is_own_name field ≡ true). or_left _ _ (exempt kept_reply field own))
      (λ (other : is_own_name field ≡ false). or_right _ _
      (subst (λ (vs : List (List ℕ)). pointwise bytes_eq vs (values_of field stored.fields) ≡ true)
      (sym (stored_values field name handling closes moment (is_head x.request.method) stored other))
      (pointwise_same (values_of field stored.fields))))
      (cases_Bool (is_own_name field))

  kept_carries : CanReply stored → IsPlainStatus name handling → Carries kept_reply
  kept_carries can plain = record {
    marked = stored_marked name handling closes moment (is_head x.request.method) stored plain;
    is_whole = can.is_whole;
    body = or_left _ _ (and_from _ _ (eq-eqb stored.status stored.status refl) (same_body (is_head x.request.method)));
    fields = all_so _ same_field (compared_names (claim_of recorded_format strict x moment kept_reply items) stored);
    age = stored_age_told name handling closes moment (is_head x.request.method) stored can.no_age;
  }

  -- that it still holds
  repeated_field : (field : List ℕ) → is_repeated field ≡ true → (is_exempt (claim_of recorded_format strict x moment short_reply items) field || same_values short_reply.head.fields stored.fields field) ≡ true
  repeated_field field repeats =
      or_right _ _
      (subst (λ (vs : List (List ℕ)). pointwise bytes_eq vs (values_of field stored.fields) ≡ true) (sym (repeated_values field name handling closes moment stored repeats))
      (pointwise_same (values_of field stored.fields)))

  named_field : (field : List ℕ) → has_name field short_reply.head.fields ≡ true
      → (is_exempt (claim_of recorded_format strict x moment short_reply items) field || same_values short_reply.head.fields stored.fields field) ≡ true
  named_field field there =
      ⊎_elim
      (λ (repeats : is_repeated field ≡ true). repeated_field field repeats)
      (λ (apart : is_repeated field ≡ false). ⊎_elim
      (λ (own : is_own_name field ≡ true). or_left _ _ (exempt short_reply field own))
      (λ (other : is_own_name field ≡ false). absurd (some_value field short_reply.head.fields there (no_other_values field name handling closes moment stored apart other)))
      (cases_Bool (is_own_name field)))
      (cases_Bool (is_repeated field))

  short_carries : has_still x.request.fields stored ≡ true → IsPlainStatus name handling → Carries short_reply
  short_carries holds plain = record {
    marked = not_modified_marked name handling closes moment stored plain;
    is_whole = refl;
    body = or_right _ _ holds;
    fields = all_both _ (names_of short_reply.head.fields) repeated_names (all_named short_reply.head.fields _ named_field)
        (and_from _ _ (repeated_field (codes "cache-control") refl) (and_from _ _ (repeated_field (codes "content-location") refl) (and_from _ _ (repeated_field (codes "date") refl)
        (and_from _ _ (repeated_field (codes "etag") refl) (and_from _ _ (repeated_field (codes "expires") refl) (and_from _ _ (repeated_field (codes "vary") refl) refl))))));
    age = not_modified_age_told name handling closes moment stored;
  }

  -- what the client gets of it
  abbrev wanted : Wanted
  wanted = record { name = name; moment = moment; asked = x.request; closes = closes }

  pub entry_carries : CanReply stored → IsPlainStatus name handling → Carries (entry_reply (record { name = name; moment = moment; asked = x.request; closes = closes }) handling stored)
  entry_carries can plain = go (has_still x.request.fields stored) refl
    where
      go : (b : Bool) → has_still x.request.fields stored ≡ b → Carries (cond b short_reply kept_reply)
      go true holds = short_carries holds plain
      go false none = kept_carries can plain

  -- ---- what each reply from the store passes

  module _ {since : Target → ℕ} (source : HasSource since items x.target stored) (can : CanReply stored) (method : (is_get x.request.method || is_head x.request.method) ≡ true)
      (selected : is_selected x.request.fields stored ≡ true) (reply : Message ResponseHead) (carries : Carries reply)
      (usable : is_usable (claim_of recorded_format strict x moment reply items) stored ≡ true) where
    -- nothing is allowed beside the strict rules
    as_allowed : (n : ℕ) → list_all (λ b. b) (take n (strict_filters (claim_of recorded_format strict x moment reply items) (record { target = x.target; state = stored }))) ≡ true
        → list_all (λ b. b) (take n (filters (claim_of recorded_format strict x moment reply items) (record { target = x.target; state = stored }))) ≡ true
    as_allowed n holds =
        subst (λ (tests : List Bool). list_all (λ b. b) (take n tests) ≡ true)
        (sym (strict_alike (claim_of recorded_format strict x moment reply items) false refl (record { target = x.target; state = stored }))) holds

    pub passes_seven : Pass forwarded_count Any (claim_of recorded_format strict x moment reply items) items
    passes_seven =
        record {
          position = source.position;
          kept = record { target = x.target; state = stored };
          is_one = refl;
          is_its_state = source.is_its_state;
          holds = as_allowed forwarded_count
              (all_seven _ _ _ _ _ _ _ (has_its_age (claim_of recorded_format strict x moment reply items) stored) (has_its_ttl (claim_of recorded_format strict x moment reply items) stored)
              (and_from _ _ method (same_target_itself x.target)) selected (ap not source.is_valid) (or_right _ _ usable) usable carries.body carries.fields);
        }

    -- all but the last, where the stored response lies behind the request
    pub passes_eight : x.position ≤ since x.target → Pass collapsed_count InWindow (claim_of recorded_format strict x moment reply items) items
    passes_eight behind = record {
      position = source.position;
      kept = record { target = x.target; state = stored };
      is_one = lt-ltb x.position source.position (omega (arith, behind, source.is_later));
      is_its_state = source.is_its_state;
      holds = as_allowed collapsed_count
          (all_eight _ _ _ _ _ _ _ _ (has_its_ttl (claim_of recorded_format strict x moment reply items) stored)
          (and_from _ _ method (same_target_itself x.target)) selected (ap not source.is_valid) (or_right _ _ usable) usable carries.body carries.fields
          (subst (λ (o : Option ℕ). is_age (claim_of recorded_format strict x moment reply items) (age_at stored moment) o ≡ true) (sym carries.age) (within_itself (age_at stored moment))));
    }

    pub passes_nine : reply_mark reply ≡ mark.Hit (Some (ttl_at stored moment)) → IsReused (claim_of recorded_format strict x moment reply items) items
    passes_nine marked =
        record {
          position = source.position;
          kept = record { target = x.target; state = stored };
          is_one = refl;
          is_its_state = source.is_its_state;
          holds = as_allowed filter_count
              (all_nine _ _ _ _ _ _ _ _ _
              (and_from _ _ method (same_target_itself x.target)) selected (ap not source.is_valid) (or_right _ _ usable) usable carries.body carries.fields
              (subst (λ (o : Option ℕ). is_age (claim_of recorded_format strict x moment reply items) (age_at stored moment) o ≡ true) (sym carries.age) (within_itself (age_at stored moment)))
              (subst (λ (m : Mark). is_ttl (claim_of recorded_format strict x moment reply items) (pos (lifetime_of stored) -ℤ pos (age_at stored moment)) (ttl_of m) ≡ true) (sym marked)
              (no_difference (pos (lifetime_of stored) -ℤ pos (age_at stored moment)))));
        }

module _ {since : Target → ℕ} (items : List Item) (x : Exchange) (moment : ℕ) (name : List ℕ) (closes : Bool) (stored : Stored)
    (source : HasSource since items x.target stored) (can : CanReply stored) (method : (is_get x.request.method || is_head x.request.method) ≡ true)
    (selected : is_selected x.request.fields stored ≡ true) (is_open : exchange_of x.number items ≡ Some x) where
  -- a hit is reused
  pub hit_right : may_be_served x.request.fields stored moment ≡ true → IsPlainStatus name (Hit (Some (ttl_at stored moment)))
      → IsRight recorded_format strict items (ClientReply x.number moment (hit_reply (record { name = name; moment = moment; asked = x.request; closes = closes }) stored))
  hit_right served plain =
      let reply = hit_reply (record { name = name; moment = moment; asked = x.request; closes = closes }) stored in
      let carries = entry_carries items x moment name closes (Hit (Some (ttl_at stored moment))) stored can plain in
      let marked = hit_mark reply carries in
      subst (λ (o : Option Exchange). IsRightTo recorded_format strict o moment reply items) (sym is_open)
      (subst (λ (m : Mark). IsRightBy m (claim_of recorded_format strict x moment reply items) items) (sym marked)
      (passes_nine items x moment name closes (Hit (Some (ttl_at stored moment))) stored source can method selected reply carries (served_usable items x moment reply stored served) marked))
    where
      hit_mark : (reply : Message ResponseHead) → Carries items x moment name closes (Hit (Some (ttl_at stored moment))) stored reply → reply_mark reply ≡ mark.Hit (Some (ttl_at stored moment))
      hit_mark reply carries =
          ap (judged_mark reply.head.status) carries.marked ∙ ap (λ (b : Bool). cond b mark.Unmarked (mark.Hit (Some (ttl_at stored moment)))) carries.is_whole

  -- so is what is served to one that waited for the forward of another request, where it lies behind its own
  pub shared_right : x.position ≤ since x.target → may_be_shared stored moment ≡ true → IsPlainStatus name (Fwd (word_of UriMiss) None false true)
      → IsRight recorded_format strict items (ClientReply x.number moment (collapsed_reply (record { name = name; moment = moment; asked = x.request; closes = closes }) stored))
  shared_right behind may plain =
      let reply = collapsed_reply (record { name = name; moment = moment; asked = x.request; closes = closes }) stored in
      let carries = entry_carries items x moment name closes (Fwd (word_of UriMiss) None false true) stored can plain in
      let marked : reply_mark reply ≡ mark.Forwarded true = ap (judged_mark reply.head.status) carries.marked in
      subst (λ (o : Option Exchange). IsRightTo recorded_format strict o moment reply items) (sym is_open)
      (subst (λ (m : Mark). IsRightBy m (claim_of recorded_format strict x moment reply items) items) (sym marked)
      (passes_eight items x moment name closes (Fwd (word_of UriMiss) None false true) stored source can method selected reply carries
      (shared_usable items x moment reply stored may) behind))

  -- so is what stands in the place of what the origin answered, where it may be used
  pub entry_right : (word : List ℕ) (told : Option ℕ) (put : Bool) → IsPlainStatus name (Fwd word told put false)
      → is_usable (claim_of recorded_format strict x moment (entry_reply (record { name = name; moment = moment; asked = x.request; closes = closes }) (Fwd word told put false) stored) items) stored ≡ true
      → IsRight recorded_format strict items (ClientReply x.number moment (entry_reply (record { name = name; moment = moment; asked = x.request; closes = closes }) (Fwd word told put false) stored))
  entry_right word told put plain usable =
      let reply = entry_reply (record { name = name; moment = moment; asked = x.request; closes = closes }) (Fwd word told put false) stored in
      let carries = entry_carries items x moment name closes (Fwd word told put false) stored can plain in
      let marked : reply_mark reply ≡ mark.Forwarded false = ap (judged_mark reply.head.status) carries.marked in
      subst (λ (o : Option Exchange). IsRightTo recorded_format strict o moment reply items) (sym is_open)
      (subst (λ (m : Mark). IsRightBy m (claim_of recorded_format strict x moment reply items) items) (sym marked)
      (inr (passes_seven items x moment name closes (Fwd word told put false) stored source can method selected reply carries usable)))
