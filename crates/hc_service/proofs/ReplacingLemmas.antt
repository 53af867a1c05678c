-- Replies from the store in place of what the origin answered are right.
use Rattle.std.proofs.Common.{◌≡◌, ℕ, ◌≤◌, ◌<◌, Bool, true, false, ◌||◌, List, ◌∷◌, length, Option, Some, None, nat_eq, sym, subst, arith, ⊎_elim}
use Rattle.std.specs.Prelude.{◌==◌}
use Rattle.std.specs.Option.{option_eq}
use Rattle.std.proofs.lemmas.Bool.{and_from, and_parts, or_left, or_right, lt-ltb, eqb-true}
use Rattle.hc_head.specs.declared.head.ResponseHead.{ResponseHead}
use Rattle.hc_head.specs.declared.head.Target.{Target}
use Rattle.hc_head.specs.Methods.{is_get, is_head}
use Rattle.hc_head.specs.Statuses.{not_modified}
use Rattle.hc_head.specs.Targets.{same_target}
use Rattle.hc_framing.specs.declared.message.Message.{Message}
use Rattle.hc_update.specs.declared.stored.Stored.{Stored}
use Rattle.hc_transcript.specs.Items.{Item, OriginResponse, OriginFailure, ClientReply, Exchange, Forward}
use Rattle.hc_transcript.specs.History.{next_position, exchange_of, forward_of}
use Rattle.hc_history.specs.Right.{IsRight}
use Rattle.hc_head.specs.Statuses.{is_error_status}
use Rattle.hc_history.specs.Windows.{some_since, is_forward_of, is_error, is_failure}
use Rattle.hc_head.proofs.SameTargetLemmas.{same_target_itself}
use Rattle.hc_store.specs.Choosing.{is_selected, is_selected_validated}
use Rattle.hc_service.specs.declared.cases.Cause.{Cause}
use Rattle.hc_service.specs.declared.open.OpenForward.{OpenForward}
use Rattle.hc_service.specs.Sending.{recorded_format}
use Rattle.hc_service.specs.Settings.{is_name}
use Rattle.hc_service.specs.Cases.{word_of}
use Rattle.hc_service.specs.Agreement.{HasSource, CanReply}
use Rattle.hc_service.specs.Laws.{recorded_forward}
use Rattle.hc_service.specs.Replying.{Wanted, entry_status, status_told, replacing_reply}
use Rattle.hc_service.specs.Runs.{strict}
use Rattle.hc_service.specs.Serving.{may_replace}
use Rattle.hc_service.proofs.NameLemmas.{replacing_writable}
use Rattle.hc_service.proofs.PassedLemmas.{exchange_place}
use Rattle.hc_service.proofs.RightLemmas.{entry_right}
use Rattle.hc_service.proofs.UsableLemmas.{one_of_two, validated_is, replacing_usable, validated_usable}

-- an error's status has three digits
pub error_is_small : (s : ℕ) → is_error_status s ≡ true → s < 1000
error_is_small s is =
    ⊎_elim
    (λ (e : (500 == s) ≡ true). let same = eqb-true 500 s e in omega (arith, same))
    (λ (r : ((502 == s) || ((503 == s) || ((504 == s) || false))) ≡ true). ⊎_elim
    (λ (e : (502 == s) ≡ true). let same = eqb-true 502 s e in omega (arith, same))
    (λ (r : ((503 == s) || ((504 == s) || false)) ≡ true). ⊎_elim
    (λ (e : (503 == s) ≡ true). let same = eqb-true 503 s e in omega (arith, same))
    (λ (r : ((504 == s) || false) ≡ true). ⊎_elim
    (λ (e : (504 == s) ≡ true). let same = eqb-true 504 s e in omega (arith, same))
    (λ (r : false ≡ true). absurd (cc))
    (one_of_two (504 == s) false r))
    (one_of_two (503 == s) ((504 == s) || false) r))
    (one_of_two (502 == s) ((503 == s) || ((504 == s) || false)) r))
    (one_of_two (500 == s) ((502 == s) || ((503 == s) || ((504 == s) || false))) is)

-- what stands behind a request stands in its window
stands_last : (test : List Item → Item → Bool) (since : ℕ) (items : List Item) (item : Item) → since ≤ length items → test items item ≡ true → some_since test since (item ∷ items) ≡ true
stands_last test since items item place is = or_left _ _ (and_from _ _ (lt-ltb since (next_position items) (omega (arith, place))) is)

of_its_target : (items : List Item) (f : ℕ) (forward : OpenForward) (target : Target) → forward_of f items ≡ Some (recorded_forward forward) → forward.target ≡ target
    → is_forward_of target (forward_of f items) ≡ true
of_its_target items f forward target is_open same =
    subst (λ (o : Option Forward). is_forward_of target o ≡ true) (sym is_open) (subst (λ (g : Target). same_target forward.target g ≡ true) same (same_target_itself forward.target))

module _ (name : List ℕ) (good : is_name name ≡ true) (t : ℕ) (closes : Bool) (x : Exchange) (why : Cause) (stored : Stored) (can : CanReply stored)
    (method : (is_get x.request.method || is_head x.request.method) ≡ true) where
  abbrev wants : Wanted
  wants = record { name = name; moment = t; asked = x.request; closes = closes }

  -- it was validated in the window
  pub validated_right : {since : Target → ℕ} (items : List Item) → exchange_of x.number items ≡ Some x → HasSource since items x.target stored → (position : ℕ)
      → is_selected_validated x.request.fields position stored ≡ true → x.position < position
      → IsRight recorded_format strict items (ClientReply x.number t (replacing_reply (record { name = name; moment = t; asked = x.request; closes = closes }) why (Some not_modified) stored))
  validated_right items awaits source position validated later =
      let parts = and_parts (option_eq nat_eq stored.validated_at (Some position)) (is_selected x.request.fields stored) validated in
      entry_right items x t name closes stored source can method parts.1 awaits (word_of why) (status_told (Some not_modified) (entry_status wants stored)) false
      (replacing_writable name why (Some not_modified) (entry_status wants stored) good (omega arith)).plain
      (validated_usable items x t (replacing_reply wants why (Some not_modified) stored) stored position (validated_is stored.validated_at position parts.0) later)

  module _ {since : Target → ℕ} (items : List Item) (f moment : ℕ) (forward : OpenForward) (is_open : forward_of f items ≡ Some (recorded_forward forward)) (target : forward.target ≡ x.target)
      (awaits : exchange_of x.number items ≡ Some x) (selected : is_selected x.request.fields stored ≡ true) (may : may_replace x.request.fields stored t ≡ true) where
    -- an error stands in the window
    pub error_right : (response : Message ResponseHead) → is_error_status response.head.status ≡ true → HasSource since (OriginResponse f moment response ∷ items) x.target stored
        → IsRight recorded_format strict (OriginResponse f moment response ∷ items)
        (ClientReply x.number t (replacing_reply (record { name = name; moment = t; asked = x.request; closes = closes }) why (Some response.head.status) stored))
    error_right response is source =
        let told = status_told (Some response.head.status) (entry_status wants stored) in
        entry_right (OriginResponse f moment response ∷ items) x t name closes stored source can method selected awaits (word_of why) told false
        (replacing_writable name why (Some response.head.status) (entry_status wants stored) good (error_is_small response.head.status is)).plain
        (replacing_usable (OriginResponse f moment response ∷ items) x t (replacing_reply wants why (Some response.head.status) stored) stored may
        (or_left _ _ (stands_last (is_error x.target) x.position items (OriginResponse f moment response) (exchange_place x.number items x awaits)
        (and_from _ _ is (of_its_target items f forward x.target is_open target)))))

    -- a failure does
    pub failure_right : HasSource since (OriginFailure f moment ∷ items) x.target stored
        → IsRight recorded_format strict (OriginFailure f moment ∷ items)
        (ClientReply x.number t (replacing_reply (record { name = name; moment = t; asked = x.request; closes = closes }) why None stored))
    failure_right source =
        entry_right (OriginFailure f moment ∷ items) x t name closes stored source can method selected awaits (word_of why) None false
        (replacing_writable name why None (entry_status wants stored) good tt).plain
        (replacing_usable (OriginFailure f moment ∷ items) x t (replacing_reply wants why None stored) stored may
        (or_right _ _ (stands_last (is_failure x.target) x.position items (OriginFailure f moment) (exchange_place x.number items x awaits)
        (of_its_target items f forward x.target is_open target))))
