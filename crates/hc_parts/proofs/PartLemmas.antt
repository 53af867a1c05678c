-- A recording is right exactly where each part of it is.
use Rattle.std.proofs.Common.{◌≡◌, ◌↔◌, ℕ, Bool, true, false, cond, ◌&&◌, List, [], ◌∷◌, Option, Some, None, is_some, refl, sym, ap, subst, ◌∙◌, inl, inr}
use Rattle.std.specs.Option.{option_map}
use Rattle.std.proofs.lemmas.Bool.{cases_Bool, eq-eqb, eqb-true}
use Rattle.hc_head.specs.declared.head.ResponseHead.{ResponseHead}
use Rattle.hc_head.specs.declared.head.Target.{Target}
use Rattle.hc_head.specs.Statuses.{is_error_status}
use Rattle.hc_head.specs.Targets.{same_target}
use Rattle.hc_framing.specs.declared.message.Message.{Message}
use Rattle.hc_transcript.specs.declared.format.Format.{Format}
use Rattle.hc_transcript.specs.Items.{Item, ClientRequest, OriginRequest, OriginResponse, OriginFailure, ClientReply, Exchange, Forward}
use Rattle.hc_transcript.specs.History.{exchange_of, forward_of}
use Rattle.hc_history.specs.declared.reasons.Reason.{Reason}
use Rattle.hc_history.specs.declared.settings.Settings.{Settings}
use Rattle.hc_history.specs.Claims.{Claim, claim_of, ttl_of}
use Rattle.hc_history.specs.Marks.{infers, item_mark, mark_by, mark_to, reply_mark}
use Rattle.hc_history.specs.Right.{AllRight, IsRight, IsRightBy, IsRightTo, IsWrong, IsWrongBy, IsWrongTo}
use Rattle.hc_history.specs.Windows.{has_forward, is_error, is_failure, is_forward_of, some_since}
use Rattle.hc_history.proofs.NoteLemmas.{forwarded_in_window}
use Rattle.hc_parts.specs.Parts.{KeepsCauses, goes_into, is_of_part, items_in, target_about}
use Rattle.hc_parts.specs.Orderly.{AreInTurn, IsInTurn}
use Rattle.hc_parts.proofs.OpenLemmas.{IsOpenHere, KeepsTargets, exchange_open, forward_answered, has_forward_there, some_in}
use Rattle.hc_parts.proofs.ReplyLemmas.{moved, right_by, wrong_by}

module _ (part : Target → ℕ) (k : ℕ) (keeps : KeepsTargets part) where
  -- ---- errors and failures of a target of the part

  forward_apart : (target : Target) (o : Option Forward) → part target ≡ k → is_of_part part k (option_map (λ (f : Forward). f.target) o) ≡ false → is_forward_of target o ≡ false
  forward_apart target None its apart = refl
  forward_apart target (Some f) its apart = elim (cases_Bool (same_target f.target target)) [
    | inl same ↦ let never : false ≡ true = sym apart ∙ eq-eqb (part f.target) k (keeps f.target target same ∙ its) in cc
    | inr other ↦ other
  ]

  and_never : (a : Bool) → (a && false) ≡ false
  and_never true = refl
  and_never false = refl

  error_there : (target : Target) (g : List Item) (item : Item) → AreInTurn g → goes_into part k g item ≡ true → is_error target g item ≡ is_error target (items_in part k g) item
  error_there target g (OriginResponse number moment response) turn goes =
      ap (λ (o : Option Forward). is_error_status response.head.status && is_forward_of target o) (sym (forward_answered part k number g turn goes))
  error_there target g item turn goes = refl

  error_elsewhere : (target : Target) → part target ≡ k → (g : List Item) (item : Item) → AreInTurn g → goes_into part k g item ≡ false → is_error target g item ≡ false
  error_elsewhere target its g (OriginResponse number moment response) turn apart =
      ap (λ (b : Bool). is_error_status response.head.status && b) (forward_apart target (forward_of number g) its apart) ∙ and_never (is_error_status response.head.status)
  error_elsewhere target its g item turn apart = refl

  failure_there : (target : Target) (g : List Item) (item : Item) → AreInTurn g → goes_into part k g item ≡ true → is_failure target g item ≡ is_failure target (items_in part k g) item
  failure_there target g (OriginFailure number moment) turn goes = ap (is_forward_of target) (sym (forward_answered part k number g turn goes))
  failure_there target g item turn goes = refl

  failure_elsewhere : (target : Target) → part target ≡ k → (g : List Item) (item : Item) → AreInTurn g → goes_into part k g item ≡ false → is_failure target g item ≡ false
  failure_elsewhere target its g (OriginFailure number moment) turn apart = forward_apart target (forward_of number g) its apart
  failure_elsewhere target its g item turn apart = refl

  -- ---- a reply to an open exchange of the part

  module _ (h : List Item) (turn : AreInTurn h) (joined : KeepsCauses part h) (e : ℕ) (x : Exchange) (is : exchange_of e h ≡ Some x) (its : part x.target ≡ k) where
    there : IsOpenHere part k e x h
    there = exchange_open part k e h x turn is its

    there_target : there.there.target ≡ x.target
    there_target = ap (λ (y : Exchange). y.target) there.same

    forward_same : has_forward there.there (items_in part k h) ≡ has_forward x h
    forward_same =
        sym (forwarded_in_window e (items_in part k h) there.there there.is) ∙ has_forward_there part k e h x turn joined is its ∙ forwarded_in_window e h x is

    error_same : some_since (is_error x.target) there.there.position (items_in part k h) ≡ some_since (is_error x.target) x.position h
    error_same = sym (some_in part k (is_error x.target) (error_there x.target) (error_elsewhere x.target its) x.position there.there.position h turn there.agrees)

    failure_same : some_since (is_failure x.target) there.there.position (items_in part k h) ≡ some_since (is_failure x.target) x.position h
    failure_same = sym (some_in part k (is_failure x.target) (failure_there x.target) (failure_elsewhere x.target its) x.position there.there.position h turn there.agrees)

    module _ (format : Format) (settings : Settings) (moment : ℕ) (reply : Message ResponseHead) where
      claim_there : claim_of format settings there.there moment reply (items_in part k h) ≡ moved (claim_of format settings x moment reply h) there.there.position
      claim_there =
          ap (λ (y : Exchange). record {
            format = format;
            exchange = y.number;
            request = y.request;
            target = y.target;
            since = there.there.position;
            reply = reply;
            moment = moment;
            is_inferred = infers format settings.allowed (has_forward there.there (items_in part k h)) reply;
            ttl = ttl_of (reply_mark reply);
            has_error = some_since (is_error y.target) there.there.position (items_in part k h);
            has_failure = some_since (is_failure y.target) there.there.position (items_in part k h);
            settings = settings;
          }) there.same
          ∙ (λ i. record (moved (claim_of format settings x moment reply h) there.there.position) {
            is_inferred = infers format settings.allowed (forward_same i) reply;
            has_error = error_same i;
            has_failure = failure_same i;
          })

      mark_there : mark_by format settings.allowed (has_forward there.there (items_in part k h)) reply ≡ mark_by format settings.allowed (has_forward x h) reply
      mark_there = ap (λ (b : Bool). mark_by format settings.allowed b reply) forward_same

      right_to : IsRightTo format settings (Some there.there) moment reply (items_in part k h) ↔ IsRightTo format settings (Some x) moment reply h
      right_to =
          let by = right_by part k keeps (claim_of format settings x moment reply h) its h turn there.there.position there.agrees (mark_by format settings.allowed (has_forward x h) reply) in (
            λ right. by.0 (subst (λ (c : Claim). IsRightBy (mark_by format settings.allowed (has_forward x h) reply) c (items_in part k h)) claim_there
                (subst (λ m. IsRightBy m (claim_of format settings there.there moment reply (items_in part k h)) (items_in part k h)) mark_there right)),
            λ right. subst (λ m. IsRightBy m (claim_of format settings there.there moment reply (items_in part k h)) (items_in part k h)) (sym mark_there)
                (subst (λ (c : Claim). IsRightBy (mark_by format settings.allowed (has_forward x h) reply) c (items_in part k h)) (sym claim_there) (by.1 right)),
          )

      wrong_to : (why : Reason) → IsWrongTo format settings (Some there.there) moment reply (items_in part k h) why ↔ IsWrongTo format settings (Some x) moment reply h why
      wrong_to why =
          let by = wrong_by part k keeps (claim_of format settings x moment reply h) its h turn there.there.position there.agrees (mark_by format settings.allowed (has_forward x h) reply) why in (
            λ wrong. by.0 (subst (λ (c : Claim). IsWrongBy (mark_by format settings.allowed (has_forward x h) reply) c (items_in part k h) why) claim_there
                (subst (λ m. IsWrongBy m (claim_of format settings there.there moment reply (items_in part k h)) (items_in part k h) why) mark_there wrong)),
            λ wrong. subst (λ m. IsWrongBy m (claim_of format settings there.there moment reply (items_in part k h)) (items_in part k h) why) (sym mark_there)
                (subst (λ (c : Claim). IsWrongBy (mark_by format settings.allowed (has_forward x h) reply) c (items_in part k h) why) (sym claim_there) (by.1 wrong)),
          )

  -- ---- the next item

  open_of : (o : Option Exchange) → is_of_part part k (option_map (λ (x : Exchange). x.target) o) ≡ true → (x : Exchange) × (o ≡ Some x) × (part x.target ≡ k)
  open_of None goes = cc
  open_of (Some x) goes = (x, refl, eqb-true (part x.target) k goes)

  pub right_there : (format : Format) (settings : Settings) (h : List Item) (item : Item) → AreInTurn h → KeepsCauses part h → goes_into part k h item ≡ true
      → IsRight format settings (items_in part k h) item ↔ IsRight format settings h item
  right_there format settings h (ClientReply number moment reply) turn joined goes =
      let o = open_of (exchange_of number h) goes in
      let it = there h turn joined number o.0 o.1 o.2 in
      let both = right_to h turn joined number o.0 o.1 o.2 format settings moment reply in (
        λ right. subst (λ (x : Option Exchange). IsRightTo format settings x moment reply h) (sym o.1)
            (both.0 (subst (λ (x : Option Exchange). IsRightTo format settings x moment reply (items_in part k h)) it.is right)),
        λ right. subst (λ (x : Option Exchange). IsRightTo format settings x moment reply (items_in part k h)) (sym it.is)
            (both.1 (subst (λ (x : Option Exchange). IsRightTo format settings x moment reply h) o.1 right)),
      )
  right_there format settings h item turn joined goes = (λ right. right, λ right. right)

  pub wrong_there : (format : Format) (settings : Settings) (h : List Item) (item : Item) (why : Reason) → AreInTurn h → KeepsCauses part h → goes_into part k h item ≡ true
      → IsWrong format settings (items_in part k h) item why ↔ IsWrong format settings h item why
  wrong_there format settings h (ClientReply number moment reply) why turn joined goes =
      let o = open_of (exchange_of number h) goes in
      let it = there h turn joined number o.0 o.1 o.2 in
      let both = wrong_to h turn joined number o.0 o.1 o.2 format settings moment reply why in (
        λ wrong. subst (λ (x : Option Exchange). IsWrongTo format settings x moment reply h why) (sym o.1)
            (both.0 (subst (λ (x : Option Exchange). IsWrongTo format settings x moment reply (items_in part k h) why) it.is wrong)),
        λ wrong. subst (λ (x : Option Exchange). IsWrongTo format settings x moment reply (items_in part k h) why) (sym it.is)
            (both.1 (subst (λ (x : Option Exchange). IsWrongTo format settings x moment reply h why) o.1 wrong)),
      )
  wrong_there format settings h item why turn joined goes = (λ wrong. wrong, λ wrong. wrong)

  -- the mark of the next item is the same there
  pub mark_of_item : (format : Format) (settings : Settings) (h : List Item) (item : Item) → AreInTurn h → KeepsCauses part h → goes_into part k h item ≡ true
      → item_mark format settings (items_in part k h) item ≡ item_mark format settings h item
  mark_of_item format settings h (ClientReply number moment reply) turn joined goes =
      let o = open_of (exchange_of number h) goes in
      let it = there h turn joined number o.0 o.1 o.2 in
      ap (λ (x : Option Exchange). Some (mark_to format settings x reply (items_in part k h))) it.is
      ∙ ap Some (mark_there h turn joined number o.0 o.1 o.2 format settings moment reply)
      ∙ ap (λ (x : Option Exchange). Some (mark_to format settings x reply h)) (sym o.1)
  mark_of_item format settings h item turn joined goes = refl

  -- ---- all replies

  pub all_there : (format : Format) (settings : Settings) (h : List Item) → AreInTurn h → KeepsCauses part h → AllRight format settings h → AllRight format settings (items_in part k h)
  all_there format settings [] turn joined right = tt
  all_there format settings (item ∷ h) turn joined right = elim (cases_Bool (goes_into part k h item)) [
    | inl goes ↦ rw goes (all_there format settings h turn.0 joined.0 right.0, (right_there format settings h item turn.0 joined.0 goes).1 right.1)
    | inr apart ↦ rw apart (all_there format settings h turn.0 joined.0 right.0)
  ]

  -- those before the newest are right where all are
  all_before : (format : Format) (settings : Settings) (h : List Item) (item : Item) → AllRight format settings (items_in part k (item ∷ h)) → AllRight format settings (items_in part k h)
  all_before format settings h item = by_goes (goes_into part k h item)
    where
      by_goes : (b : Bool) → AllRight format settings (cond b (item ∷ items_in part k h) (items_in part k h)) → AllRight format settings (items_in part k h)
      by_goes true right = right.0
      by_goes false right = right

  -- and so is the newest, where it goes there
  newest_right : (format : Format) (settings : Settings) (h : List Item) (item : Item) → AreInTurn h → KeepsCauses part h → goes_into part k h item ≡ true
      → AllRight format settings (items_in part k (item ∷ h)) → IsRight format settings h item
  newest_right format settings h item turn joined goes right =
      let there_right : AllRight format settings (item ∷ items_in part k h) = subst (λ (b : Bool). AllRight format settings (cond b (item ∷ items_in part k h) (items_in part k h))) goes right in
      (right_there format settings h item turn joined goes).0 there_right.1

-- ---- of all parts

target_is : (o : Option Target) → is_some o ≡ true → (target : Target) × (o ≡ Some target)
target_is None some = cc
target_is (Some target) some = (target, refl)

mapped_some : {A B : Type 0} (f : A → B) (o : Option A) → is_some o ≡ true → is_some (option_map f o) ≡ true
mapped_some f None some = some
mapped_some f (Some x) some = refl

-- what is in turn is about a target
about_some : (h : List Item) (item : Item) → IsInTurn h item → is_some (target_about h item) ≡ true
about_some h (ClientRequest number moment request target) turn = refl
about_some h (OriginRequest number moment request target cause) turn = refl
about_some h (OriginResponse number moment response) turn = mapped_some (λ (f : Forward). f.target) (forward_of number h) turn
about_some h (OriginFailure number moment) turn = mapped_some (λ (f : Forward). f.target) (forward_of number h) turn
about_some h (ClientReply number moment reply) turn = mapped_some (λ (x : Exchange). x.target) (exchange_of number h) turn

-- so it goes into one
pub part_of : (part : Target → ℕ) (h : List Item) (item : Item) → IsInTurn h item → (k : ℕ) × (goes_into part k h item ≡ true)
part_of part h item turn =
    let about = target_is (target_about h item) (about_some h item turn) in
    (part about.0, ap (is_of_part part (part about.0)) about.1 ∙ eq-eqb (part about.0) (part about.0) refl)

pub all_here : (part : Target → ℕ) (format : Format) (settings : Settings) (h : List Item) → KeepsTargets part → AreInTurn h → KeepsCauses part h
    → ((k : ℕ) → AllRight format settings (items_in part k h)) → AllRight format settings h
all_here part format settings [] keeps turn joined right = tt
all_here part format settings (item ∷ h) keeps turn joined right =
    let k = part_of part h item turn.1 in (
      all_here part format settings h keeps turn.0 joined.0 (λ n. all_before part n keeps format settings h item (right n)),
      newest_right part k.0 keeps format settings h item turn.0 joined.0 k.1 (right k.0),
    )
