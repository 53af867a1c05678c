-- Replies that are what the origin answered, and those that the cache makes itself, are right.
use Rattle.std.proofs.Common.{◌≡◌, ℕ, ◌+◌, ◌≤◌, Bool, true, false, List, [], ◌∷◌, length, Option, Some, None, refl, sym, ap, subst, arith, inl, inr}
use Rattle.std.specs.Prelude.{◌==◌, if◌then◌else◌}
use Rattle.std.specs.Str.{bytes_eq}
use Rattle.std.proofs.lemmas.Bool.{cases_eq, eq-eqb, ne_eqb, and_from, or_left, le-leb, lt-ltb}
use Rattle.std.proofs.lemmas.Slice.Eq.{bytes_eq-Decides}
use Rattle.hc_head.specs.declared.head.ResponseHead.{ResponseHead}
use Rattle.hc_head.specs.declared.head.Target.{Target}
use Rattle.hc_head.specs.Methods.{is_head}
use Rattle.hc_head.specs.Targets.{same_target}
use Rattle.hc_framing.specs.declared.message.Message.{Message}
use Rattle.hc_status.specs.declared.cache_status.Handling.TheVariants.{Fwd}
use Rattle.hc_status.specs.declared.marks.Mark.{Mark}
use Rattle.hc_status.specs.declared.marks.Mark.TheVariants as mark
use Rattle.hc_replies.specs.Laws.{IsPlainStatus}
use Rattle.hc_replies.proofs.ReplyLemmas.{forwarded_marked, generated_unmarked}
use Rattle.hc_transcript.specs.Items.{Item, ClientRequest, OriginRequest, OriginResponse, OriginFailure, ClientReply, Exchange, Forward}
use Rattle.hc_transcript.specs.Records.{told}
use Rattle.hc_transcript.specs.History.{next_position, exchange_of, forward_of, cause_of}
use Rattle.hc_history.specs.Claims.{Claim, claim_of}
use Rattle.hc_history.specs.Forwarded.{carries_response}
use Rattle.hc_history.specs.Marks.{reply_mark, judged_mark}
use Rattle.hc_history.specs.Right.{IsRight, IsRightTo, IsRightBy}
use Rattle.hc_history.specs.Windows.{may_be_for}
use Rattle.hc_head.proofs.SameTargetLemmas.{same_target_itself}
use Rattle.hc_service.specs.declared.cases.Cause.{Cause}
use Rattle.hc_service.specs.declared.open.OpenForward.{OpenForward}
use Rattle.hc_service.specs.Sending.{recorded_format}
use Rattle.hc_service.specs.Cases.{word_of}
use Rattle.hc_service.specs.Laws.{recorded_forward}
use Rattle.hc_service.specs.Replying.{Wanted, made_reply, passed_reply}
use Rattle.hc_service.specs.Runs.{strict}

-- an exchange stands at one of the positions of the history
pub exchange_place : (e : ℕ) (items : List Item) (x : Exchange) → exchange_of e items ≡ Some x → x.position ≤ length items
exchange_place e [] x is = absurd (cc)
exchange_place e (ClientRequest number moment request target ∷ items) x is =
    elim (cases_eq number e) [
      | inl same ↦
          let there : Some (record { number = number; position = length items + 1; request = request.head; target = target }) ≡ Some x = rw (eq-eqb number e same) at is in
          let at : x.position ≡ length items + 1 = cc in omega arith
      | inr other ↦ let place = exchange_place e items x (rw (ne_eqb number e other) at is) in omega (arith, place)
    ]
exchange_place e (OriginRequest number moment request target cause ∷ items) x is = let place = exchange_place e items x is in omega (arith, place)
exchange_place e (OriginResponse number moment response ∷ items) x is = let place = exchange_place e items x is in omega (arith, place)
exchange_place e (OriginFailure number moment ∷ items) x is = let place = exchange_place e items x is in omega (arith, place)
exchange_place e (ClientReply number moment reply ∷ items) x is =
    elim (cases_eq number e) [
      | inl same ↦ let gone : None ≡ Some x = rw (eq-eqb number e same) at is in absurd (cc)
      | inr other ↦ let place = exchange_place e items x (rw (ne_eqb number e other) at is) in omega (arith, place)
    ]

module _ (items : List Item) (f moment : ℕ) (response : Message ResponseHead) (forward : OpenForward) (x : Exchange) (wanted : Wanted) (why : Cause) (stored : Bool) where
  abbrev the_reply : Message ResponseHead
  the_reply = passed_reply wanted why stored response

  abbrev the_claim : Claim
  the_claim = claim_of recorded_format strict x wanted.moment the_reply (OriginResponse f moment response ∷ items)

  same_body : (head : Bool) → (head ≡ true → response.body ≡ []) → (if head then length response.body == 0 else bytes_eq response.body response.body) ≡ true
  same_body true bare = ap (λ (body : List ℕ). length body == 0) (bare refl)
  same_body false bare = (bytes_eq-Decides response.body response.body).1 refl

  is_its : forward_of f items ≡ Some (recorded_forward forward) → forward.request.method ≡ x.request.method → forward.target ≡ x.target
      → (is_head x.request.method ≡ true → response.body ≡ []) → carries_response the_claim (forward_of f items) response ≡ true
  is_its is_open method target bare =
      subst (λ (o : Option Forward). carries_response the_claim o response ≡ true) (sym is_open)
      (and_from _ _ (subst (λ (t : Target). same_target forward.target t ≡ true) target (same_target_itself forward.target))
      (and_from _ _ (or_left _ _ ((bytes_eq-Decides forward.request.method x.request.method).1 method))
      (or_left _ _ (and_from _ _ (eq-eqb response.head.status response.head.status refl) (same_body (is_head x.request.method) bare)))))

  is_for_it : cause_of f items ≡ Some x.number → may_be_for (told (cause_of f items)) x.number ≡ true
  is_for_it cause = subst (λ (o : Option ℕ). may_be_for (told o) x.number ≡ true) (sym cause) (eq-eqb x.number x.number refl)

  pub passed_right : forward_of f items ≡ Some (recorded_forward forward) → cause_of f items ≡ Some x.number → exchange_of x.number items ≡ Some x → forward.request.method ≡ x.request.method
      → forward.target ≡ x.target → (is_head x.request.method ≡ true → response.body ≡ []) → IsPlainStatus wanted.name (Fwd (word_of why) None stored false)
      → IsRight recorded_format strict (OriginResponse f moment response ∷ items) (ClientReply x.number wanted.moment the_reply)
  passed_right is_open cause awaits method target bare plain =
      let place = exchange_place x.number items x awaits in
      let marked : reply_mark the_reply ≡ mark.Forwarded false =
      ap (judged_mark response.head.status) (forwarded_marked wanted.name (Fwd (word_of why) None stored false) wanted.closes wanted.moment response plain) in
      subst (λ (o : Option Exchange). IsRightTo recorded_format strict o wanted.moment the_reply (OriginResponse f moment response ∷ items)) (sym awaits)
      (subst (λ (m : Mark). IsRightBy m the_claim (OriginResponse f moment response ∷ items)) (sym marked)
      (inl (or_left _ _ (and_from _ _ (lt-ltb x.position (next_position items) (omega (arith, place))) (and_from _ _ (is_for_it cause) (is_its is_open method target bare))))))

-- a reply that says that there is none
pub made_right : (items : List Item) (x : Exchange) (wanted : Wanted) (status : ℕ) → exchange_of x.number items ≡ Some x → 400 ≤ status
    → IsRight recorded_format strict items (ClientReply x.number wanted.moment (made_reply wanted status))
made_right items x wanted status awaits is_error =
    let marked : reply_mark (made_reply wanted status) ≡ mark.Unmarked = ap (judged_mark status) (generated_unmarked status wanted.moment wanted.closes) in
    subst (λ (o : Option Exchange). IsRightTo recorded_format strict o wanted.moment (made_reply wanted status) items) (sym awaits)
    (subst (λ (m : Mark). IsRightBy m (claim_of recorded_format strict x wanted.moment (made_reply wanted status) items) items) (sym marked)
    (le-leb 400 status is_error))
