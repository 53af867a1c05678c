-- A reply is right, or wrong, in its part as it is in the whole.
use Rattle.std.proofs.Common.{◌≡◌, ◌↔◌, ℕ, zero, suc, ◌≤◌, Bool, true, false, not, ◌&&◌, ◌||◌, List, take, Option, Some, None, refl, sym, ap, ◌∙◌, arith, inl, inr}
use Rattle.std.specs.Prelude.{nat_lt}
use Rattle.std.specs.List.{list_all}
use Rattle.std.specs.Option.{option_map}
use Rattle.std.proofs.lemmas.Bool.{cases_Bool, eq-eqb, eqb-true, and_parts}
use Rattle.hc_head.specs.declared.head.ResponseHead.{ResponseHead}
use Rattle.hc_head.specs.declared.head.Target.{Target}
use Rattle.hc_head.specs.Targets.{same_target}
use Rattle.hc_framing.specs.declared.message.Message.{Message}
use Rattle.hc_status.specs.declared.marks.Mark.{Mark}
use Rattle.hc_status.specs.declared.marks.Mark.TheVariants.{Hit, Forwarded, Both, Unmarked}
use Rattle.hc_transcript.specs.Items.{Item, OriginResponse, Forward}
use Rattle.hc_transcript.specs.History.{forward_of, cause_of}
use Rattle.hc_transcript.specs.Records.{told_in}
use Rattle.hc_history.specs.declared.among.Among.{Among}
use Rattle.hc_history.specs.declared.among.Among.TheVariants.{Any, InWindow, Recent}
use Rattle.hc_history.specs.declared.kept.Kept.{Kept}
use Rattle.hc_history.specs.declared.reasons.Reason.{Reason}
use Rattle.hc_history.specs.Allowing.{filters}
use Rattle.hc_history.specs.Claims.{Claim}
use Rattle.hc_history.specs.Filters.{is_asked_for}
use Rattle.hc_history.specs.Forwarded.{carries_response, is_carried, is_forwarded}
use Rattle.hc_history.specs.Names.{reason_number}
use Rattle.hc_history.specs.Reused.{IsFirstFailed, Pass, is_looked_at}
use Rattle.hc_history.specs.Right.{CarriesStored, IsRightBy, IsRightForwarded, IsWrongBy, IsWrongForwarded, is_judged_collapsed}
use Rattle.hc_history.specs.Windows.{may_be_for}
use Rattle.hc_parts.specs.Parts.{goes_into, is_of_part, items_in}
use Rattle.hc_parts.specs.Orderly.{AreInTurn}
use Rattle.hc_parts.proofs.OpenLemmas.{Agrees, KeepsTargets, cause_in, forward_answered, some_in}
use Rattle.hc_parts.proofs.KeptLemmas.{AreAlike, from_part, to_part}

-- a claim whose request stands at another position
abbrev pub moved : Claim → ℕ → Claim
moved claim since = record claim { since = since }

-- ---- one stored response

filters_alike : (claim : Claim) (since : ℕ) (one two : Kept) → AreAlike claim.since since one two → filters (moved claim since) two ≡ filters claim one
filters_alike claim since one two alike =
    let two_is : two ≡ record { target = one.target; state = record one.state { validated_at = two.state.validated_at } } =
    λ i. record { target = alike.target i; state = alike.state.state i } in
    ap (filters (moved claim since)) two_is ∙ rw (alike.state.validated) refl

looked_alike : (among : Among) (claim : Claim) (since position place : ℕ) (one two : Kept) → AreAlike claim.since since one two → nat_lt since place ≡ nat_lt claim.since position
    → is_looked_at among (moved claim since) place two.state ≡ is_looked_at among claim position one.state
looked_alike Any claim since position place one two alike later = refl
looked_alike InWindow claim since position place one two alike later = later
looked_alike Recent claim since position place one two alike later =
    λ i. later i || (not ((alike.state.state i).invalid) && alike.state.validated i)

-- the first filter holds of what passes any
first_holds : (n : ℕ) (claim : Claim) (kept : Kept) → 1 ≤ n → list_all (λ b. b) (take n (filters claim kept)) ≡ true → same_target kept.target claim.target ≡ true
first_holds zero claim kept some holds = absurd (omega (arith, some))
first_holds (suc n) claim kept some holds = (and_parts _ (same_target kept.target claim.target) ((and_parts (is_asked_for claim kept.target) _ holds).0)).1

module _ (part : Target → ℕ) (k : ℕ) (keeps : KeepsTargets part) (claim : Claim) (its : part claim.target ≡ k) (h : List Item) (turn : AreInTurn h)
    (since : ℕ) (agrees : Agrees part k claim.since since h) where
  pass_there : (n : ℕ) (among : Among) → 1 ≤ n → Pass n among claim h → Pass n among (moved claim since) (items_in part k h)
  pass_there n among some pass =
      let goes : part pass.kept.target ≡ k = keeps pass.kept.target claim.target (first_holds n claim pass.kept some pass.holds) ∙ its in
      let there = to_part part k keeps claim.since since h turn agrees pass.position pass.kept pass.is_its_state goes in
      record {
        position = there.place;
        kept = there.there;
        is_one = looked_alike among claim since pass.position there.place pass.kept there.there there.alike there.later ∙ pass.is_one;
        is_its_state = there.is;
        holds = ap (λ (tests : List Bool). list_all (λ b. b) (take n tests)) (filters_alike claim since pass.kept there.there there.alike) ∙ pass.holds;
      }

  pass_here : (n : ℕ) (among : Among) → Pass n among (moved claim since) (items_in part k h) → Pass n among claim h
  pass_here n among pass =
      let here = from_part part k keeps claim.since since h turn agrees pass.position pass.kept pass.is_its_state in
      record {
        position = here.position;
        kept = here.kept;
        is_one = sym (looked_alike among claim since here.position pass.position here.kept pass.kept here.alike here.later) ∙ pass.is_one;
        is_its_state = here.is;
        holds = ap (λ (tests : List Bool). list_all (λ b. b) (take n tests)) (sym (filters_alike claim since here.kept pass.kept here.alike)) ∙ pass.holds;
      }

  fails_there : (n : ℕ) → IsFirstFailed n claim h → IsFirstFailed n (moved claim since) (items_in part k h)
  fails_there n fails = record {
    is_filter = fails.is_filter;
    leaves_nobody = λ pass. fails.leaves_nobody (pass_here n Any pass);
    earlier = λ m some lt. pass_there m Any some (fails.earlier m some lt);
  }

  fails_here : (n : ℕ) → IsFirstFailed n (moved claim since) (items_in part k h) → IsFirstFailed n claim h
  fails_here n fails = record {
    is_filter = fails.is_filter;
    leaves_nobody = λ pass. fails.leaves_nobody (pass_there n Any (fails.is_filter.0) pass);
    earlier = λ m some lt. pass_here m Any (fails.earlier m some lt);
  }

  -- ---- what stands in its window

  carried_to : (o : Option Forward) (response : Message ResponseHead) → is_of_part part k (option_map (λ (f : Forward). f.target) o) ≡ false → carries_response claim o response ≡ false
  carried_to None response apart = refl
  carried_to (Some f) response apart = elim (cases_Bool (same_target f.target claim.target)) [
    | inl same ↦ let never : false ≡ true = sym apart ∙ eq-eqb (part f.target) k (keeps f.target claim.target same ∙ its) in cc
    | inr other ↦ rw other refl
  ]

  and_never : (a : Bool) → (a && false) ≡ false
  and_never true = refl
  and_never false = refl

  carried_there : (g : List Item) (item : Item) → AreInTurn g → goes_into part k g item ≡ true → is_carried claim g item ≡ is_carried claim (items_in part k g) item
  carried_there g (OriginResponse number moment response) fine goes = answered (forward_of number g) refl goes
    where
      answered : (o : Option Forward) → forward_of number g ≡ o → is_of_part part k (option_map (λ (f : Forward). f.target) o) ≡ true
          → (may_be_for (told_in claim.format (cause_of number g)) claim.exchange && carries_response claim (forward_of number g) response)
          ≡ (may_be_for (told_in claim.format (cause_of number (items_in part k g))) claim.exchange && carries_response claim (forward_of number (items_in part k g)) response)
      answered None is none = cc
      answered (Some f) is one =
          let goes_too : is_of_part part k (option_map (λ (f : Forward). f.target) (forward_of number g)) ≡ true = ap (λ (x : Option Forward). is_of_part part k (option_map (λ (f : Forward). f.target) x)) is ∙ one in
          let same = forward_answered part k number g fine goes_too in
          let cause = cause_in part k number g f fine is (eqb-true (part f.target) k one) in
          λ i. may_be_for (told_in claim.format (sym cause i)) claim.exchange && carries_response claim (sym same i) response
  carried_there g item fine goes = refl

  carried_elsewhere : (g : List Item) (item : Item) → AreInTurn g → goes_into part k g item ≡ false → is_carried claim g item ≡ false
  carried_elsewhere g (OriginResponse number moment response) fine apart =
      ap (λ (b : Bool). may_be_for (told_in claim.format (cause_of number g)) claim.exchange && b) (carried_to (forward_of number g) response apart)
      ∙ and_never (may_be_for (told_in claim.format (cause_of number g)) claim.exchange)
  carried_elsewhere g item fine apart = refl

  forwarded_there : is_forwarded claim h ≡ is_forwarded (moved claim since) (items_in part k h)
  forwarded_there = some_in part k (is_carried claim) carried_there carried_elsewhere claim.since since h turn agrees

  -- ---- right and wrong, by a mark

  stored_there : (inferred : Bool) → CarriesStored inferred claim h → CarriesStored inferred (moved claim since) (items_in part k h)
  stored_there false pass = pass_there 7 Any (omega arith) pass
  stored_there true (inl pass) = inl (pass_there 9 Any (omega arith) pass)
  stored_there true (inr pass) = inr (pass_there 7 Recent (omega arith) pass)

  stored_here : (inferred : Bool) → CarriesStored inferred (moved claim since) (items_in part k h) → CarriesStored inferred claim h
  stored_here false pass = pass_here 7 Any pass
  stored_here true (inl pass) = inl (pass_here 9 Any pass)
  stored_here true (inr pass) = inr (pass_here 7 Recent pass)

  right_forwarded : (judged : Bool) → IsRightForwarded judged (moved claim since) (items_in part k h) ↔ IsRightForwarded judged claim h
  right_forwarded true = (λ right. pass_here 8 InWindow right, λ right. pass_there 8 InWindow (omega arith) right)
  right_forwarded false = (
    λ right. elim right [ inl carried ↦ inl (forwarded_there ∙ carried) | inr stored ↦ inr (stored_here claim.is_inferred stored) ],
    λ right. elim right [ inl carried ↦ inl (sym forwarded_there ∙ carried) | inr stored ↦ inr (stored_there claim.is_inferred stored) ],
  )

  wrong_forwarded : (judged : Bool) (why : Reason) → IsWrongForwarded judged (moved claim since) (items_in part k h) why ↔ IsWrongForwarded judged claim h why
  wrong_forwarded true why = (
    λ wrong. (wrong.0, λ right. wrong.1 (pass_there 8 InWindow (omega arith) right)),
    λ wrong. (wrong.0, λ right. wrong.1 (pass_here 8 InWindow right)),
  )
  wrong_forwarded false why = (
    λ wrong. (wrong.0, (forwarded_there ∙ wrong.1.0, λ stored. wrong.1.1 (stored_there claim.is_inferred stored))),
    λ wrong. (wrong.0, (sym forwarded_there ∙ wrong.1.0, λ stored. wrong.1.1 (stored_here claim.is_inferred stored))),
  )

  pub right_by : (mark : Mark) → IsRightBy mark (moved claim since) (items_in part k h) ↔ IsRightBy mark claim h
  right_by (Hit ttl) = (λ right. pass_here 9 Any right, λ right. pass_there 9 Any (omega arith) right)
  right_by (Forwarded collapsed) = right_forwarded (is_judged_collapsed claim.format collapsed)
  right_by Both = (λ right. right, λ right. right)
  right_by Unmarked = (λ right. right, λ right. right)

  pub wrong_by : (mark : Mark) (why : Reason) → IsWrongBy mark (moved claim since) (items_in part k h) why ↔ IsWrongBy mark claim h why
  wrong_by (Hit ttl) why = (λ wrong. fails_here (reason_number why) wrong, λ wrong. fails_there (reason_number why) wrong)
  wrong_by (Forwarded collapsed) why = wrong_forwarded (is_judged_collapsed claim.format collapsed) why
  wrong_by Both why = (λ wrong. wrong, λ wrong. wrong)
  wrong_by Unmarked why = (λ wrong. wrong, λ wrong. wrong)
