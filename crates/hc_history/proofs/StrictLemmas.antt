-- With nothing allowed, right and wrong are what they strictly are.
use Rattle.std.proofs.Common.{◌≡◌, ◌↔◌, ℕ, Bool, true, false, ◌&&◌, ◌||◌, nat_lt, List, [], ◌∷◌, take, Option, Some, None, refl, sym, ap, subst, ◌∙◌, inl, inr}
use Rattle.std.specs.List.{list_all}
use Rattle.hc_head.specs.declared.head.ResponseHead.{ResponseHead}
use Rattle.hc_head.specs.Targets.{same_target}
use Rattle.hc_framing.specs.declared.message.Message.{Message}
use Rattle.hc_status.specs.declared.marks.Mark.{Mark}
use Rattle.hc_status.specs.declared.marks.Mark.TheVariants.{Hit, Forwarded, Both, Unmarked}
use Rattle.hc_transcript.specs.declared.fault.RecordFault.{RecordFault}
use Rattle.hc_transcript.specs.declared.format.Format.{Format}
use Rattle.hc_transcript.specs.Records.{told_in}
use Rattle.hc_transcript.specs.Items.{Item, OriginResponse, ClientReply, Exchange, Forward}
use Rattle.hc_transcript.specs.History.{cause_of, exchange_of, forward_of, next_position}
use Rattle.hc_history.specs.declared.allowed.Allowed.{Allowed}
use Rattle.hc_history.specs.declared.among.Among.{Among}
use Rattle.hc_history.specs.declared.among.Among.TheVariants.{Any, InWindow}
use Rattle.hc_history.specs.declared.reasons.Reason.{Reason}
use Rattle.hc_history.specs.declared.settings.Settings.{Settings}
use Rattle.hc_history.specs.declared.verdicts.Counts.{Counts}
use Rattle.hc_history.specs.declared.verdicts.Verdict.{Verdict}
use Rattle.hc_history.specs.declared.verdicts.Verdict.TheVariants.{Yes, No, Malformed}
use Rattle.hc_history.specs.Allowed.{nothing_allowed, nothing_but_marks}
use Rattle.hc_history.specs.Claims.{Claim, claim_of}
use Rattle.hc_history.specs.Counting.{counts_of, marked, one_more}
use Rattle.hc_history.specs.Forwarded.{carries_response, is_carried, is_forwarded}
use Rattle.hc_history.specs.Marks.{item_mark, mark_to, reply_mark}
use Rattle.hc_history.specs.Reused.{IsFirstFailed, Pass}
use Rattle.hc_history.specs.Right.{AllRight, CarriesStored, IsRight, IsRightBy, IsRightForwarded, IsRightTo, IsWrong, IsWrongBy, IsWrongForwarded, IsWrongTo, is_judged_collapsed}
use Rattle.hc_history.specs.Strict.{IsFirstFailedStrictly, IsStrictlyForwarded, IsStrictlyRight, IsStrictlyRightBy, IsStrictlyRightTo, IsStrictlyWrong, IsStrictlyWrongBy, IsStrictlyWrongTo, StrictPass, answers_whole, is_answer, is_answered, own_mark, reason_forwarded, strict_counts}
use Rattle.hc_history.specs.StrictVerdicts.{AllStrictlyRight, IsAllStrictlyRight, IsStrictVerdict, IsStrictlyMalformedAt, IsStrictlyWrongAt}
use Rattle.hc_history.specs.Verdicts.{IsAllRight, IsMalformedAt, IsVerdict, IsWrongAt}
use Rattle.hc_history.specs.Windows.{has_forward, may_be_for, some_since}
use Rattle.hc_history.proofs.AllowedLemmas.{carried_strictly, marked_strictly, strict_alike}

-- ---- of tests

some_alike : (f g : List Item → Item → Bool) → ((h : List Item) (item : Item) → f h item ≡ g h item) → (since : ℕ) (h : List Item) → some_since f since h ≡ some_since g since h
some_alike f g alike since [] = refl
some_alike f g alike since (item ∷ h) = λ i. (nat_lt since (next_position h) && alike h item i) || some_alike f g alike since h i

none_but_false : (b : Bool) → ¬ (b ≡ true) → b ≡ false
none_but_false true none = absurd (none refl)
none_but_false false none = refl

-- ---- of one claim

module _ (claim : Claim) (inferred : Bool) (none : claim.settings.allowed ≡ nothing_but_marks inferred) where
  strictly : (n : ℕ) (among : Among) (h : List Item) → Pass n among claim h → StrictPass n among claim h
  strictly n among h pass = record {
    position = pass.position;
    kept = pass.kept;
    is_one = pass.is_one;
    is_its_state = pass.is_its_state;
    holds = subst (λ (tests : List Bool). list_all (λ b. b) (take n tests) ≡ true) (strict_alike claim inferred none pass.kept) pass.holds;
  }

  loosely : (n : ℕ) (among : Among) (h : List Item) → StrictPass n among claim h → Pass n among claim h
  loosely n among h pass = record {
    position = pass.position;
    kept = pass.kept;
    is_one = pass.is_one;
    is_its_state = pass.is_its_state;
    holds = subst (λ (tests : List Bool). list_all (λ b. b) (take n tests) ≡ true) (sym (strict_alike claim inferred none pass.kept)) pass.holds;
  }

  fails_strictly : (n : ℕ) (h : List Item) → IsFirstFailed n claim h → IsFirstFailedStrictly n claim h
  fails_strictly n h fails = record {
    is_filter = fails.is_filter;
    leaves_nobody = λ pass. fails.leaves_nobody (loosely n Any h pass);
    earlier = λ k one lt. strictly k Any h (fails.earlier k one lt);
  }

  fails_loosely : (n : ℕ) (h : List Item) → IsFirstFailedStrictly n claim h → IsFirstFailed n claim h
  fails_loosely n h fails = record {
    is_filter = fails.is_filter;
    leaves_nobody = λ pass. fails.leaves_nobody (strictly n Any h pass);
    earlier = λ k one lt. loosely k Any h (fails.earlier k one lt);
  }

  same_response : (forward : Option Forward) (response : Message ResponseHead) → carries_response claim forward response ≡ answers_whole claim forward response
  same_response None response = refl
  same_response (Some forward) response =
      ap (λ (b : Bool). same_target forward.target claim.target && b) (carried_strictly claim inferred none forward.request.method response.head.status response.body)

  same_answer : (h : List Item) (item : Item) → is_carried claim h item ≡ is_answer claim h item
  same_answer h (OriginResponse number moment response) =
      ap (λ (b : Bool). may_be_for (told_in claim.format (cause_of number h)) claim.exchange && b) (same_response (forward_of number h) response)
  same_answer h item = refl

  pub answered_strictly : (h : List Item) → is_forwarded claim h ≡ is_answered claim h
  answered_strictly h = some_alike (is_carried claim) (is_answer claim) same_answer claim.since h

  module _ (told : claim.is_inferred ≡ false) where
    forwarded_strictly : (judged : Bool) (h : List Item) → IsRightForwarded judged claim h → IsStrictlyForwarded judged claim h
    forwarded_strictly true h right = strictly 8 InWindow h right
    forwarded_strictly false h (inl carried) = inl (sym (answered_strictly h) ∙ carried)
    forwarded_strictly false h (inr stored) = inr (strictly 7 Any h (subst (λ (b : Bool). CarriesStored b claim h) told stored))

    forwarded_loosely : (judged : Bool) (h : List Item) → IsStrictlyForwarded judged claim h → IsRightForwarded judged claim h
    forwarded_loosely true h right = loosely 8 InWindow h right
    forwarded_loosely false h (inl answered) = inl (answered_strictly h ∙ answered)
    forwarded_loosely false h (inr pass) = inr (subst (λ (b : Bool). CarriesStored b claim h) (sym told) (loosely 7 Any h pass))

    right_strictly : (mark : Mark) (h : List Item) → IsRightBy mark claim h → IsStrictlyRightBy mark claim h
    right_strictly (Hit ttl) h right = strictly 9 Any h right
    right_strictly (Forwarded collapsed) h right = forwarded_strictly (is_judged_collapsed claim.format collapsed) h right
    right_strictly Both h right = right
    right_strictly Unmarked h right = right

    right_loosely : (mark : Mark) (h : List Item) → IsStrictlyRightBy mark claim h → IsRightBy mark claim h
    right_loosely (Hit ttl) h right = loosely 9 Any h right
    right_loosely (Forwarded collapsed) h right = forwarded_loosely (is_judged_collapsed claim.format collapsed) h right
    right_loosely Both h right = right
    right_loosely Unmarked h right = right

    not_forwarded : (h : List Item) → is_forwarded claim h ≡ false → ¬ (CarriesStored claim.is_inferred claim h) → IsStrictlyForwarded false claim h → ⊥
    not_forwarded h nothing none (inl answered) = let no : false ≡ true = sym nothing ∙ answered_strictly h ∙ answered in cc
    not_forwarded h nothing none (inr pass) = none (subst (λ (b : Bool). CarriesStored b claim h) (sym told) (loosely 7 Any h pass))

    unforwarded_strictly : (judged : Bool) (h : List Item) (why : Reason) → IsWrongForwarded judged claim h why
        → (why ≡ reason_forwarded judged) × ¬ (IsStrictlyForwarded judged claim h)
    unforwarded_strictly true h why wrong = (wrong.0, λ right. wrong.1 (forwarded_loosely true h right))
    unforwarded_strictly false h why wrong = (wrong.0, not_forwarded h wrong.1.0 wrong.1.1)

    unforwarded_loosely : (judged : Bool) (h : List Item) (why : Reason) → (why ≡ reason_forwarded judged) × ¬ (IsStrictlyForwarded judged claim h)
        → IsWrongForwarded judged claim h why
    unforwarded_loosely true h why wrong = (wrong.0, λ right. wrong.1 (forwarded_strictly true h right))
    unforwarded_loosely false h why wrong = (
      wrong.0,
      (
        answered_strictly h ∙ none_but_false (is_answered claim h) (λ answered. wrong.1 (inl answered)),
        λ stored. wrong.1 (inr (strictly 7 Any h (subst (λ (b : Bool). CarriesStored b claim h) told stored))),
      ),
    )

    wrong_strictly : (mark : Mark) (h : List Item) (why : Reason) → IsWrongBy mark claim h why → IsStrictlyWrongBy mark claim h why
    wrong_strictly (Hit ttl) h why wrong = fails_strictly _ h wrong
    wrong_strictly (Forwarded collapsed) h why wrong = unforwarded_strictly (is_judged_collapsed claim.format collapsed) h why wrong
    wrong_strictly Both h why wrong = wrong
    wrong_strictly Unmarked h why wrong = wrong

    wrong_loosely : (mark : Mark) (h : List Item) (why : Reason) → IsStrictlyWrongBy mark claim h why → IsWrongBy mark claim h why
    wrong_loosely (Hit ttl) h why wrong = fails_loosely _ h wrong
    wrong_loosely (Forwarded collapsed) h why wrong = unforwarded_loosely (is_judged_collapsed claim.format collapsed) h why wrong
    wrong_loosely Both h why wrong = wrong
    wrong_loosely Unmarked h why wrong = wrong

-- ---- of a history

module _ (format : Format) (settings : Settings) (none : settings.allowed ≡ nothing_allowed) where
  own : (exchange : Exchange) (reply : Message ResponseHead) (h : List Item)
      → ((claim_of format settings exchange 0 reply h).is_inferred ≡ false) × (mark_to format settings (Some exchange) reply h ≡ reply_mark reply)
  own exchange reply h = marked_strictly format settings.allowed (has_forward exchange h) reply (ap (λ (a : Allowed). a.inferred_marks) none)

  right_to : (o : Option Exchange) (moment : ℕ) (reply : Message ResponseHead) (h : List Item)
      → IsRightTo format settings o moment reply h ↔ IsStrictlyRightTo format settings o moment reply h
  right_to None moment reply h = (λ right. right, λ right. right)
  right_to (Some exchange) moment reply h =
      let claim = claim_of format settings exchange moment reply h in
      let its = own exchange reply h in (
        λ right. right_strictly claim false none its.0 (reply_mark reply) h (subst (λ (m : Mark). IsRightBy m claim h) its.1 right),
        λ right. subst (λ (m : Mark). IsRightBy m claim h) (sym its.1) (right_loosely claim false none its.0 (reply_mark reply) h right),
      )

  wrong_to : (o : Option Exchange) (moment : ℕ) (reply : Message ResponseHead) (h : List Item) (why : Reason)
      → IsWrongTo format settings o moment reply h why ↔ IsStrictlyWrongTo format settings o moment reply h why
  wrong_to None moment reply h why = (λ wrong. wrong, λ wrong. wrong)
  wrong_to (Some exchange) moment reply h why =
      let claim = claim_of format settings exchange moment reply h in
      let its = own exchange reply h in (
        λ wrong. wrong_strictly claim false none its.0 (reply_mark reply) h why (subst (λ (m : Mark). IsWrongBy m claim h why) its.1 wrong),
        λ wrong. subst (λ (m : Mark). IsWrongBy m claim h why) (sym its.1) (wrong_loosely claim false none its.0 (reply_mark reply) h why wrong),
      )

  pub rightly : (h : List Item) (item : Item) → IsRight format settings h item ↔ IsStrictlyRight format settings h item
  rightly h (ClientReply number moment reply) = right_to (exchange_of number h) moment reply h
  rightly h item = (λ right. right, λ right. right)

  pub wrongly : (h : List Item) (item : Item) (why : Reason) → IsWrong format settings h item why ↔ IsStrictlyWrong format settings h item why
  wrongly h (ClientReply number moment reply) why = wrong_to (exchange_of number h) moment reply h why
  wrongly h item why = (λ wrong. wrong, λ wrong. wrong)

  mark_of_one : (o : Option Exchange) (reply : Message ResponseHead) (h : List Item) → mark_to format settings o reply h ≡ reply_mark reply
  mark_of_one None reply h = refl
  mark_of_one (Some exchange) reply h = (own exchange reply h).1

  same_mark : (h : List Item) (item : Item) → item_mark format settings h item ≡ own_mark item
  same_mark h (ClientReply number moment reply) = ap Some (mark_of_one (exchange_of number h) reply h)
  same_mark h item = refl

  pub counted : (h : List Item) → counts_of format settings h ≡ strict_counts h
  counted [] = refl
  counted (item ∷ h) = λ i. marked (same_mark h item i) (one_more (counted h i))

  -- ---- the verdict

  all_strictly : (h : List Item) → AllRight format settings h → AllStrictlyRight format settings h
  all_strictly [] all = all
  all_strictly (item ∷ h) all = (all_strictly h all.0, (rightly h item).0 all.1)

  all_loosely : (h : List Item) → AllStrictlyRight format settings h → AllRight format settings h
  all_loosely [] all = all
  all_loosely (item ∷ h) all = (all_loosely h all.0, (rightly h item).1 all.1)

module _ (octets : List ℕ) (settings : Settings) (none : settings.allowed ≡ nothing_allowed) where
  yes_strictly : (counts : Counts) → IsAllRight octets settings counts → IsAllStrictlyRight octets settings counts
  yes_strictly counts found = record {
    format = found.format;
    records = found.records;
    history = found.history;
    is_transcript = found.is_transcript;
    all_right = all_strictly found.format settings none found.history found.all_right;
    counts_are = found.counts_are ∙ counted found.format settings none found.history;
  }

  yes_loosely : (counts : Counts) → IsAllStrictlyRight octets settings counts → IsAllRight octets settings counts
  yes_loosely counts found = record {
    format = found.format;
    records = found.records;
    history = found.history;
    is_transcript = found.is_transcript;
    all_right = all_loosely found.format settings none found.history found.all_right;
    counts_are = found.counts_are ∙ sym (counted found.format settings none found.history);
  }

  no_strictly : (position : ℕ) (why : Reason) → IsWrongAt octets settings position why → IsStrictlyWrongAt octets settings position why
  no_strictly position why found = record {
    format = found.format;
    records = found.records;
    history = found.history;
    item = found.item;
    rest = found.rest;
    splits = found.splits;
    all_right = all_strictly found.format settings none found.history found.all_right;
    is_wrong = (wrongly found.format settings none found.history found.item why).0 found.is_wrong;
    position_is = found.position_is;
  }

  no_loosely : (position : ℕ) (why : Reason) → IsStrictlyWrongAt octets settings position why → IsWrongAt octets settings position why
  no_loosely position why found = record {
    format = found.format;
    records = found.records;
    history = found.history;
    item = found.item;
    rest = found.rest;
    splits = found.splits;
    all_right = all_loosely found.format settings none found.history found.all_right;
    is_wrong = (wrongly found.format settings none found.history found.item why).1 found.is_wrong;
    position_is = found.position_is;
  }

  broken_strictly : (position : ℕ) (broken : RecordFault) → IsMalformedAt octets settings position broken
      → IsStrictlyMalformedAt octets settings position broken
  broken_strictly position broken at = record {
    format = at.format;
    history = at.history;
    all_right = all_strictly at.format settings none at.history at.all_right;
    breaks = at.breaks;
    position_is = at.position_is;
  }

  broken_loosely : (position : ℕ) (broken : RecordFault) → IsStrictlyMalformedAt octets settings position broken
      → IsMalformedAt octets settings position broken
  broken_loosely position broken at = record {
    format = at.format;
    history = at.history;
    all_right = all_loosely at.format settings none at.history at.all_right;
    breaks = at.breaks;
    position_is = at.position_is;
  }

  malformed_strictly : (position : ℕ) (broken : RecordFault) → IsVerdict octets settings (Malformed position broken)
      → IsStrictVerdict octets settings (Malformed position broken)
  malformed_strictly position broken (inl opening) = inl opening
  malformed_strictly position broken (inr at) = inr (broken_strictly position broken at)

  malformed_loosely : (position : ℕ) (broken : RecordFault) → IsStrictVerdict octets settings (Malformed position broken)
      → IsVerdict octets settings (Malformed position broken)
  malformed_loosely position broken (inl opening) = inl opening
  malformed_loosely position broken (inr at) = inr (broken_loosely position broken at)

  pub verdict_strictly : (verdict : Verdict) → IsVerdict octets settings verdict ↔ IsStrictVerdict octets settings verdict
  verdict_strictly (Yes counts) = (yes_strictly counts, yes_loosely counts)
  verdict_strictly (No position why) = (no_strictly position why, no_loosely position why)
  verdict_strictly (Malformed position broken) = (malformed_strictly position broken, malformed_loosely position broken)
