-- A history whose replies are right is right, too, where no causes are told.
use Rattle.std.proofs.Common.{◌≡◌, ℕ, ◌+◌, Bool, true, false, ◌&&◌, ◌||◌, List, [], ◌∷◌, length, map, take, Option, Some, None, refl, sym, ap, subst, ◌∙◌, arith, inl, inr, ⊎_elim}
use Rattle.std.specs.Prelude.{◌==◌, ◌⊎◌, nat_lt, if◌then◌else◌}
use Rattle.std.specs.List.{list_all}
use Rattle.std.specs.Option.{option_map}
use Rattle.std.proofs.lemmas.Bool.{and_from, and_parts, or_left, or_right}
use Rattle.hc_head.specs.declared.head.ResponseHead.{ResponseHead}
use Rattle.hc_head.specs.declared.head.Target.{Target}
use Rattle.hc_head.specs.Statuses.{is_error_status}
use Rattle.hc_framing.specs.declared.message.Message.{Message}
use Rattle.hc_status.specs.declared.marks.Mark.{Mark}
use Rattle.hc_status.specs.declared.marks.Mark.TheVariants.{Hit, Forwarded, Both, Unmarked}
use Rattle.hc_transcript.specs.declared.format.Format.{Format}
use Rattle.hc_transcript.specs.declared.format.Format.TheVariants as form
use Rattle.hc_transcript.specs.Items.{Item, ClientRequest, OriginRequest, OriginResponse, OriginFailure, ClientReply, Exchange, Forward}
use Rattle.hc_transcript.specs.History.{exchange_of}
use Rattle.hc_transcript.specs.Transcript.{IsTranscript}
use Rattle.hc_transcript.specs.Converting.{without_cause, item_without_cause, converted, IsConverted}
use Rattle.hc_transcript.proofs.ConvertLemmas.{same_length, same_exchange, same_forward, converted_transcript}
use Rattle.hc_transcript.proofs.OnceLemmas.{one, same_format}
use Rattle.hc_history.specs.declared.kept.Kept.{Kept}
use Rattle.hc_history.specs.declared.settings.Settings.{Settings}
use Rattle.hc_history.specs.declared.verdicts.Counts.{Counts}
use Rattle.hc_history.specs.Claims.{Claim, claim_of}
use Rattle.hc_history.specs.Counting.{counts_of, marked, one_more}
use Rattle.hc_history.specs.declared.among.Among.{Among}
use Rattle.hc_history.specs.declared.among.Among.TheVariants.{Any, InWindow, Recent}
use Rattle.hc_history.specs.Allowing.{filters}
use Rattle.hc_history.specs.Forwarded.{is_carried, carries_response}
use Rattle.hc_history.specs.Marks.{infers, mark_to}
use Rattle.hc_history.specs.Reused.{Pass, collapsed_count, filter_count, forwarded_count, is_looked_at}
use Rattle.hc_history.specs.Right.{CarriesStored, IsRightBy, IsRightForwarded, IsRightTo, IsRight, AllRight, is_judged_collapsed}
use Rattle.hc_history.specs.States.{state_begun, begun_to, kept_answered_to, state_after, state_at}
use Rattle.hc_history.specs.Verdicts.{IsAllRight}
use Rattle.hc_history.specs.Windows.{some_since, has_forward, is_forward_of, is_error, is_failure}
use Rattle.hc_history.proofs.AllowedLemmas.{marked_strictly}
use Rattle.hc_history.proofs.FurthestLemmas.{Pass-fewer}

-- one that came in the window is one of any
earlier_anywhere : (n : ℕ) (claim : Claim) (h : List Item) → Pass n InWindow claim h → Pass n Any claim h
earlier_anywhere n claim h p = record {
  position = p.position;
  kept = p.kept;
  is_one = refl;
  is_its_state = p.is_its_state;
  holds = p.holds;
}

-- ---- states and windows

same_begun : (h : List Item) (item : Item) → state_begun (map item_without_cause h) (item_without_cause item) ≡ state_begun h item
same_begun h (ClientRequest n t q g) = refl
same_begun h (OriginRequest n t q g c) = refl
same_begun h (OriginResponse n t r) = ap (λ (o : Option Forward). begun_to o t r) (same_forward n h)
same_begun h (OriginFailure n t) = refl
same_begun h (ClientReply n t r) = refl

same_after : (h : List Item) (item : Item) (kept : Kept) → state_after (map item_without_cause h) (item_without_cause item) kept ≡ state_after h item kept
unfolding state_after
same_after h (ClientRequest n t q g) kept = refl
same_after h (OriginRequest n t q g c) kept = refl
same_after h (OriginResponse n t r) kept = λ i. kept_answered_to (same_forward n h i) (same_length h i + 1) t r kept
same_after h (OriginFailure n t) kept = refl
same_after h (ClientReply n t r) kept = refl

same_state : (position : ℕ) (h : List Item) → state_at position (map item_without_cause h) ≡ state_at position h
same_state position [] = refl
same_state position (item ∷ h) =
    λ i. if position == (same_length h i + 1) then same_begun h item i else option_map (λ (kept : Kept). same_after h item kept i) (same_state position h i)

same_error : (target : Target) (h : List Item) (item : Item) → is_error target (map item_without_cause h) (item_without_cause item) ≡ is_error target h item
same_error target h (ClientRequest n t q g) = refl
same_error target h (OriginRequest n t q g c) = refl
same_error target h (OriginResponse n t r) = ap (λ (o : Option Forward). is_error_status r.head.status && is_forward_of target o) (same_forward n h)
same_error target h (OriginFailure n t) = refl
same_error target h (ClientReply n t r) = refl

same_failure : (target : Target) (h : List Item) (item : Item) → is_failure target (map item_without_cause h) (item_without_cause item) ≡ is_failure target h item
same_failure target h (ClientRequest n t q g) = refl
same_failure target h (OriginRequest n t q g c) = refl
same_failure target h (OriginResponse n t r) = refl
same_failure target h (OriginFailure n t) = ap (is_forward_of target) (same_forward n h)
same_failure target h (ClientReply n t r) = refl

same_since : (test : List Item → Item → Bool) → ((h : List Item) (item : Item) → test (map item_without_cause h) (item_without_cause item) ≡ test h item) → (since : ℕ) (h : List Item)
    → some_since test since (map item_without_cause h) ≡ some_since test since h
same_since test same since [] = refl
same_since test same since (item ∷ h) = λ i. (nat_lt since (same_length h i + 1) && same h item i) || same_since test same since h i

-- ---- replies

-- a claim in the first format
abbrev claim_in : Settings → Exchange → ℕ → Message ResponseHead → List Item → Claim
claim_in settings x moment reply h = claim_of form.First settings x moment reply h

module _ (format : Format) (settings : Settings) (none : settings.allowed.inferred_marks ≡ false) (x : Exchange) (moment : ℕ) (reply : Message ResponseHead) where
  -- no mark is inferred in either
  same_infers : (h g : List Item) → infers format settings.allowed (has_forward x h) reply ≡ infers form.First settings.allowed (has_forward x g) reply
  same_infers h g =
      (marked_strictly format settings.allowed (has_forward x h) reply none).0 ∙ sym (marked_strictly form.First settings.allowed (has_forward x g) reply none).0

  same_mark : (h g : List Item) → mark_to format settings (Some x) reply h ≡ mark_to form.First settings (Some x) reply g
  same_mark h g =
      (marked_strictly format settings.allowed (has_forward x h) reply none).1 ∙ sym (marked_strictly form.First settings.allowed (has_forward x g) reply none).1

  -- the claim where its format is the first one
  abbrev first_claim : List Item → Claim
  first_claim h = record {
    format = form.First;
    exchange = x.number;
    request = x.request;
    target = x.target;
    since = x.position;
    reply = reply;
    moment = moment;
    is_inferred = infers format settings.allowed (has_forward x h) reply;
    ttl = (claim_in settings x moment reply h).ttl;
    has_error = (claim_in settings x moment reply h).has_error;
    has_failure = (claim_in settings x moment reply h).has_failure;
    settings = settings;
  }

  same_claim : (h : List Item) → first_claim h ≡ claim_in settings x moment reply (map item_without_cause h)
  same_claim h = λ i. record {
    format = form.First;
    exchange = x.number;
    request = x.request;
    target = x.target;
    since = x.position;
    reply = reply;
    moment = moment;
    is_inferred = same_infers h (map item_without_cause h) i;
    ttl = (claim_in settings x moment reply h).ttl;
    has_error = sym (same_since (is_error x.target) (same_error x.target) x.position h) i;
    has_failure = sym (same_since (is_failure x.target) (same_failure x.target) x.position h) i;
    settings = settings;
  }

  passes : (n : ℕ) (among : Among) (h : List Item) → Pass n among (claim_of format settings x moment reply h) h
      → Pass n among (claim_in settings x moment reply (map item_without_cause h)) (map item_without_cause h)
  passes n among h p = record {
    position = p.position;
    kept = p.kept;
    is_one = subst (λ (claim : Claim). is_looked_at among claim p.position p.kept.state ≡ true) (same_claim h) (of_first among h p.position p.kept p.is_one);
    is_its_state = same_state p.position h ∙ p.is_its_state;
    holds = subst (λ (claim : Claim). list_all (λ b. b) (take n (filters claim p.kept)) ≡ true) (same_claim h) p.holds;
  }
    where
      of_first : (among : Among) (h : List Item) (position : ℕ) (kept : Kept) → is_looked_at among (claim_of format settings x moment reply h) position kept.state ≡ true
          → is_looked_at among (first_claim h) position kept.state ≡ true
      of_first Any h position kept is = is
      of_first InWindow h position kept is = is
      of_first Recent h position kept is = is

  -- a response that the reply may carry is one where nothing is told of causes
  carried : (h g : List Item) (item : Item) → is_carried (claim_of format settings x moment reply h) g item ≡ true
      → is_carried (claim_in settings x moment reply (map item_without_cause h)) (map item_without_cause g) (item_without_cause item) ≡ true
  carried h g (ClientRequest n t q target) is = is
  carried h g (OriginRequest n t q target c) is = is
  carried h g (OriginResponse n t r) is =
      subst (λ (o : Option Forward). carries_response (claim_in settings x moment reply (map item_without_cause h)) o r ≡ true) (sym (same_forward n g)) (and_parts _ _ is).1
  carried h g (OriginFailure n t) is = is
  carried h g (ClientReply n t r) is = is

  some_carried : (h g : List Item) → some_since (is_carried (claim_of format settings x moment reply h)) x.position g ≡ true
      → some_since (is_carried (claim_in settings x moment reply (map item_without_cause h))) x.position (map item_without_cause g) ≡ true
  some_carried h [] is = is
  some_carried h (item ∷ g) is =
      let before = nat_lt x.position (length g + 1) in
      let first = is_carried (claim_of format settings x moment reply h) g item in
      let behind = nat_lt x.position (length (map item_without_cause g) + 1) in
      let carries = is_carried (claim_in settings x moment reply (map item_without_cause h)) (map item_without_cause g) (item_without_cause item) in
      let rest = some_since (is_carried (claim_in settings x moment reply (map item_without_cause h))) x.position (map item_without_cause g) in
      elim (either (before && first) (some_since (is_carried (claim_of format settings x moment reply h)) x.position g) is) [
        | inl here ↦
            or_left (behind && carries) rest
            (and_from behind carries (ap (λ (n : ℕ). nat_lt x.position (n + 1)) (same_length g) ∙ (and_parts before first here).0)
            (carried h g item (and_parts before first here).1))
        | inr later ↦ or_right (behind && carries) rest (some_carried h g later)
      ]
    where
      either : (a b : Bool) → (a || b) ≡ true → (a ≡ true) ⊎ (b ≡ true)
      either true b is = inl refl
      either false b is = inr is

  stored : (inferred : Bool) (h : List Item) → CarriesStored inferred (claim_of format settings x moment reply h) h
      → CarriesStored inferred (claim_in settings x moment reply (map item_without_cause h)) (map item_without_cause h)
  stored false h is = passes forwarded_count Any h is
  stored true h (inl is) = inl (passes filter_count Any h is)
  stored true h (inr is) = inr (passes forwarded_count Recent h is)

  stored_alike : (h : List Item) → CarriesStored (claim_of format settings x moment reply h).is_inferred (claim_of format settings x moment reply h) h
      → CarriesStored (claim_in settings x moment reply (map item_without_cause h)).is_inferred (claim_in settings x moment reply (map item_without_cause h)) (map item_without_cause h)
  stored_alike h is =
      subst (λ (b : Bool). CarriesStored b (claim_in settings x moment reply (map item_without_cause h)) (map item_without_cause h)) (same_infers h (map item_without_cause h))
      (stored (claim_of format settings x moment reply h).is_inferred h is)

  -- a collapsed one carries an earlier response all the more
  collapsed_stored : (h : List Item) → Pass collapsed_count InWindow (claim_of format settings x moment reply h) h
      → CarriesStored (claim_in settings x moment reply (map item_without_cause h)).is_inferred (claim_in settings x moment reply (map item_without_cause h)) (map item_without_cause h)
  collapsed_stored h is =
      subst (λ (b : Bool). CarriesStored b (claim_in settings x moment reply (map item_without_cause h)) (map item_without_cause h))
      (sym (marked_strictly form.First settings.allowed (has_forward x (map item_without_cause h)) reply none).0)
      (earlier_anywhere forwarded_count _ _ (Pass-fewer forwarded_count collapsed_count _ _ _ (omega arith) (passes collapsed_count InWindow h is)))

  right_forwarded : (collapsed : Bool) (h : List Item) → IsRightForwarded collapsed (claim_of format settings x moment reply h) h
      → IsRightForwarded false (claim_in settings x moment reply (map item_without_cause h)) (map item_without_cause h)
  right_forwarded true h is = inr (collapsed_stored h is)
  right_forwarded false h is = ⊎_elim (λ forwarded. inl (some_carried h h forwarded)) (λ stored. inr (stored_alike h stored)) is

  right_by : (mark : Mark) (h : List Item) → IsRightBy mark (claim_of format settings x moment reply h) h
      → IsRightBy mark (claim_in settings x moment reply (map item_without_cause h)) (map item_without_cause h)
  right_by (Hit ttl) h is = passes filter_count Any h is
  right_by (Forwarded collapsed) h is = right_forwarded (is_judged_collapsed format collapsed) h is
  right_by Both h is = is
  right_by Unmarked h is = is

module _ (format : Format) (settings : Settings) (none : settings.allowed.inferred_marks ≡ false) where
  right_to : (o : Option Exchange) (moment : ℕ) (reply : Message ResponseHead) (h : List Item) → IsRightTo format settings o moment reply h → IsRightTo form.First settings o moment reply (map item_without_cause h)
  right_to None moment reply h is = is
  right_to (Some x) moment reply h is =
      subst (λ (m : Mark). IsRightBy m (claim_in settings x moment reply (map item_without_cause h)) (map item_without_cause h))
      (same_mark format settings none x moment reply h (map item_without_cause h))
      (right_by format settings none x moment reply (mark_to format settings (Some x) reply h) h is)

  right : (h : List Item) (item : Item) → IsRight format settings h item → IsRight form.First settings (map item_without_cause h) (item_without_cause item)
  right h (ClientRequest n t q g) is = tt
  right h (OriginRequest n t q g c) is = tt
  right h (OriginResponse n t r) is = tt
  right h (OriginFailure n t) is = tt
  right h (ClientReply n t r) is =
      subst (λ (o : Option Exchange). IsRightTo form.First settings o t r (map item_without_cause h)) (sym (same_exchange n h)) (right_to (exchange_of n h) t r h is)

  all_right : (h : List Item) → AllRight format settings h → AllRight form.First settings (map item_without_cause h)
  all_right [] are = tt
  all_right (item ∷ h) are = (all_right h are.0, right h item are.1)

  same_mark_to : (o : Option Exchange) (reply : Message ResponseHead) (h : List Item)
      → mark_to form.First settings o reply (map item_without_cause h) ≡ mark_to format settings o reply h
  same_mark_to None reply h = refl
  same_mark_to (Some x) reply h = sym (same_mark format settings none x 0 reply h (map item_without_cause h))

  same_reply_mark : (n : ℕ) (reply : Message ResponseHead) (h : List Item)
      → mark_to form.First settings (exchange_of n (map item_without_cause h)) reply (map item_without_cause h) ≡ mark_to format settings (exchange_of n h) reply h
  same_reply_mark n reply h =
      ap (λ (o : Option Exchange). mark_to form.First settings o reply (map item_without_cause h)) (same_exchange n h) ∙ same_mark_to (exchange_of n h) reply h

  same_counts : (h : List Item) → counts_of form.First settings (map item_without_cause h) ≡ counts_of format settings h
  same_counts [] = refl
  same_counts (ClientRequest n t q g ∷ h) = ap one_more (same_counts h)
  same_counts (OriginRequest n t q g c ∷ h) = ap one_more (same_counts h)
  same_counts (OriginResponse n t r ∷ h) = ap one_more (same_counts h)
  same_counts (OriginFailure n t ∷ h) = ap one_more (same_counts h)
  same_counts (ClientReply n t r ∷ h) = λ i. marked (Some (same_reply_mark n r h i)) (one_more (same_counts h i))

-- ---- the verdict

pub converted_right : (octets text : List ℕ) (settings : Settings) → settings.allowed.inferred_marks ≡ false → (counts : Counts) → IsAllRight octets settings counts → IsConverted octets text → IsAllRight text settings counts
converted_right octets text settings none counts right_before is =
    let other = same_format octets right_before.format is.format right_before.records is.records right_before.history is.history [] [] right_before.is_transcript is.is_transcript in
    let records = (one right_before.format octets right_before.records is.records right_before.history is.history right_before.is_transcript other).0 in
    record {
      format = form.First;
      records = map without_cause right_before.records;
      history = map item_without_cause right_before.history;
      is_transcript = subst (λ (t : List ℕ). IsTranscript form.First t (map without_cause right_before.records) (map item_without_cause right_before.history))
          (sym (is.text_is ∙ ap converted (sym records))) (converted_transcript right_before.format octets right_before.records right_before.history right_before.is_transcript);
      all_right = all_right right_before.format settings none right_before.history right_before.all_right;
      counts_are = right_before.counts_are ∙ sym (same_counts right_before.format settings none right_before.history);
    }
