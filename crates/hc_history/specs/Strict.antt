-- The strict verdict: which replies are right where an audit allows nothing beside the rules, and why the others are wrong. Nothing of what may be allowed is read here.
use Rattle.std.specs.Prelude.{◌≡◌, ℕ, ◌≤◌, ◌<◌, Bool, true, false, ◌&&◌, ◌⊎◌, List, [], ◌∷◌, take, Option, Some, None}
use Rattle.std.specs.List.{list_all}
use Rattle.hc_head.specs.declared.head.ResponseHead.{ResponseHead}
use Rattle.hc_head.specs.Targets.{same_target}
use Rattle.hc_framing.specs.declared.message.Message.{Message}
use Rattle.hc_status.specs.declared.marks.Mark.{Mark}
use Rattle.hc_status.specs.declared.marks.Mark.TheVariants.{Hit, Forwarded, Both, Unmarked}
use Rattle.hc_transcript.specs.declared.format.Format.{Format}
use Rattle.hc_transcript.specs.Records.{told_in}
use Rattle.hc_transcript.specs.Items.{Item, OriginResponse, ClientReply, Exchange, Forward}
use Rattle.hc_transcript.specs.History.{exchange_of, forward_of, cause_of}
use Rattle.hc_history.specs.declared.among.Among.{Among}
use Rattle.hc_history.specs.declared.among.Among.TheVariants.{Any, InWindow}
use Rattle.hc_history.specs.declared.kept.Kept.{Kept}
use Rattle.hc_history.specs.declared.reasons.Reason.{Reason}
use Rattle.hc_history.specs.declared.reasons.Reason.TheVariants as reason
use Rattle.hc_history.specs.declared.settings.Settings.{Settings}
use Rattle.hc_history.specs.declared.verdicts.Counts.{Counts}
use Rattle.hc_history.specs.Claims.{Claim, claim_of}
use Rattle.hc_history.specs.Counting.{marked, no_counts, one_more}
use Rattle.hc_history.specs.Filters.{strict_filters}
use Rattle.hc_history.specs.Forwarded.{asks_the_same, carries_whole}
use Rattle.hc_history.specs.Marks.{reply_mark}
use Rattle.hc_history.specs.Names.{reason_number}
use Rattle.hc_history.specs.Reused.{collapsed_count, filter_count, forwarded_count, is_looked_at}
use Rattle.hc_history.specs.Right.{allows_unmarked, is_judged_collapsed}
use Rattle.hc_history.specs.States.{state_at}
use Rattle.hc_history.specs.Windows.{may_be_for, some_since}

-- ---- what a reply carries

-- there is one response among those, before the reply, of which the first n strict filters hold
pub record StrictPass (n : ℕ) (among : Among) (claim : Claim) (h : List Item) : Type 0 where
  pub position : ℕ
  pub kept : Kept
  pub is_one : is_looked_at among claim position kept.state ≡ true
  pub is_its_state : state_at position h ≡ Some kept
  pub holds : list_all (λ b. b) (take n (strict_filters claim kept)) ≡ true

-- the first strict filter that leaves nobody
pub record IsFirstFailedStrictly (n : ℕ) (claim : Claim) (h : List Item) : Type 0 where
  pub is_filter : (1 ≤ n) × (n ≤ filter_count)
  pub leaves_nobody : StrictPass n Any claim h → ⊥
  pub earlier : (k : ℕ) → 1 ≤ k → k < n → StrictPass k Any claim h

-- whether a response to an open forward is what the reply carries, whole
abbrev pub answers_whole : Claim → Option Forward → Message ResponseHead → Bool
answers_whole claim None response = false
answers_whole claim (Some forward) response =
    same_target forward.target claim.target
    && (asks_the_same claim forward.request.method && carries_whole claim response.head.status response.body)

-- whether the next item is such a response, to a forward that was made for its exchange, as far as that is told
abbrev pub is_answer : Claim → List Item → Item → Bool
is_answer claim h (OriginResponse number moment response) =
    may_be_for (told_in claim.format (cause_of number h)) claim.exchange && answers_whole claim (forward_of number h) response
is_answer claim h item = false

-- whether one stands in the window
abbrev pub is_answered : Claim → List Item → Bool
is_answered claim h = some_since (is_answer claim) claim.since h

-- ---- right and wrong, by the reply's own mark

-- a reply that went forward is right, where it is judged as collapsed (true) and where it isn't: by a response of its window, or by what the origin answered there,
-- or by a stored response that it carries in its place, which needs no right Age
abbrev pub IsStrictlyForwarded : Bool → Claim → List Item → Type 0
IsStrictlyForwarded true claim h = StrictPass collapsed_count InWindow claim h
IsStrictlyForwarded false claim h = (is_answered claim h ≡ true) ⊎ StrictPass forwarded_count Any claim h

-- the reason of one that isn't
abbrev pub reason_forwarded : Bool → Reason
reason_forwarded true = reason.NotCollapsible
reason_forwarded false = reason.NotForwarded

-- a reply with that mark is right
abbrev pub IsStrictlyRightBy : Mark → Claim → List Item → Type 0
IsStrictlyRightBy (Hit ttl) claim h = StrictPass filter_count Any claim h
IsStrictlyRightBy (Forwarded collapsed) claim h = IsStrictlyForwarded (is_judged_collapsed claim.format collapsed) claim h
IsStrictlyRightBy Both claim h = ⊥
IsStrictlyRightBy Unmarked claim h = allows_unmarked claim.settings.unmarked claim.reply.head.status ≡ true

-- a reply with that mark is wrong by that reason
abbrev pub IsStrictlyWrongBy : Mark → Claim → List Item → Reason → Type 0
IsStrictlyWrongBy (Hit ttl) claim h why = IsFirstFailedStrictly (reason_number why) claim h
IsStrictlyWrongBy (Forwarded collapsed) claim h why =
    (why ≡ reason_forwarded (is_judged_collapsed claim.format collapsed)) × ¬ (IsStrictlyForwarded (is_judged_collapsed claim.format collapsed) claim h)
IsStrictlyWrongBy Both claim h why = why ≡ reason.BothMarks
IsStrictlyWrongBy Unmarked claim h why = (why ≡ reason.Unmarked) × (allows_unmarked claim.settings.unmarked claim.reply.head.status ≡ false)

module _ (format : Format) (settings : Settings) where
  -- the same of a reply to the exchange that it answers
  abbrev pub IsStrictlyRightTo : Option Exchange → ℕ → Message ResponseHead → List Item → Type 0
  IsStrictlyRightTo None moment reply h = ⊥
  IsStrictlyRightTo (Some exchange) moment reply h = IsStrictlyRightBy (reply_mark reply) (claim_of format settings exchange moment reply h) h

  abbrev pub IsStrictlyWrongTo : Option Exchange → ℕ → Message ResponseHead → List Item → Reason → Type 0
  IsStrictlyWrongTo None moment reply h why = ⊥
  IsStrictlyWrongTo (Some exchange) moment reply h why = IsStrictlyWrongBy (reply_mark reply) (claim_of format settings exchange moment reply h) h why

  -- the next item, if it is a reply, is right
  abbrev pub IsStrictlyRight : List Item → Item → Type 0
  IsStrictlyRight h (ClientReply number moment reply) = IsStrictlyRightTo (exchange_of number h) moment reply h
  IsStrictlyRight h item = Unit {0}

  -- the next item is a reply, and wrong by that reason
  abbrev pub IsStrictlyWrong : List Item → Item → Reason → Type 0
  IsStrictlyWrong h (ClientReply number moment reply) why = IsStrictlyWrongTo (exchange_of number h) moment reply h why
  IsStrictlyWrong h item why = ⊥

-- what an item says of itself, if it is a reply
abbrev pub own_mark : Item → Option Mark
own_mark (ClientReply number moment reply) = Some (reply_mark reply)
own_mark item = None

-- what is counted in a history, by what the replies say of themselves
abbrev pub strict_counts : List Item → Counts
strict_counts [] = no_counts
strict_counts (item ∷ h) = marked (own_mark item) (one_more (strict_counts h))
