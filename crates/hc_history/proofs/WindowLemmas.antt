-- A window ends at the present item: some position lies in it exactly when the latest does.
use Rattle.std.proofs.Common.{◌≡◌, ℕ, ◌+◌, ◌≤◌, Bool, true, false, cond, ◌&&◌, ◌||◌, ltb, List, [], ◌∷◌, ◌++◌, length, Option, Some, None, refl, sym, ap, ◌∙◌, arith, inl, inr}
use Rattle.std.specs.List.{list_any}
use Rattle.std.proofs.lemmas.Bool.{cases_Bool, cases_lt, lt-ltb, le-ltb}
use Rattle.hc_head.specs.declared.head.ResponseHead.{ResponseHead}
use Rattle.hc_head.specs.Targets.{same_target}
use Rattle.hc_framing.specs.declared.message.Message.{Message}
use Rattle.hc_transcript.specs.Records.{told_in}
use Rattle.hc_transcript.specs.Items.{Item, OriginResponse, Forward}
use Rattle.hc_transcript.specs.History.{next_position, forward_of, cause_of}
use Rattle.hc_history.specs.Windows.{some_since, latest, may_be_for}
use Rattle.hc_history.specs.Claims.{Claim}
use Rattle.hc_history.specs.Forwarded.{carries, carries_response, is_carried, is_forwarded}
use Rattle.hc_history.specs.Seen.{WindowResponse, response_to, response_in, responses_since}

and_false : (a : Bool) → (a && false) ≡ false
and_false true = refl
and_false false = refl

none_past : (test : List Item → Item → Bool) (since : ℕ) (h : List Item) → length h ≤ since → some_since test since h ≡ false
none_past test since [] le = refl
none_past test since (item ∷ h) le = rw (le-ltb since (length h + 1) (omega arith)) (none_past test since h (omega arith))

pub latest_le : (test : List Item → Item → Bool) (h : List Item) → latest test h ≤ length h
latest_le test [] = omega arith
latest_le test (item ∷ h) = elim (cases_Bool (test h item)) [ inl is ↦ rw is (omega arith) | inr not_it ↦ rw not_it (omega (arith, latest_le test h)) ]

pub some_since-latest : (test : List Item → Item → Bool) (since : ℕ) (h : List Item) → some_since test since h ≡ ltb since (latest test h)
some_since-latest test since [] = sym (le-ltb since 0 (omega arith))
some_since-latest test since (item ∷ h) =
    elim (cases_Bool (test h item)) [
      | inl is ↦ rw is (elim (cases_lt since (next_position h)) [
        | inl lt ↦ rw (lt-ltb since (next_position h) lt) refl
        | inr ge ↦ rw (le-ltb since (next_position h) ge) (none_past test since h (omega arith))
      ])
      | inr not_it ↦ rw (not_it, and_false (ltb since (next_position h))) (some_since-latest test since h)
    ]

-- ---- what the reply carries

abbrev carries_one : Claim → WindowResponse → Bool
carries_one claim one = carries claim one.method one.status one.body

any_append : (claim : Claim) (xs ys : List WindowResponse)
    → list_any (carries_one claim) (xs ++ ys) ≡ (list_any (carries_one claim) xs || list_any (carries_one claim) ys)
any_append claim [] ys = refl
any_append claim (x ∷ xs) ys = go (carries_one claim x) (any_append claim xs ys)
  where
    go : (b : Bool) → list_any (carries_one claim) (xs ++ ys) ≡ (list_any (carries_one claim) xs || list_any (carries_one claim) ys)
        → (b || list_any (carries_one claim) (xs ++ ys)) ≡ ((b || list_any (carries_one claim) xs) || list_any (carries_one claim) ys)
    go true e = refl
    go false e = e

or_false : (a : Bool) → a ≡ (a || false)
or_false true = refl
or_false false = refl

either_first : (a b : Bool) → (a || b) ≡ (b || a)
either_first true true = refl
either_first true false = refl
either_first false b = or_false b

response_carried : (claim : Claim) (forward : Option Forward) (response : Message ResponseHead)
    → carries_response claim forward response ≡ list_any (carries_one claim) (response_to claim.target forward response)
response_carried claim None response = refl
response_carried claim (Some forward) response = go (same_target forward.target claim.target)
  where
    go : (same : Bool) → (same && carries claim forward.request.method response.head.status response.body)
        ≡ list_any (carries_one claim) (cond same (record { method = forward.request.method; status = response.head.status; body = response.body } ∷ []) [])
    go true = or_false (carries claim forward.request.method response.head.status response.body)
    go false = refl

item_carried : (claim : Claim) (h : List Item) (item : Item) → is_carried claim h item ≡ list_any (carries_one claim) (response_in claim.format claim.exchange claim.target h item)
item_carried claim h (OriginResponse number moment response) = go (may_be_for (told_in claim.format (cause_of number h)) claim.exchange)
  where
    go : (may : Bool) → (may && carries_response claim (forward_of number h) response)
        ≡ list_any (carries_one claim) (cond may (response_to claim.target (forward_of number h) response) [])
    go true = response_carried claim (forward_of number h) response
    go false = refl
item_carried claim h item = refl

carried_since : (claim : Claim) (since : ℕ) (h : List Item) → some_since (is_carried claim) since h ≡ list_any (carries_one claim) (responses_since claim.format claim.exchange claim.target since h)
carried_since claim since [] = refl
carried_since claim since (item ∷ h) =
    here (ltb since (next_position h))
    ∙ either_first (list_any (carries_one claim) (cond (ltb since (next_position h)) (response_in claim.format claim.exchange claim.target h item) [])) (some_since (is_carried claim) since h)
    ∙ ap (λ (b : Bool). b || list_any (carries_one claim) (cond (ltb since (next_position h)) (response_in claim.format claim.exchange claim.target h item) [])) (carried_since claim since h)
    ∙ sym (any_append claim (responses_since claim.format claim.exchange claim.target since h) (cond (ltb since (next_position h)) (response_in claim.format claim.exchange claim.target h item) []))
  where
    here : (in_it : Bool) → ((in_it && is_carried claim h item) || some_since (is_carried claim) since h)
        ≡ (list_any (carries_one claim) (cond in_it (response_in claim.format claim.exchange claim.target h item) []) || some_since (is_carried claim) since h)
    here true = ap (λ (b : Bool). b || some_since (is_carried claim) since h) (item_carried claim h item)
    here false = refl

pub carried : (claim : Claim) (h : List Item) → is_forwarded claim h ≡ list_any (carries_one claim) (responses_since claim.format claim.exchange claim.target claim.since h)
carried claim h = carried_since claim claim.since h
