-- What an index tells of a reply.
use Rattle.std.proofs.Common.{◌≡◌, ℕ, ◌≤◌, Bool, true, false, ◌&&◌, ◌||◌, cond, List, [], ◌∷◌, ◌++◌, length, max, Option, Some, None, Ok, Err, refl, sym, ap, subst, ◌∙◌, arith, append_assoc, append-nil, inl, inr, ltb, ltb-true, ltb-false}
use Rattle.std.specs.Prelude.{filter, map, nat_le, Result, IfOk}
use Rattle.std.specs.declared.alloc.AllocError.{AllocError}
use Rattle.std.specs.Option.{option_map}
use Rattle.std.proofs.lemmas.Bool.{cases_Bool}
use Rattle.std.proofs.lemmas.Bool.Decides.{nat_tests}
use Rattle.hc_head.specs.declared.head.Target.{Target}
use Rattle.hc_head.specs.Targets.{same_target}
use Rattle.hc_head.specs.declared.head.ResponseHead.{ResponseHead}
use Rattle.hc_framing.specs.declared.message.Message.{Message}
use Rattle.hc_status.specs.declared.marks.Mark.{Mark}
use Rattle.hc_transcript.specs.declared.format.Format.{Format}
use Rattle.hc_transcript.specs.Items.{Item, Exchange}
use Rattle.hc_transcript.specs.History.{exchange_of}
use Rattle.hc_history.specs.declared.settings.Settings.{Settings}
use Rattle.hc_history.specs.declared.verdicts.Finding.{Finding}
use Rattle.hc_history.specs.Marks.{mark_to}
use Rattle.hc_history.specs.Claims.{Claim, claim_of}
use Rattle.hc_history.specs.declared.among.Among.{Among}
use Rattle.hc_history.specs.declared.among.Among.TheVariants.{Any, InWindow, Recent}
use Rattle.hc_history.specs.Allowing.{filters}
use Rattle.hc_history.specs.Furthest.{passed, passed_among, furthest, furthest_live}
use Rattle.hc_history.specs.Reused.{filter_count, is_looked_at}
use Rattle.hc_history.specs.Right.{IsFoundBy, IsFinding}
use Rattle.hc_history.specs.Seen.{Seen, IsSeenAs, Live, live_of, responses_since, window_responses_of}
use Rattle.hc_head.proofs.SameTargetLemmas.{same_target_one}
use Rattle.hc_history.proofs.FurthestLemmas.{passed_few}
use Rattle.hc_history.proofs.LiveLemmas.{passed_other, furthest_is_live, AreBefore, before_later, earlier_are_before}
use Rattle.hc_index.specs.declared.kept.LiveResponse.{LiveResponse}
use Rattle.hc_index.specs.declared.opened.Opened.{Opened}
use Rattle.hc_index.specs.Lists.{live_seen, exchange_seen, ends_at, passed_live, live_in, IsMostOrEnough}
use Rattle.hc_index.specs.Opened.{IsLent, Lends, answers_lent}
use Rattle.hc_index.specs.Windows.{those_for}

-- ---- the most filters that one live response passes

-- the most that one of them passes
abbrev pub most_passed : Among → Claim → List LiveResponse → ℕ
most_passed among claim [] = 0
most_passed among claim (live ∷ lives) = max (passed_live among claim live) (most_passed among claim lives)

few_behind : (among : Among) (claim : Claim) (live : LiveResponse) → passed_live among claim live ≤ filter_count
few_behind among claim live =
    go (is_looked_at among claim live.position live.state) (passed (filters claim (record { target = live.target; state = live.state })))
    (passed_few (filters claim (record { target = live.target; state = live.state })))
  where
    go : (one : Bool) (n : ℕ) → n ≤ filter_count → cond one n 0 ≤ filter_count
    go true n few = few
    go false n few = omega arith

most_few : (among : Among) (claim : Claim) (lives : List LiveResponse) → most_passed among claim lives ≤ filter_count
most_few among claim [] = omega arith
most_few among claim (live ∷ lives) = omega (arith, few_behind among claim live, most_few among claim lives)

-- one of the claim's target passes as many as what is seen of it
passed_seen : (among : Among) (claim : Claim) (live : LiveResponse) → same_target live.target claim.target ≡ true
    → passed_live among claim live ≡ passed_among among claim live.position (Some (record { target = claim.target; state = live.state }))
passed_seen among claim live same =
    ap (λ (t : Target). passed_among among claim live.position (Some (record { target = t; state = live.state })))
    (same_target_one live.target claim.target same)

-- one of another target passes none
none_passed : (among : Among) (claim : Claim) (live : LiveResponse) → same_target live.target claim.target ≡ false → passed_live among claim live ≡ 0
none_passed among claim live other =
    go (is_looked_at among claim live.position live.state) (passed (filters claim (record { target = live.target; state = live.state })))
    (passed_other claim (record { target = live.target; state = live.state }) other)
  where
    go : (one : Bool) (n : ℕ) → n ≡ 0 → cond one n 0 ≡ 0
    go true n none = none
    go false n none = refl

most_zero : (n : ℕ) → max 0 n ≡ n
most_zero n = omega arith

others_of : Claim → List LiveResponse → List LiveResponse
others_of claim lives = filter (λ live. same_target live.target claim.target) lives

one_more : (among : Among) (claim : Claim) (live : LiveResponse) (lives : List LiveResponse) (same : Bool) → same_target live.target claim.target ≡ same
    → most_passed among claim lives ≡ furthest_live among claim (live_in claim.target lives)
    → most_passed among claim (live ∷ lives) ≡ furthest_live among claim (map live_seen (cond same (live ∷ others_of claim lives) (others_of claim lives)))
unfolding others_of
one_more among claim live lives true is rest =
    ap (λ (n : ℕ). max n (most_passed among claim lives)) (passed_seen among claim live is)
    ∙ ap (max (passed_among among claim live.position (Some (record { target = claim.target; state = live.state })))) rest
one_more among claim live lives false is rest =
    ap (λ (n : ℕ). max n (most_passed among claim lives)) (none_passed among claim live is)
    ∙ most_zero (most_passed among claim lives)
    ∙ rest

most_is_live : (among : Among) (claim : Claim) (lives : List LiveResponse) → most_passed among claim lives ≡ furthest_live among claim (live_in claim.target lives)
unfolding others_of
most_is_live among claim [] = refl
most_is_live among claim (live ∷ lives) = one_more among claim live lives (same_target live.target claim.target) refl (most_is_live among claim lives)

pub most_is_furthest : (among : Among) (claim : Claim) (lives : List LiveResponse) (h : List Item) → live_in claim.target lives ≡ live_of claim.target h
    → most_passed among claim lives ≡ furthest among claim h
most_is_furthest among claim lives h are =
    most_is_live among claim lives
    ∙ ap (furthest_live among claim) are
    ∙ furthest_is_live among claim h

most_append : (among : Among) (claim : Claim) (xs ys : List LiveResponse) → most_passed among claim (xs ++ ys) ≡ max (most_passed among claim xs) (most_passed among claim ys)
most_append among claim [] ys = omega arith
most_append among claim (x ∷ xs) ys = omega (arith, most_append among claim xs ys)

most_last : (among : Among) (claim : Claim) (earlier : List LiveResponse) (live : LiveResponse)
    → most_passed among claim (earlier ++ live ∷ []) ≡ max (most_passed among claim earlier) (passed_live among claim live)
most_last among claim earlier live = omega (arith, most_append among claim earlier (live ∷ []))

-- ---- from the newest on

-- the test by which a response of the target, and with it all older ones, is passed over
abbrev pub is_before : Among → Claim → LiveResponse → Bool
is_before among claim live = ends_at among && nat_le live.position claim.since && same_target live.target claim.target

-- of those of the target that are no later than the request, none came in the window
none_before : (claim : Claim) (lives : List LiveResponse) → AreBefore claim.since (live_in claim.target lives) → most_passed InWindow claim lives ≡ 0
unfolding others_of
none_before claim [] before = refl
none_before claim (live ∷ lives) before = go (same_target live.target claim.target) refl before (λ rest. none_before claim lives rest)
  where
    not_later : (n m : ℕ) → m ≤ n → ltb n m ≡ false
    not_later n m few = grind (arith, nat_tests)

    go : (same : Bool) → same_target live.target claim.target ≡ same
        → AreBefore claim.since (map live_seen (cond same (live ∷ others_of claim lives) (others_of claim lives)))
        → (AreBefore claim.since (live_in claim.target lives) → most_passed InWindow claim lives ≡ 0)
        → max (passed_live InWindow claim live) (most_passed InWindow claim lives) ≡ 0
    go true is before rest =
        let none : passed_live InWindow claim live ≡ 0 =
        ap (λ (b : Bool). cond b (passed (filters claim (record { target = live.target; state = live.state }))) 0) (not_later claim.since live.position before.0) in
        omega (arith, none, rest before.1)
    go false is before rest = omega (arith, none_passed InWindow claim live is, rest before)

-- the most so far and the most of what is left, of all those that are looked at; and what is left begins them
abbrev pub IsMost : Among → Claim → List LiveResponse → ℕ → List LiveResponse → Type 0
IsMost among claim lives most left = (max most (most_passed among claim left) ≡ most_passed among claim lives) × (more : List LiveResponse) × (lives ≡ left ++ more)

pub most_at_first : (among : Among) (claim : Claim) (lives left : List LiveResponse) → left ≡ lives → IsMost among claim lives 0 left
most_at_first among claim lives left is = (omega (arith, ap (most_passed among claim) is), [], sym is ∙ sym (append-nil left))

begins : (lives left earlier more : List LiveResponse) (live : LiveResponse) → left ≡ earlier ++ live ∷ [] → lives ≡ left ++ more → lives ≡ earlier ++ live ∷ more
begins lives left earlier more live last are = are ∙ ap (λ (xs : List LiveResponse). xs ++ more) last ∙ append_assoc earlier (live ∷ []) more

pub most_goes_on : (among : Among) (claim : Claim) (lives left earlier : List LiveResponse) (most here more : ℕ) (live : LiveResponse) → IsMost among claim lives most left
    → left ≡ earlier ++ live ∷ [] → here ≡ passed_live among claim live → more ≡ max most here → IsMost among claim lives more earlier
most_goes_on among claim lives left earlier most here more live so_far last is greater = (
  omega (arith, so_far.0, ap (most_passed among claim) last, most_last among claim earlier live, is, greater),
  live ∷ so_far.1,
  begins lives left earlier so_far.1 live last so_far.2,
)

-- where one passes enough, the most are no less
pub enough_is_found : (among : Among) (claim : Claim) (lives left earlier : List LiveResponse) (most here enough : ℕ) (live : LiveResponse) (h : List Item)
    → IsMost among claim lives most left → left ≡ earlier ++ live ∷ [] → here ≡ passed_live among claim live → enough ≤ here
    → live_in claim.target lives ≡ live_of claim.target h → IsMostOrEnough enough here (furthest among claim h)
enough_is_found among claim lives left earlier most here enough live h so_far last is full are = record {
  at_most = omega (
    arith,
    so_far.0,
    ap (most_passed among claim) last,
    most_last among claim earlier live,
    is,
    most_is_furthest among claim lives h are,
  );
  less_is_most = λ less. absurd (omega (arith, less, full));
}

most_is_enough : (most enough all : ℕ) → most ≡ all → IsMostOrEnough enough most all
most_is_enough most enough all is = record { at_most = omega (arith, is); less_is_most = λ less. is }

-- of one of the target that is no later than the position, and of all that are older, none is
seen_append : (target : Target) (xs ys : List LiveResponse) → live_in target (xs ++ ys) ≡ live_in target xs ++ live_in target ys
seen_append target [] ys = refl
seen_append target (x ∷ xs) ys = go (same_target x.target target) (seen_append target xs ys)
  where
    go : (same : Bool) → live_in target (xs ++ ys) ≡ live_in target xs ++ live_in target ys
        → map live_seen (cond same (x ∷ filter (λ live. same_target live.target target) (xs ++ ys)) (filter (λ live. same_target live.target target) (xs ++ ys)))
        ≡ map live_seen (cond same (x ∷ filter (λ live. same_target live.target target) xs) (filter (λ live. same_target live.target target) xs)) ++ live_in target ys
    go true rest = ap (λ (l : List Live). live_seen x ∷ l) rest
    go false rest = rest

seen_first : (target : Target) (x : LiveResponse) (ys : List LiveResponse) → same_target x.target target ≡ true → live_in target (x ∷ ys) ≡ live_seen x ∷ live_in target ys
seen_first target x ys same =
    ap (λ (b : Bool). map live_seen (cond b (x ∷ filter (λ live. same_target live.target target) ys) (filter (λ live. same_target live.target target) ys))) same

before_both : (a b : Bool) → (a && b) ≡ true → (a ≡ true) × (b ≡ true)
before_both true true both = (refl, refl)
before_both true false both = cc
before_both false b both = cc

le_of : (n m : ℕ) → nat_le m n ≡ true → m ≤ n
le_of n m less = grind (arith, nat_tests)

pub before_is_most : (among : Among) (claim : Claim) (lives left earlier : List LiveResponse) (most enough : ℕ) (live : LiveResponse) (h : List Item)
    → IsMost among claim lives most left → left ≡ earlier ++ live ∷ [] → is_before among claim live ≡ true
    → live_in claim.target lives ≡ live_of claim.target h → IsMostOrEnough enough most (furthest among claim h)
before_is_most Any claim lives left earlier most enough live h so_far last before are = cc
before_is_most Recent claim lives left earlier most enough live h so_far last before are = cc
before_is_most InWindow claim lives left earlier most enough live h so_far last before are =
    let both = before_both (nat_le live.position claim.since) (same_target live.target claim.target) before in
    let few = le_of claim.since live.position both.0 in
    let later = so_far.1 in
    let seen : live_of claim.target h ≡ live_in claim.target earlier ++ live_seen live ∷ live_in claim.target later =
    sym are
    ∙ ap (live_in claim.target) (begins lives left earlier later live last so_far.2)
    ∙ seen_append claim.target earlier (live ∷ later)
    ∙ ap (λ (l : List Live). live_in claim.target earlier ++ l) (seen_first claim.target live later both.1) in
    let older = before_later live.position claim.since _ few (earlier_are_before claim.target h (live_in claim.target earlier) (live_seen live) (live_in claim.target later) seen) in
    let none = none_before claim earlier older in
    let not_later : ltb claim.since live.position ≡ false = grind (arith, nat_tests) in
    let itself : passed_live InWindow claim live ≡ 0 =
    ap (λ (b : Bool). cond b (passed (filters claim (record { target = live.target; state = live.state }))) 0) not_later in
    most_is_enough most enough (furthest InWindow claim h)
    (omega (arith, so_far.0, ap (most_passed InWindow claim) last, most_last InWindow claim earlier live, none, itself, most_is_furthest InWindow claim lives h are))

none_left : (among : Among) (claim : Claim) (left : List LiveResponse) → length left ≡ 0 → most_passed among claim left ≡ 0
none_left among claim [] none = refl
none_left among claim (live ∷ lives) none = omega (arith, none)

-- behind the last one, the most so far is the most of all
pub end_is_enough : (among : Among) (claim : Claim) (lives left : List LiveResponse) (most enough : ℕ) (h : List Item) → IsMost among claim lives most left → length left ≡ 0
    → live_in claim.target lives ≡ live_of claim.target h → IsMostOrEnough enough most (furthest among claim h)
end_is_enough among claim lives left most enough h so_far none are =
    most_is_enough most enough (furthest among claim h) (omega (arith, so_far.0, none_left among claim left none, most_is_furthest among claim lives h are))

-- nobody passes more than all
pub all_are_most : (claim : Claim) (lives : List LiveResponse) (n : ℕ) (h : List Item) → live_in claim.target lives ≡ live_of claim.target h
    → IsMostOrEnough filter_count n (furthest Any claim h) → n ≡ furthest Any claim h
all_are_most claim lives n h are most =
    elim (cases_Bool (ltb n filter_count)) [
      | inl less ↦ most.less_is_most (ltb-true n filter_count less)
      | inr all ↦ omega (arith, ltb-false n filter_count all, most.at_most, most_few Any claim lives, most_is_furthest Any claim lives h are)
    ]

-- ---- what is found

-- what is found of a claim that is the reply's, is found of the reply
pub found_of_reply : (format : Format) (seen : Seen) (settings : Settings) (number moment : ℕ) (reply : Message ResponseHead) (h : List Item)
    (exchange : Exchange) (mark : Mark) (claim : Claim) (found : Result Finding AllocError)
    → IsSeenAs format seen h → Some exchange ≡ seen.exchange number
    → (exchange_of number h ≡ Some exchange → mark ≡ mark_to format settings (Some exchange) reply h)
    → (exchange_of number h ≡ Some exchange → claim ≡ claim_of format settings exchange moment reply h)
    → (seen.live claim.target ≡ live_of claim.target h → seen.window number ≡ responses_since claim.format claim.exchange claim.target claim.since h
    → IfOk found (IsFoundBy mark claim h))
    → IfOk found (IsFinding format settings (exchange_of number h) moment reply h)
found_of_reply format seen settings number moment reply h exchange mark claim found one is mark-told claim-told by =
    let its_claim = claim_of format settings exchange moment reply h in
    let there : exchange_of number h ≡ Some exchange = sym (one.exchange number) ∙ sym is in
    let mark-is = mark-told there in
    let claim-is = claim-told there in
    let window : seen.window number ≡ responses_since format exchange.number exchange.target exchange.position h =
    one.window number ∙ ap (λ (o : Option Exchange). window_responses_of format o h) there in
    let its_window : seen.window number ≡ responses_since claim.format claim.exchange claim.target claim.since h =
    subst (λ (k : Claim). seen.window number ≡ responses_since k.format k.exchange k.target k.since h) (sym claim-is) window in
    let by_claim = subst (λ (k : Claim). IfOk found (IsFoundBy mark k h)) claim-is (by (one.live claim.target) its_window) in
    let by_mark = subst (λ (m : Mark). IfOk found (IsFoundBy m its_claim h)) mark-is by_claim in
    subst (λ (o : Option Exchange). IfOk found (IsFinding format settings o moment reply h)) (sym there) by_mark

-- where no exchange of the number is seen, anything may be found
pub found_of_none : (format : Format) (seen : Seen) (settings : Settings) (number moment : ℕ) (reply : Message ResponseHead) (h : List Item) (found : Result Finding AllocError)
    → IsSeenAs format seen h → seen.exchange number ≡ None → IfOk found (IsFinding format settings (exchange_of number h) moment reply h)
found_of_none format seen settings number moment reply h found one none =
    subst (λ (o : Option Exchange). IfOk found (IsFinding format settings o moment reply h)) (sym none ∙ one.exchange number) (anything found)
  where
    anything : (found : Result Finding AllocError) → IfOk found (IsFinding format settings None moment reply h)
    anything (Ok f) = tt
    anything (Err f) = tt

-- what is found of a claim that is the reply's, by what was lent of its exchange
pub found_of_lent : (format : Format) (seen : Seen) (settings : Settings) (number moment : ℕ) (reply : Message ResponseHead) (h : List Item)
    (opened : Opened) (mark : Mark) (claim : Claim) (found : Result Finding AllocError)
    → IsSeenAs format seen h → IsLent false seen number (Some opened)
    → (exchange_of number h ≡ Some (exchange_seen opened.exchange.now) → mark ≡ mark_to format settings (Some (exchange_seen opened.exchange.now)) reply h)
    → (Lends seen number opened → claim ≡ claim_of format settings (exchange_seen opened.exchange.now) moment reply h)
    → (live_in claim.target opened.lives.now ≡ live_of claim.target h
    → those_for claim.exchange (answers_lent opened) ≡ responses_since claim.format claim.exchange claim.target claim.since h
    → IfOk found (IsFoundBy mark claim h))
    → IfOk found (IsFinding format settings (exchange_of number h) moment reply h)
found_of_lent format seen settings number moment reply h opened mark claim found one (inl none) mark-told claim-told by =
    found_of_none format seen settings number moment reply h found one none.1
found_of_lent format seen settings number moment reply h opened mark claim found one (inr lends) mark-told claim-told by =
    let claim-is = claim-told lends in
    found_of_reply format seen settings number moment reply h (exchange_seen opened.exchange.now) mark claim found one (sym lends.is_open) mark-told (λ there. claim-is)
    (λ live window. by (subst (λ (k : Claim). live_in k.target opened.lives.now ≡ seen.live k.target) (sym claim-is) lends.live ∙ live)
    (subst (λ (k : Claim). those_for k.exchange (answers_lent opened) ≡ seen.window number) (sym claim-is) lends.window ∙ window))

-- what it claims, where it is surely open
pub claimed_of_lent : (format : Format) (seen : Seen) (settings : Settings) (number moment : ℕ) (reply : Message ResponseHead) (h : List Item) (opened : Opened) (claim : Claim)
    → IsSeenAs format seen h → IsLent true seen number (Some opened)
    → (Lends seen number opened → claim ≡ claim_of format settings (exchange_seen opened.exchange.now) moment reply h)
    → Some claim ≡ option_map (λ (exchange : Exchange). claim_of format settings exchange moment reply h) (exchange_of number h)
claimed_of_lent format seen settings number moment reply h opened claim one (inl none) told = absurd (let e = none.0 in cc)
claimed_of_lent format seen settings number moment reply h opened claim one (inr lends) told =
    ap Some (told lends)
    ∙ ap (option_map (λ (exchange : Exchange). claim_of format settings exchange moment reply h)) (sym lends.is_open ∙ one.exchange number)
