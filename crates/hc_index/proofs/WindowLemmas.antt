-- What the windows hold, and what it tells of a reply.
use Rattle.std.proofs.Common.{◌≡◌, ℕ, Bool, true, false, ◌&&◌, ◌||◌, cond, List, [], ◌∷◌, ◌++◌, Some, filter, map, refl, sym, ap, ◌∙◌}
use Rattle.std.specs.List.{list_any}
use Rattle.std.proofs.lemmas.List.{map-append}
use Rattle.hc_head.specs.declared.head.ResponseHead.{ResponseHead}
use Rattle.hc_head.specs.declared.head.Target.{Target}
use Rattle.hc_head.specs.Targets.{same_target}
use Rattle.hc_framing.specs.declared.message.Message.{Message}
use Rattle.hc_status.specs.declared.marks.Mark.{Mark}
use Rattle.hc_transcript.specs.declared.line.ToldCause.{ToldCause}
use Rattle.hc_transcript.specs.Items.{Item, Forward}
use Rattle.hc_history.specs.Claims.{Claim}
use Rattle.hc_history.specs.Windows.{may_be_for}
use Rattle.hc_history.specs.Forwarded.{carries, is_forwarded}
use Rattle.hc_history.specs.Seen.{WindowResponse, response_to, responses_since}
use Rattle.hc_history.proofs.WindowLemmas.{carried}
use Rattle.hc_index.specs.declared.kept.RecordedExchange.{RecordedExchange}
use Rattle.hc_index.specs.declared.kept.WindowAnswer.{WindowAnswer}
use Rattle.hc_index.specs.Lists.{carried_by}
use Rattle.hc_index.specs.Windows.{ToldResponse, told_seen, answer_to, those_for, carries_told}

-- ---- what a response adds

-- what it adds to the answers for a target
abbrev pub added_for : Target → Forward → ToldCause → Message ResponseHead → List ToldResponse
added_for t forward cause response = cond (same_target forward.target t) (answer_to forward cause response ∷ []) []

-- of more answers those for an exchange are more by those for it
pub those_append : (e : ℕ) (xs ys : List ToldResponse) → those_for e (xs ++ ys) ≡ those_for e xs ++ those_for e ys
those_append e [] ys = refl
those_append e (x ∷ xs) ys = go (may_be_for x.cause e) (those_append e xs ys)
  where
    go : (may : Bool) → those_for e (xs ++ ys) ≡ those_for e xs ++ those_for e ys
        → map (λ (one : ToldResponse). one.response) (cond may (x ∷ filter (λ (one : ToldResponse). may_be_for one.cause e) (xs ++ ys)) (filter (λ (one : ToldResponse). may_be_for one.cause e) (xs ++ ys)))
        ≡ map (λ (one : ToldResponse). one.response) (cond may (x ∷ filter (λ (one : ToldResponse). may_be_for one.cause e) xs) (filter (λ (one : ToldResponse). may_be_for one.cause e) xs)) ++ those_for e ys
    go true more = ap (λ (rest : List WindowResponse). x.response ∷ rest) more
    go false more = more

-- what it adds for an exchange
pub added_is : (e : ℕ) (target : Target) (forward : Forward) (cause : ToldCause) (response : Message ResponseHead)
    → those_for e (added_for target forward cause response) ≡ cond (may_be_for cause e) (response_to target (Some forward) response) []
added_is e target forward cause response = go (same_target forward.target target) (may_be_for cause e) refl
  where
    go : (same may : Bool) → may_be_for cause e ≡ may
        → those_for e (cond same (answer_to forward cause response ∷ []) []) ≡ cond may (cond same ((answer_to forward cause response).response ∷ []) []) []
    go true true is = rw is refl
    go true false is = rw is refl
    go false true is = refl
    go false false is = refl

-- what is pushed to the window of an exchange of the forward's target
pub window_pushed : (exchange : RecordedExchange) (old new : List WindowAnswer) (x : WindowAnswer) (forward : Forward) (cause : ToldCause) (response : Message ResponseHead)
    → same_target forward.target exchange.target ≡ true → told_seen x ≡ answer_to forward cause response → new ≡ old ++ x ∷ []
    → those_for exchange.number (map told_seen new)
    ≡ those_for exchange.number (map told_seen old) ++ cond (may_be_for cause exchange.number) (response_to exchange.target (Some forward) response) []
window_pushed exchange old new x forward cause response same is are =
    let e = exchange.number in
    ap (λ (answers : List WindowAnswer). those_for e (map told_seen answers)) are
    ∙ ap (those_for e) (map-append told_seen old (x ∷ []))
    ∙ those_append e (map told_seen old) (told_seen x ∷ [])
    ∙ ap (λ (one : ToldResponse). those_for e (map told_seen old) ++ those_for e (one ∷ [])) is
    ∙ ap (λ (b : Bool). those_for e (map told_seen old) ++ those_for e (cond b (answer_to forward cause response ∷ []) [])) (sym same)
    ∙ ap (λ (added : List WindowResponse). those_for e (map told_seen old) ++ added) (added_is e exchange.target forward cause response)

-- ---- what a reply carries of it

-- the answers tell those of them that may be for the exchange
any_told : (claim : Claim) (answers : List ToldResponse)
    → list_any (λ one. carries claim one.method one.status one.body) (those_for claim.exchange answers) ≡ list_any (carries_told claim) answers
any_told claim [] = refl
any_told claim (x ∷ answers) = go (may_be_for x.cause claim.exchange) (any_told claim answers)
  where
    go : (may : Bool) → list_any (λ one. carries claim one.method one.status one.body) (those_for claim.exchange answers) ≡ list_any (carries_told claim) answers
        → list_any (λ one. carries claim one.method one.status one.body)
        (map (λ (one : ToldResponse). one.response) (cond may (x ∷ filter (λ (one : ToldResponse). may_be_for one.cause claim.exchange) answers) (filter (λ (one : ToldResponse). may_be_for one.cause claim.exchange) answers)))
        ≡ ((may && carries claim x.response.method x.response.status x.response.body) || list_any (carries_told claim) answers)
    go true more = ap (λ (b : Bool). carries claim x.response.method x.response.status x.response.body || b) more
    go false more = more

-- the window tells whether the reply carries a response of it
pub answers_tell : (claim : Claim) (mark : Mark) (answers : List ToldResponse) (h : List Item) (b : Bool)
    → those_for claim.exchange answers ≡ responses_since claim.format claim.exchange claim.target claim.since h
    → b ≡ carried_by claim.format mark (list_any (carries_told claim) answers) → carried_by claim.format mark (is_forwarded claim h) ≡ b
answers_tell claim mark answers h b are is =
    ap (carried_by claim.format mark)
    (carried claim h ∙ ap (list_any (λ one. carries claim one.method one.status one.body)) (sym are) ∙ any_told claim answers) ∙ sym is
