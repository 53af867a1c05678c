-- The live responses of a target.
use Rattle.std.proofs.Common.{◌≡◌, ℕ, Bool, true, false, ◌||◌, cond, eqb, if◌then◌else◌, List, [], ◌∷◌, ◌++◌, None, filter, map, refl, ap, sym, ◌∙◌, inl, inr}
use Rattle.std.specs.Prelude.{codes}
use Rattle.std.specs.Str.{bytes_eq}
use Rattle.std.proofs.lemmas.Bool.{cases_Bool}
use Rattle.std.proofs.lemmas.List.{map-append, append-nil}
use Rattle.std.proofs.lemmas.List.Elements.{filter-append}
use Rattle.hc_fields.specs.declared.fields.Field.{Field}
use Rattle.hc_fields.specs.Values.{lines_of}
use Rattle.hc_head.specs.declared.head.ResponseHead.{ResponseHead}
use Rattle.hc_head.specs.declared.head.Target.{Target}
use Rattle.hc_head.specs.Statuses.{not_modified}
use Rattle.hc_head.specs.Targets.{same_target}
use Rattle.hc_framing.specs.declared.message.Message.{Message}
use Rattle.hc_transcript.specs.Items.{Forward}
use Rattle.hc_rules.specs.Storing.{may_store}
use Rattle.hc_update.specs.declared.stored.Stored.{Stored}
use Rattle.hc_update.specs.States.{initial_state, invalidates}
use Rattle.hc_update.specs.Remnants.{is_lost, remnant}
use Rattle.hc_history.specs.Seen.{Live, live_at, remaining}
use Rattle.hc_history.specs.States.{begun_by, state_answered}
use Rattle.hc_history.specs.Noting.{live_answered}
use Rattle.hc_history.proofs.ForgetLemmas.{lost_remnant, remaining_lost, remaining_kept}
use Rattle.hc_head.proofs.SameTargetLemmas.{same_target_one}
use Rattle.hc_index.specs.declared.kept.LiveResponse.{LiveResponse}
use Rattle.hc_index.specs.Lists.{live_seen, live_in, may_change, Targeted, targeted, targeted_answered}

-- what is made of each element is made of what is seen of those that pass a test, where that stays
filter_step : {X Y : Type 0} (b c : Bool) (see : X → Y) (f : X → X) (g : Y → Y) (x : X) (kept xs : List X) → c ≡ b → (b ≡ true → see (f x) ≡ g (see x))
    → map see kept ≡ map g (map see xs) → map see (cond c (f x ∷ kept) kept) ≡ map g (map see (cond b (x ∷ xs) xs))
filter_step true true see f g x kept xs same is so_far = λ i. is refl i ∷ so_far i
filter_step false false see f g x kept xs same is so_far = so_far
filter_step true false see f g x kept xs same is so_far = cc
filter_step false true see f g x kept xs same is so_far = cc

map_of_filter : {X Y : Type 0} (p : X → Bool) (see : X → Y) (f : X → X) (g : Y → Y) → ((x : X) → p (f x) ≡ p x) → ((x : X) → p x ≡ true → see (f x) ≡ g (see x))
    → (xs : List X) → map see (filter p (map f xs)) ≡ map g (map see (filter p xs))
map_of_filter p see f g stays is [] = refl
map_of_filter p see f g stays is (x ∷ xs) =
    filter_step (p x) (p (f x)) see f g x (filter p (map f xs)) (filter p xs) (stays x) (is x) (map_of_filter p see f g stays is xs)

-- those of a target, among live responses with their targets
abbrev in_targeted : Target → List Targeted → List Live
in_targeted target lives = map (λ (kept : Targeted). kept.live) (filter (λ kept. same_target kept.target target) lives)

in_targeted_by : (x : LiveResponse) (b : Bool) (xs : List LiveResponse) (ys : List Targeted) → map live_seen xs ≡ map (λ (kept : Targeted). kept.live) ys
    → map live_seen (cond b (x ∷ xs) xs) ≡ map (λ (kept : Targeted). kept.live) (cond b (targeted x ∷ ys) ys)
in_targeted_by x true xs ys so_far = ap (λ (ls : List Live). live_seen x ∷ ls) so_far
in_targeted_by x false xs ys so_far = so_far

live_in_targeted : (target : Target) (lives : List LiveResponse) → live_in target lives ≡ in_targeted target (map targeted lives)
live_in_targeted target [] = refl
live_in_targeted target (x ∷ xs) =
    in_targeted_by x (same_target x.target target) (filter (λ live. same_target live.target target) xs)
    (filter (λ (kept : Targeted). same_target kept.target target) (map targeted xs)) (live_in_targeted target xs)

-- a response leaves the target of each
target_stays : (forward : Forward) (position moment : ℕ) (response : Message ResponseHead) (kept : Targeted)
    → (targeted_answered forward position moment response kept).target ≡ kept.target
target_stays forward position moment response kept = go (same_target forward.target kept.target)
  where
    go : (b : Bool) → (cond b (record { target = kept.target; live = live_answered forward position moment response kept.live }) kept).target ≡ kept.target
    go true = refl
    go false = refl

answered_by : (b : Bool) (forward : Forward) (position moment : ℕ) (response : Message ResponseHead) (kept : Targeted) → same_target forward.target kept.target ≡ b
    → (targeted_answered forward position moment response kept).live ≡ cond b (live_answered forward position moment response kept.live) kept.live
answered_by true forward position moment response kept is = rw is refl
answered_by false forward position moment response kept is = rw is refl

-- one of the target
answered_at : (target : Target) (forward : Forward) (position moment : ℕ) (response : Message ResponseHead) (kept : Targeted) → same_target kept.target target ≡ true
    → (targeted_answered forward position moment response kept).live
    ≡ cond (same_target forward.target target) (live_answered forward position moment response kept.live) kept.live
answered_at target forward position moment response kept at_target =
    answered_by (same_target forward.target target) forward position moment response kept
    (ap (same_target forward.target) (same_target_one kept.target target at_target))

map_itself : {X : Type 0} (xs : List X) → map (λ x. x) xs ≡ xs
map_itself [] = refl
map_itself (x ∷ xs) = ap (λ ys. x ∷ ys) (map_itself xs)

map_if : {X : Type 0} (b : Bool) (f : X → X) (xs : List X) → map (λ x. cond b (f x) x) xs ≡ cond b (map f xs) xs
map_if true f xs = refl
map_if false f xs = map_itself xs

-- what a response leaves of the live responses of a target
pub lives_answered_in : (target : Target) (forward : Forward) (position moment : ℕ) (response : Message ResponseHead) (old new : List LiveResponse)
    → map targeted new ≡ map (targeted_answered forward position moment response) (map targeted old)
    → live_in target new ≡ (if same_target forward.target target then map (live_answered forward position moment response) (live_in target old) else live_in target old)
lives_answered_in target forward position moment response old new are =
    live_in_targeted target new ∙ ap (in_targeted target) are
    ∙ map_of_filter (λ (kept : Targeted). same_target kept.target target) (λ kept. kept.live) (targeted_answered forward position moment response)
    (λ live. cond (same_target forward.target target) (live_answered forward position moment response live) live)
    (λ kept. ap (λ (t : Target). same_target t target) (target_stays forward position moment response kept))
    (λ kept at_target. answered_at target forward position moment response kept at_target) (map targeted old)
    ∙ map_if (same_target forward.target target) (live_answered forward position moment response) (in_targeted target (map targeted old))
    ∙ ap (λ (ls : List Live). cond (same_target forward.target target) (map (live_answered forward position moment response) ls) ls) (sym (live_in_targeted target old))

-- ---- what leaves them all as they are

neither : (a b : Bool) → (a || b) ≡ false → (a ≡ false) × (b ≡ false)
neither true b is = absurd (let e = is in cc)
neither false b is = (refl, is)

state_stays : (forward : Forward) (position moment : ℕ) (response : Message ResponseHead) (state : Stored) → eqb response.head.status not_modified ≡ false
    → invalidates forward.request.method response.head.status ≡ false → state_answered forward position moment response state ≡ state
state_stays forward position moment response state no_304 no_invalidation = rw (no_304, no_invalidation) refl

targeted_stays : (forward : Forward) (position moment : ℕ) (response : Message ResponseHead) (x : LiveResponse) (b : Bool)
    → state_answered forward position moment response x.state ≡ x.state
    → cond b (record { target = x.target; live = live_answered forward position moment response (live_seen x) }) (targeted x) ≡ targeted x
targeted_stays forward position moment response x true stays =
    ap (λ (s : Stored). let k : Targeted = record { target = x.target; live = record { position = x.position; state = s } } in k) (ap remaining stays ∙ x.remains)
targeted_stays forward position moment response x false stays = refl

pub all_stay : (forward : Forward) (position moment : ℕ) (response : Message ResponseHead) (lives : List LiveResponse)
    → may_change forward.request.method response.head.status ≡ false → map targeted lives ≡ map (targeted_answered forward position moment response) (map targeted lives)
all_stay forward position moment response [] none = refl
all_stay forward position moment response (x ∷ xs) none =
    let parts = neither (eqb response.head.status not_modified) (invalidates forward.request.method response.head.status) none in
    let here = targeted_stays forward position moment response x (same_target forward.target x.target)
    (state_stays forward position moment response x.state parts.0 parts.1) in
    let rest = all_stay forward position moment response xs none in
    λ i. sym here i ∷ rest i

-- one more behind them
pub live_pushed : (target : Target) (lives more : List LiveResponse) → live_in target (lives ++ more) ≡ live_in target lives ++ live_in target more
live_pushed target lives more =
    ap (map live_seen) (filter-append (λ (live : LiveResponse). same_target live.target target) lives more) ∙ map-append live_seen _ _

-- what is valid isn't forgotten
initial_remains : (forward : Forward) (moment : ℕ) (response : Message ResponseHead)
    → remaining (initial_state forward.request forward.moment response moment) ≡ initial_state forward.request forward.moment response moment
unfolding remaining
initial_remains forward moment response = refl

pub begins_remaining : (forward : Forward) (moment : ℕ) (response : Message ResponseHead) (state : Stored)
    → state ≡ initial_state forward.request forward.moment response moment → remaining state ≡ state
begins_remaining forward moment response state is = ap remaining is ∙ initial_remains forward moment response ∙ sym is

kept_twice : (name : List ℕ) (fields : List Field) → lines_of name (lines_of name fields) ≡ lines_of name fields
kept_twice name [] = refl
kept_twice name (x ∷ xs) = go (bytes_eq x.name name) refl (kept_twice name xs)
  where
    go : (same : Bool) → bytes_eq x.name name ≡ same → lines_of name (lines_of name xs) ≡ lines_of name xs
        → lines_of name (cond same (x ∷ lines_of name xs) (lines_of name xs)) ≡ cond same (x ∷ lines_of name xs) (lines_of name xs)
    go true e rest = rw e (ap (λ (ls : List Field). x ∷ ls) rest)
    go false e rest = rest

remnant_twice : (state : Stored) → remnant (remnant state) ≡ remnant state
remnant_twice state =
    ap (λ (fields : List Field). let s : Stored = record {
      request = state.request;
      status = state.status;
      fields = fields;
      body = [];
      times = record { date = 0; age_value = 0; request_time = 0; response_time = 0 };
      invalid = true;
      validated_at = None;
    } in s) (kept_twice (codes "vary") state.fields)

remaining_twice : (state : Stored) → remaining (remaining state) ≡ remaining state
remaining_twice state =
    elim (cases_Bool (is_lost state)) [
      | inl lost ↦ ap remaining (remaining_lost state lost) ∙ remaining_lost (remnant state) (lost_remnant state)
          ∙ remnant_twice state ∙ sym (remaining_lost state lost)
      | inr kept ↦ ap remaining (remaining_kept state kept)
    ]

-- nothing more is forgotten of what remains
pub remains_remaining : (state before : Stored) → state ≡ remaining before → remaining state ≡ state
remains_remaining state before is = ap remaining is ∙ remaining_twice before ∙ sym is

one_of : (target : Target) (x : LiveResponse) (b : Bool) → map live_seen (cond b (x ∷ []) []) ≡ cond b (live_seen x ∷ []) []
one_of target x true = refl
one_of target x false = refl

-- what a response begins, if it may be stored
pub lives_begun : (forward : Forward) (position moment : ℕ) (response : Message ResponseHead) (x : LiveResponse) (old new : List LiveResponse)
    → may_store forward.request response.head ≡ true → new ≡ old ++ x ∷ []
    → targeted x ≡ record { target = forward.target; live = record { position = position; state = initial_state forward.request forward.moment response moment } }
    → (target : Target) → live_in target new ≡ live_in target old ++ live_at target position (begun_by forward moment response)
lives_begun forward position moment response x old new stores is x-is target =
    ap (live_in target) is ∙ live_pushed target old _
    ∙ ap (λ (ls : List Live). live_in target old ++ ls)
    (one_of target x (same_target x.target target)
    ∙ ap (λ (k : Targeted). cond (same_target k.target target) (k.live ∷ []) []) x-is
    ∙ ap (λ (s : Stored). let l : Live = record { position = position; state = s } in cond (same_target forward.target target) (l ∷ []) []) (sym (initial_remains forward moment response))
    ∙ rw stores refl)

pub none_begun : (forward : Forward) (position moment : ℕ) (response : Message ResponseHead) (lives : List LiveResponse)
    → may_store forward.request response.head ≡ false
    → (target : Target) → live_in target lives ≡ live_in target lives ++ live_at target position (begun_by forward moment response)
none_begun forward position moment response lives stores target = rw stores (sym (append-nil (live_in target lives)))
