-- Each link has its turn in a batch.
use Rattle.std.proofs.Common.{◌≡◌, ℕ, ◌+◌, ◌≤◌, ◌⊎◌, Bool, cond, List, [], ◌∷◌, ◌++◌, Option, Some, None, Bor, drop, length, take, refl, suc, zero, sym, ap, subst, ◌∙◌, inl, inr, ⊎_elim, arith, append-nil}
use Rattle.std.specs.List.{Contains, count_by}
use Rattle.std.specs.Option.{option_copied}
use Rattle.std.specs.Slice.{IsItemAt}
use Rattle.std.proofs.lemmas.List.Elements.{Contains-append_cases, Contains-append_left, Contains-append_right, Contains-push, Contains-push_cases}
use Rattle.std.proofs.lemmas.List.Sums.{sum_by-cons}
use Rattle.hc_order.specs.declared.receiver.Receiver.{Receiver}
use Rattle.hc_agenda.specs.Turns.{IsBatch, IsFirstTurn, LeadsTo, Step, Waiting, all_of, before_all, pushed, put_before_in, turns_of}
use Rattle.hc_agenda.specs.Turns.Step.{Turn, Behind, Before}

-- ---- the first link

-- what is lent as the first of those that wait is the first of the batch, where some are left of it
pub first_turn : (links : List Receiver) (left : ℕ) (lent : Option (Bor Receiver)) → (left ≡ 0 → ⊥) → left ≤ length links → IsItemAt links 0 lent
    → IsFirstTurn (option_copied lent) (record { batch = take left links; behind = drop left links })
first_turn links zero lent some within at = absurd (some refl)
first_turn [] (suc left) lent some within at = absurd (omega (arith, within))
first_turn (x ∷ links) (suc left) None some within at = absurd (omega (arith, at.3))
first_turn (x ∷ links) (suc left) (Some first) some within at = (take left links, ap (λ (y : Receiver). y ∷ take left links) (sym at.1))

-- ---- links of a list

first_of : (y x : Receiver) → Contains (y ∷ []) x → y ≡ x
first_of y x there = ⊎_elim (λ none. absurd (nowhere none)) (λ is. is) (Contains-push_cases [] y x there)
  where
    nowhere : Contains [] x → ⊥
    nowhere none = omega (arith, none.1)

one_of : (y : Receiver) (xs : List Receiver) (x : Receiver) → Contains (y ∷ xs) x → (y ≡ x) ⊎ Contains xs x
one_of y xs x there = ⊎_elim (λ at_first. inl (first_of y x at_first)) inr (Contains-append_cases (y ∷ []) xs x there)

at_first : (xs : List Receiver) (x : Receiver) → Contains (x ∷ xs) x
at_first xs x = Contains-append_left (x ∷ []) xs x (Contains-push [] x)

behind_first : (y : Receiver) (xs : List Receiver) (x : Receiver) → Contains xs x → Contains (y ∷ xs) x
behind_first y xs x there = Contains-append_right (y ∷ []) xs x there

-- ---- steps

-- a link that is of the batch has had its turn, or is of it still
stays : (steps : List Step) (waiting after : Waiting) → LeadsTo steps waiting after → (x : Receiver) → Contains waiting.batch x
    → Contains (turns_of steps ++ after.batch) x
stays [] waiting after is x there = subst (λ (w : Waiting). Contains w.batch x) (sym is) there
stays (Turn link ∷ steps) waiting after leads x there =
    ⊎_elim
    (λ is. subst (λ (y : Receiver). Contains (y ∷ turns_of steps ++ after.batch) x) (sym is) (at_first (turns_of steps ++ after.batch) x))
    (λ later. behind_first link (turns_of steps ++ after.batch) x (stays steps leads.0 after leads.2 x later))
    (one_of link leads.0.batch x (subst (λ (w : Waiting). Contains w.batch x) leads.1 there))
stays (Behind link ∷ steps) waiting after leads x there = stays steps (pushed waiting link) after leads x there
stays (Before link ∷ steps) waiting after leads x there = stays steps (before_all waiting link) after leads x (behind_first link waiting.batch x there)

one_turn_more : (one turns after batch puts more from : ℕ) → more ≡ one + turns → from ≡ one + batch → turns + after ≡ batch + puts → more + after ≡ from + puts
one_turn_more one turns after batch puts more from more_is from_is is = omega (arith, more_is, from_is, is)

one_put_more : (one turns after batch puts more from : ℕ) → from ≡ one + batch → more ≡ one + puts → turns + after ≡ from + puts → turns + after ≡ batch + more
one_put_more one turns after batch puts more from from_is more_is is = omega (arith, from_is, more_is, is)

-- a link more is counted
with_it : (test : Receiver → Bool) (link : Receiver) (links : List Receiver) → count_by test (link ∷ links) ≡ cond (test link) 1 0 + count_by test links
with_it test link links = sum_by-cons (λ (x : Receiver). cond (test x) 1 0) link links

-- as many turns were given, or are of the batch still, as were of it, and were put before
counted : (steps : List Step) (waiting after : Waiting) → LeadsTo steps waiting after → (test : Receiver → Bool)
    → count_by test (turns_of steps) + count_by test after.batch ≡ count_by test waiting.batch + count_by test (put_before_in steps)
counted [] waiting after is test = let same = ap (λ (w : Waiting). count_by test w.batch) is in omega (arith, same)
counted (Turn link ∷ steps) waiting after leads test =
    one_turn_more (cond (test link) 1 0) (count_by test (turns_of steps)) (count_by test after.batch) (count_by test leads.0.batch) (count_by test (put_before_in steps))
    (count_by test (link ∷ turns_of steps)) (count_by test waiting.batch) (with_it test link (turns_of steps))
    (ap (λ (w : Waiting). count_by test w.batch) leads.1 ∙ with_it test link leads.0.batch) (counted steps leads.0 after leads.2 test)
counted (Behind link ∷ steps) waiting after leads test = counted steps (pushed waiting link) after leads test
counted (Before link ∷ steps) waiting after leads test =
    one_put_more (cond (test link) 1 0) (count_by test (turns_of steps)) (count_by test after.batch) (count_by test waiting.batch) (count_by test (put_before_in steps))
    (count_by test (link ∷ put_before_in steps)) (count_by test (link ∷ waiting.batch)) (with_it test link waiting.batch) (with_it test link (put_before_in steps))
    (counted steps (before_all waiting link) after leads test)

-- where none was put before, the turns come in order
ordered : (steps : List Step) (waiting after : Waiting) → LeadsTo steps waiting after → put_before_in steps ≡ [] → turns_of steps ++ after.batch ≡ waiting.batch
ordered [] waiting after is none = ap (λ (w : Waiting). w.batch) is
ordered (Turn link ∷ steps) waiting after leads none =
    ap (λ (xs : List Receiver). link ∷ xs) (ordered steps leads.0 after leads.2 none) ∙ sym (ap (λ (w : Waiting). w.batch) leads.1)
ordered (Behind link ∷ steps) waiting after leads none = ordered steps (pushed waiting link) after leads none
ordered (Before link ∷ steps) waiting after leads none = absurd (some_none none)
  where
    some_none : link ∷ put_before_in steps ≡ [] → ⊥
    some_none e = cc

-- ---- a batch

all_given : (turns batch : List Receiver) → batch ≡ [] → turns ++ batch ≡ turns
all_given turns batch over = ap (λ (xs : List Receiver). turns ++ xs) over ∙ append-nil turns

pub each_has_its_turn : (steps : List Step) (waiting after : Waiting) → IsBatch steps waiting after → (link : Receiver) → Contains (all_of waiting) link
    → Contains (turns_of steps) link
each_has_its_turn steps waiting after batch link there =
    subst (λ (xs : List Receiver). Contains xs link) (all_given (turns_of steps) after.batch batch.1.0) (stays steps _ after batch.0 link there)

pub none_has_more : (steps : List Step) (waiting after : Waiting) → IsBatch steps waiting after → (test : Receiver → Bool)
    → count_by test (turns_of steps) ≡ count_by test (all_of waiting) + count_by test (put_before_in steps)
none_has_more steps waiting after batch test =
    let over : count_by test after.batch ≡ 0 = ap (count_by test) batch.1.0 in
    let all = counted steps _ after batch.0 test in
    omega (arith, over, all)

pub in_their_order : (steps : List Step) (waiting after : Waiting) → IsBatch steps waiting after → put_before_in steps ≡ [] → turns_of steps ≡ all_of waiting
in_their_order steps waiting after batch none = sym (all_given (turns_of steps) after.batch batch.1.0) ∙ ordered steps _ after batch.0 none
