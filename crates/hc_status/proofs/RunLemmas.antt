-- Runs of octets at the front of a text.
use Rattle.std.proofs.Common.{◌≡◌, ℕ, ◌<◌, Bool, true, false, cond, ◌==◌, ◌||◌, ◌⊎◌, inl, inr, List, [], ◌∷◌, ◌++◌, length, take, drop, suc, ◌+◌, refl, sym, ap, ◌∙◌, arith}
use Rattle.std.specs.Bool.{⊤}
use Rattle.std.specs.List.{AllPass, prefix_len, take_while}
use Rattle.std.proofs.lemmas.Bool.{cond-true, cond-false, eqb-true}
use Rattle.std.proofs.lemmas.Bool.Decides.{nat_tests}
use Rattle.std.proofs.lemmas.List.{take_at, drop_at, get_or-take, length-take-le, take-append-drop}
use Rattle.std.proofs.lemmas.List.Elements.{All-nil, All-cons, All-weaker, All-head, All-tail, All-from_get_or}
use Rattle.std.proofs.lemmas.List.Sums.{prefix_len-le-length, prefix_len_passes}
use Rattle.hc_status.specs.Reading.{behind}

pub true_or_false : (b : Bool) → (b ≡ true) ⊎ (b ≡ false)
true_or_false true = inl refl
true_or_false false = inr refl

-- which way a choice went
pub split_cond : {A : Type 0} (test : Bool) (x y z : A) → cond test x y ≡ z → ((test ≡ true) × (x ≡ z)) ⊎ ((test ≡ false) × (y ≡ z))
split_cond true x y z chosen = inl (refl, chosen)
split_cond false x y z chosen = inr (refl, chosen)

-- no octets, and one more in front
pub pass_none : (p : ℕ → Bool) → AllPass p []
pass_none p = All-nil (λ b. p b ≡ true)

pub pass_more : (p : ℕ → Bool) (b : ℕ) (text : List ℕ) → p b ≡ true → AllPass p text → AllPass p (b ∷ text)
pass_more p b text first rest = All-cons (λ c. p c ≡ true) b text first rest

pub pass_weaker : (p q : ℕ → Bool) → ((b : ℕ) → p b ≡ true → q b ≡ true) → (text : List ℕ) → AllPass p text → AllPass q text
pass_weaker p q weaker text pass = All-weaker (λ b. p b ≡ true) (λ b. q b ≡ true) weaker text pass

-- the text goes on with no octet that passes
abbrev pub Stops : (ℕ → Bool) → List ℕ → Type 0
Stops passes [] = ⊤
Stops passes (b ∷ rest) = passes b ≡ false

run_len : (p : ℕ → Bool) (front rest : List ℕ) → AllPass p front → Stops p rest → prefix_len p (front ++ rest) ≡ length front
run_len p [] [] pass stops = refl
run_len p [] (r ∷ rest) pass stops = cond-false (p r) _ _ stops
run_len p (x ∷ front) rest pass stops =
    let later = run_len p front rest (All-tail (λ b. p b ≡ true) x front pass) stops in
    let first = All-head (λ b. p b ≡ true) x front pass in
    cond-true (p x) _ _ first ∙ omega (arith, later)

-- a run that stops behind the front is the front
pub run_is : (p : ℕ → Bool) (front rest : List ℕ) → AllPass p front → Stops p rest → take_while p (front ++ rest) ≡ front
run_is p front rest pass stops =
    ap (λ (n : ℕ). take n (front ++ rest)) (run_len p front rest pass stops) ∙ take_at front rest (length front) refl

pub behind_run : (p : ℕ → Bool) (front rest : List ℕ) → AllPass p front → Stops p rest → behind p (front ++ rest) ≡ rest
behind_run p front rest pass stops =
    ap (λ (n : ℕ). drop n (front ++ rest)) (run_len p front rest pass stops) ∙ drop_at front rest (length front) refl

-- a text is its run and what stands behind it
pub run_spelled : (p : ℕ → Bool) (text : List ℕ) → text ≡ take_while p text ++ behind p text
run_spelled p text = sym (take-append-drop (prefix_len p text) text)

pub run_passes : (p : ℕ → Bool) (text : List ℕ) → AllPass p (take_while p text)
run_passes p text =
    let n = prefix_len p text in
    let within = prefix_len-le-length p text in
    All-from_get_or (λ b. p b ≡ true) (take n text) 0 λ i lt.
    let below : i < n = omega (arith, length-take-le n text within) in
    rw (get_or-take n text i 0 below) (prefix_len_passes p text i 0 below)

-- a run that begins with an octet that passes
pub run_first : (p : ℕ → Bool) (b : ℕ) (text : List ℕ) → p b ≡ true → take_while p (b ∷ text) ≡ b ∷ take_while p text
run_first p b text first = ap (λ (n : ℕ). take n (b ∷ text)) (cond-true (p b) (1 + prefix_len p text) 0 first ∙ one_more (prefix_len p text))
  where
    one_more : (n : ℕ) → 1 + n ≡ suc n
    one_more n = omega arith

-- the text is at its end, or goes on with an octet that passes
abbrev pub Ends : (ℕ → Bool) → List ℕ → Type 0
Ends passes [] = ⊤
Ends passes (b ∷ rest) = passes b ≡ true

-- the text goes on with an octet that passes
abbrev pub Begins : (ℕ → Bool) → List ℕ → Type 0
Begins passes [] = ⊥
Begins passes (b ∷ rest) = passes b ≡ true

pub stops_at_end : (p q : ℕ → Bool) → ((b : ℕ) → q b ≡ true → p b ≡ false) → (rest : List ℕ) → Ends q rest → Stops p rest
stops_at_end p q apart [] ends = tt
stops_at_end p q apart (b ∷ rest) ends = apart b ends

pub stops_at_start : (p q : ℕ → Bool) → ((b : ℕ) → q b ≡ true → p b ≡ false) → (rest : List ℕ) → Begins q rest → Stops p rest
stops_at_start p q apart [] begins = absurd begins
stops_at_start p q apart (b ∷ rest) begins = apart b begins

pub begins_append : (p : ℕ → Bool) (text rest : List ℕ) → Begins p text → Begins p (text ++ rest)
begins_append p [] rest begins = absurd begins
begins_append p (b ∷ text) rest begins = begins

-- ---- what ends an item and a member

-- a comma or white space
abbrev pub is_member_end : ℕ → Bool
is_member_end b = b == 44 || (b == 32 || b == 9)

-- or a semicolon
abbrev pub is_item_end : ℕ → Bool
is_item_end b = b == 59 || is_member_end b

pub apart_from_member_end : (p : ℕ → Bool) → p 44 ≡ false → p 32 ≡ false → p 9 ≡ false → (b : ℕ) → is_member_end b ≡ true → p b ≡ false
apart_from_member_end p comma space tab b end =
    elim (true_or_false (b == 44)) [
      | inl same ↦ ap p (eqb-true b 44 same) ∙ comma
      | inr other ↦ elim (true_or_false (b == 32)) [
        | inl same ↦ ap p (eqb-true b 32 same) ∙ space
        | inr more ↦ ap p (eqb-true b 9 (grind (arith, nat_tests))) ∙ tab
      ]
    ]

pub apart_from_item_end : (p : ℕ → Bool) → p 59 ≡ false → p 44 ≡ false → p 32 ≡ false → p 9 ≡ false → (b : ℕ) → is_item_end b ≡ true → p b ≡ false
apart_from_item_end p semicolon comma space tab b end =
    elim (true_or_false (b == 59)) [
      | inl same ↦ ap p (eqb-true b 59 same) ∙ semicolon
      | inr other ↦ apart_from_member_end p comma space tab b (grind (arith, nat_tests))
    ]

pub item_ends : (rest : List ℕ) → Ends is_member_end rest → Ends is_item_end rest
item_ends [] ends = tt
item_ends (b ∷ rest) ends = grind (arith, nat_tests)
