-- Marks, and lists that are changed from their end.
use Rattle.std.proofs.Common.{◌≡◌, ℕ, zero, suc, ◌+◌, ◌<◌, ◌≤◌, Bool, true, false, cond, List, [], ◌∷◌, ◌++◌, length, map, take, drop, get_or, set, refl, sym, ap, ◌∙◌, arith, length-append}
use Rattle.std.specs.Prelude.{not, filter}
use Rattle.std.specs.List.{list_any}
use Rattle.std.proofs.lemmas.List.{take_more_set, map_more, take-append-le, take-take, drop_at, length-take-le}
use Rattle.hc_store.specs.Marks.{unmarked}

at_most : (b : Bool) (n : ℕ) → cond b n (n + 1) ≤ n + 1
at_most true n = omega arith
at_most false n = omega arith

fewer_by : (b : Bool) (marks : List Bool) (n m : ℕ) → n ≤ m → (list_any (λ mark. mark) marks ≡ true → n < m) → list_any (λ mark. mark) (b ∷ marks) ≡ true
    → cond b n (n + 1) < m + 1
fewer_by true marks n m most fewer some = omega (arith, most)
fewer_by false marks n m most fewer some = omega (arith, fewer some)

module _ {X : Type 0} where
  -- ---- the step of a loop that marks

  pub marked_more : (f : X → Bool) (xs : List X) (marks : List Bool) (i : ℕ) (x : X) (mark : Bool) → i < length xs → i < length marks
      → x ≡ get_or xs i x → mark ≡ f x → take i marks ≡ map f (take i xs) → take (i + 1) (set marks i mark) ≡ map f (take (i + 1) xs)
  marked_more f xs marks i x mark small room is same so_far =
      take_more_set marks i mark room
      ∙ ap (λ (ms : List Bool). ms ++ mark ∷ []) so_far
      ∙ ap (λ (m : Bool). map f (take i xs) ++ m ∷ []) (same ∙ ap f is)
      ∙ sym (map_more f xs i x small)

  -- ---- the step of a loop that goes down

  -- without what stands at a place, behind what is before it
  pub removed_last : (xs : List X) (i : ℕ) (behind now new : List X) → i < length xs → now ≡ take (suc i) xs ++ behind
      → new ≡ take i now ++ drop (i + 1) now → new ≡ take i xs ++ behind
  removed_last xs i behind now new small before removed =
      let size : length (take (suc i) xs) ≡ suc i = length-take-le (suc i) xs (omega arith) in
      let front : take i now ≡ take i xs = ap (take i) before ∙ take-append-le i (take (suc i) xs) behind (omega (arith, size)) ∙ take-take i (suc i) xs (omega arith) in
      let back : drop (i + 1) now ≡ behind = ap (drop (i + 1)) before ∙ drop_at (take (suc i) xs) behind (i + 1) (omega (arith, size)) in
      removed ∙ ap (λ (ys : List X). ys ++ drop (i + 1) now) front ∙ ap (λ (ys : List X). take i xs ++ ys) back

  kept_at : (marks : List Bool) (xs : List X) (i : ℕ) → i < length marks → i < length xs → get_or marks i false ≡ false
      → take (suc i) xs ++ unmarked (drop (suc i) marks) (drop (suc i) xs) ≡ take i xs ++ unmarked (drop i marks) (drop i xs)
  kept_at [] xs i few small is = absurd (omega (arith, few))
  kept_at (m ∷ marks) [] i few small is = absurd (omega (arith, small))
  kept_at (m ∷ marks) (x ∷ xs) zero few small is = ap (λ (b : Bool). cond b (unmarked marks xs) (x ∷ unmarked marks xs)) (sym is)
  kept_at (m ∷ marks) (x ∷ xs) (suc i) few small is = ap (λ (ys : List X). x ∷ ys) (kept_at marks xs i (omega (arith, few)) (omega (arith, small)) is)

  removed_at : (marks : List Bool) (xs : List X) (i : ℕ) → i < length marks → i < length xs → get_or marks i false ≡ true
      → unmarked (drop (suc i) marks) (drop (suc i) xs) ≡ unmarked (drop i marks) (drop i xs)
  removed_at [] xs i few small is = absurd (omega (arith, few))
  removed_at (m ∷ marks) [] i few small is = absurd (omega (arith, small))
  removed_at (m ∷ marks) (x ∷ xs) zero few small is = ap (λ (b : Bool). cond b (unmarked marks xs) (x ∷ unmarked marks xs)) (sym is)
  removed_at (m ∷ marks) (x ∷ xs) (suc i) few small is = removed_at marks xs i (omega (arith, few)) (omega (arith, small)) is

  pub remove_one : (marks : List Bool) (xs : List X) (n i : ℕ) (now new : List X) → n ≡ suc i → i < length marks → i < length xs → get_or marks i false ≡ true
      → now ≡ take n xs ++ unmarked (drop n marks) (drop n xs)
      → new ≡ take i now ++ drop (i + 1) now → new ≡ take i xs ++ unmarked (drop i marks) (drop i xs)
  remove_one marks xs n i now new next few small is before removed =
      let before' : now ≡ take (suc i) xs ++ unmarked (drop (suc i) marks) (drop (suc i) xs) = before ∙ ap (λ (k : ℕ). take k xs ++ unmarked (drop k marks) (drop k xs)) next in
      removed_last xs i _ now new small before' removed ∙ ap (λ (ys : List X). take i xs ++ ys) (removed_at marks xs i few small is)

  pub keep_one : (marks : List Bool) (xs : List X) (n i : ℕ) (now : List X) → n ≡ suc i → i < length marks → i < length xs → get_or marks i false ≡ false
      → now ≡ take n xs ++ unmarked (drop n marks) (drop n xs) → now ≡ take i xs ++ unmarked (drop i marks) (drop i xs)
  keep_one marks xs n i now next few small is before =
      before ∙ ap (λ (k : ℕ). take k xs ++ unmarked (drop k marks) (drop k xs)) next ∙ kept_at marks xs i few small is

  -- the place is within what is left
  pub place_within : (xs behind now : List X) (n i : ℕ) → n ≡ suc i → i < length xs → now ≡ take n xs ++ behind → i < length now
  place_within xs behind now n i next small is = omega (arith, next, ap length is, length-append (take n xs) behind, length-take-le n xs (omega (arith, next)))

  -- ---- marks that a test makes

  picked : (b : Bool) (x : X) (left right : List X) → left ≡ right → cond b left (x ∷ left) ≡ cond (not b) (x ∷ right) right
  picked true x left right same = same
  picked false x left right same = ap (λ (ys : List X). x ∷ ys) same

  pub unmarked_tested : (test : X → Bool) (xs : List X) → unmarked (map test xs) xs ≡ filter (λ x. not (test x)) xs
  unmarked_tested test [] = refl
  unmarked_tested test (x ∷ xs) = picked (test x) x _ _ (unmarked_tested test xs)

  -- a test that fails leaves one more, and one that passes none
  picked_length : (b : Bool) (x : X) (xs : List X) → length (cond (not b) (x ∷ xs) xs) ≡ cond b (length xs) (length xs + 1)
  picked_length true x xs = refl
  picked_length false x xs = omega arith

  pub fewer_unmarked : (test : X → Bool) (xs : List X) → length (filter (λ x. not (test x)) xs) ≤ length xs
  fewer_unmarked test [] = omega arith
  fewer_unmarked test (x ∷ xs) =
      let rest = filter (λ y. not (test y)) xs in
      omega (arith, fewer_unmarked test xs, picked_length (test x) x rest, at_most (test x) (length rest))

  -- where one is marked, fewer are left
  pub fewer_with_mark : (test : X → Bool) (xs : List X) → list_any (λ mark. mark) (map test xs) ≡ true → length (filter (λ x. not (test x)) xs) < length xs
  fewer_with_mark test [] some = absurd (cc)
  fewer_with_mark test (x ∷ xs) some =
      let rest = filter (λ y. not (test y)) xs in
      omega (arith, picked_length (test x) x rest, fewer_by (test x) (map test xs) (length rest) (length xs) (fewer_unmarked test xs) (fewer_with_mark test xs) some)

  -- where room was made unless one is marked, there is room for one more behind those that are left
  pub room_left : (test : X → Bool) (xs : List X) (room : ℕ) → length xs ≤ room → (list_any (λ mark. mark) (map test xs) ≡ false → length xs < room)
      → length (filter (λ x. not (test x)) xs) < room
  room_left test xs room enough made = by_mark (list_any (λ mark. mark) (map test xs)) refl
    where
      by_mark : (b : Bool) → list_any (λ mark. mark) (map test xs) ≡ b → length (filter (λ x. not (test x)) xs) < room
      by_mark true is = omega (arith, enough, fewer_with_mark test xs is)
      by_mark false is = omega (arith, fewer_unmarked test xs, made is)

  -- what is left of a list behind marks that a test made
  pub left_by : (test : X → Bool) (xs ys : List X) (marks : List Bool) → marks ≡ map test xs → ys ≡ xs → unmarked marks ys ≡ filter (λ x. not (test x)) xs
  left_by test xs ys marks made same = ap (λ (zs : List X). unmarked marks zs) same ∙ ap (λ (ms : List Bool). unmarked ms xs) made ∙ unmarked_tested test xs

  -- the marks of a list, cut from longer ones
  pub marks_cut : (test : X → Bool) (xs seen : List X) (all marks : List Bool) (n size : ℕ) → seen ≡ xs → take (length seen) all ≡ map test seen
      → n ≡ size → size ≡ length xs → marks ≡ take n all → marks ≡ map test xs
  marks_cut test xs seen all marks n size same made is long cut =
      cut ∙ ap (λ (k : ℕ). take k all) (is ∙ long ∙ sym (ap length same)) ∙ made ∙ ap (map test) same
