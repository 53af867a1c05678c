-- Forwards stand in line still, where places have changed.
use Rattle.std.proofs.Common.{◌≡◌, ℕ, ◌+◌, ◌≤◌, ◌==◌, ◌||◌, Bool, true, false, List, [], ◌∷◌, ◌++◌, Option, Some, None, refl, sym, ap, subst, ◌∙◌, cond, arith, inl, inr, IfSome, Result, Ok, Err, OnOk, OnErr, is_err, true≢false, min}
use Rattle.std.specs.declared.alloc.AllocError.{AllocError}
use Rattle.std.proofs.lemmas.Bool.Decides.{nat_tests}
use Rattle.std.specs.BTreeMap.{is_at as is_key}
use Rattle.std.specs.Ordering.{nat_cmp}
use Rattle.hc_agenda.specs.declared.places.PlaceCandidate.{PlaceCandidate}
use Rattle.hc_agenda.specs.declared.places.Places.{Places}
use Rattle.hc_agenda.specs.Places.{ChangesLine, ChangesOpened, HasPlaceLeft, IsFirstOf, IsNext, KeepsLines, TakesForward, TakesNext, awaited_in, count_waiting, first_in, line_of, opened_in, unawaited_in, without_first}
use Rattle.hc_peers.specs.Knocks.{is_in}
use Rattle.hc_attended.specs.Tending.{KeepsInLine, is_in_line}
use Rattle.hc_attended.proofs.AttendedLemmas.{apart}
use Rattle.hc_attended.proofs.StillLemmas.{or_kept, or_left, or_right}
use Rattle.hc_attended.proofs.TendLemmas.{none_is_no_value, same_value}

-- ---- lists

in_itself : (n : ℕ) (rest : List ℕ) → is_in n (n ∷ rest) ≡ true
in_itself n rest = or_left (n == n) (is_in n rest) itself
  where
    itself : (n == n) ≡ true
    itself = grind (arith, nat_tests)

pub in_more : (n : ℕ) (xs ys : List ℕ) → is_in n xs ≡ true → is_in n (xs ++ ys) ≡ true
in_more n [] ys is = absurd (cc)
in_more n (m ∷ rest) ys is = or_kept (m == n) (is_in n rest) (m == n) (is_in n (rest ++ ys)) (λ here. here) (in_more n rest ys) is

pub in_last : (n : ℕ) (xs : List ℕ) → is_in n (xs ++ n ∷ []) ≡ true
in_last n [] = in_itself n []
in_last n (m ∷ rest) = or_right (m == n) (is_in n (rest ++ n ∷ [])) (in_last n rest)

in_tail : (f n : ℕ) (rest : List ℕ) → is_key (nat_cmp f) n ≡ false → is_in n (f ∷ rest) ≡ true → is_in n rest ≡ true
in_tail f n rest differ is = subst (λ b. (b || is_in n rest) ≡ true) (apart f n differ) is

in_without : (f n : ℕ) (line : List ℕ) → is_key (nat_cmp f) n ≡ false → is_in n line ≡ true → is_in n (without_first f line) ≡ true
in_without f n [] differ is = is
in_without f n (first ∷ rest) differ is = by_test (first == f) refl
  where
    by_test : (b : Bool) → (first == f) ≡ b → is_in n (cond b rest (first ∷ rest)) ≡ true
    by_test true same = subst (λ b. (b || is_in n rest) ≡ true) (other (apart f n differ)) is
      where
        other : (f == n) ≡ false → (first == n) ≡ false
        other differs = grind (arith, nat_tests, same, differs)
    by_test false same = is

-- ---- lines

pub same_lines : (f : ℕ) (places : Places) → KeepsInLine f places places
same_lines f places = record { opened = λ g differ is. is; in_line = λ g differ is. is }

pub lines_then : (f : ℕ) (before between after : Places) → KeepsInLine f before between → KeepsInLine f between after → KeepsInLine f before after
lines_then f before between after one other = record {
  opened = λ g differ is. other.opened g differ (one.opened g differ is);
  in_line = λ g differ is. other.in_line g differ (one.in_line g differ is);
}

pub kept_lines : (f : ℕ) (before after : Places) → KeepsLines before after → KeepsInLine f before after
kept_lines f before after kept = record {
  opened = λ g differ is. ap (is_in g) kept.opened ∙ is;
  in_line = λ g differ is.
      or_kept (is_in g (awaited_in before)) (is_in g (unawaited_in before)) (is_in g (awaited_in after)) (is_in g (unawaited_in after))
      (λ here. ap (is_in g) kept.awaited ∙ here) (λ there. ap (is_in g) kept.unawaited ∙ there) is;
}

-- the first of those that were opened is taken out
pub opened_taken : (f : ℕ) (before after : Places) → ChangesOpened before after → TakesForward (Some f) (opened_in before) (opened_in after) → KeepsInLine f before after
opened_taken f before after only first = record {
  opened = λ g differ is. in_tail f g (opened_in after) differ (sym (ap (is_in g) first) ∙ is);
  in_line = λ g differ is. ap (is_in_line g) only ∙ is;
}

-- the same, where it is what a call returned
pub some_opened : (f : ℕ) (result : Option ℕ) (before after : Places) → result ≡ Some f → ChangesOpened before after → TakesForward result (opened_in before) (opened_in after) → KeepsInLine f before after
some_opened f result before after is only first = opened_taken f before after only (subst (λ one. TakesForward one (opened_in before) (opened_in after)) is first)

-- none was opened
pub nobody_opened : (result : Option ℕ) (before after : Places) → result ≡ None → ChangesOpened before after → TakesForward result (opened_in before) (opened_in after) → KeepsLines before after
nobody_opened result before after is only first = none_opened (subst (λ one. TakesForward one (opened_in before) (opened_in after)) is first)
  where
    none_opened : TakesForward None (opened_in before) (opened_in after) → KeepsLines before after
    none_opened none = record { opened = none.1 ∙ sym none.0; awaited = ap awaited_in only; unawaited = ap unawaited_in only }

-- a forward comes behind all others of a line
pub line_joined : (background : Bool) (f g : ℕ) (before after : Places) → ChangesLine background before after → line_of background after ≡ line_of background before ++ g ∷ [] → KeepsInLine f before after
line_joined false f g before after only joined = record {
  opened = λ h differ is. ap (λ places. is_in h (opened_in places)) only ∙ is;
  in_line = λ h differ is.
      or_kept (is_in h (awaited_in before)) (is_in h (unawaited_in before)) (is_in h (awaited_in after)) (is_in h (unawaited_in after))
      (λ here. ap (is_in h) joined ∙ in_more h (awaited_in before) (g ∷ []) here) (λ there. ap (λ places. is_in h (unawaited_in places)) only ∙ there) is;
}
line_joined true f g before after only joined = record {
  opened = λ h differ is. ap (λ places. is_in h (opened_in places)) only ∙ is;
  in_line = λ h differ is.
      or_kept (is_in h (awaited_in before)) (is_in h (unawaited_in before)) (is_in h (awaited_in after)) (is_in h (unawaited_in after))
      (λ here. ap (λ places. is_in h (awaited_in places)) only ∙ here) (λ there. ap (is_in h) joined ∙ in_more h (unawaited_in before) (g ∷ []) there) is;
}

pub joined_in : (background : Bool) (g : ℕ) (before after : Places) → line_of background after ≡ line_of background before ++ g ∷ [] → is_in_line g after ≡ true
joined_in false g before after joined = or_left (is_in g (awaited_in after)) (is_in g (unawaited_in after)) (ap (is_in g) joined ∙ in_last g (awaited_in before))
joined_in true g before after joined = or_right (is_in g (awaited_in after)) (is_in g (unawaited_in after)) (ap (is_in g) joined ∙ in_last g (unawaited_in before))

-- a line stays as it was
pub line_same : (background : Bool) (before after : Places) → ChangesLine background before after → line_of background after ≡ line_of background before → KeepsLines before after
line_same false before after only same = record { opened = ap opened_in only; awaited = same; unawaited = ap unawaited_in only }
line_same true before after only same = record { opened = ap opened_in only; awaited = ap awaited_in only; unawaited = same }

-- a forward waits no more
pub line_left : (f : ℕ) (before after : Places) → opened_in after ≡ opened_in before → awaited_in after ≡ without_first f (awaited_in before) → unawaited_in after ≡ without_first f (unawaited_in before)
    → KeepsInLine f before after
line_left f before after opened awaited unawaited = record {
  opened = λ g differ is. ap (is_in g) opened ∙ is;
  in_line = λ g differ is.
      or_kept (is_in g (awaited_in before)) (is_in g (unawaited_in before)) (is_in g (awaited_in after)) (is_in g (unawaited_in after))
      (λ here. ap (is_in g) awaited ∙ in_without f g (awaited_in before) differ here) (λ there. ap (is_in g) unawaited ∙ in_without f g (unawaited_in before) differ there) is;
}

-- the first one of a line is taken out
line_taken : (background : Bool) (f : ℕ) (before after : Places) → ChangesLine background before after → line_of background before ≡ f ∷ line_of background after → KeepsInLine f before after
line_taken false f before after only first = record {
  opened = λ g differ is. ap (λ places. is_in g (opened_in places)) only ∙ is;
  in_line = λ g differ is.
      or_kept (is_in g (awaited_in before)) (is_in g (unawaited_in before)) (is_in g (awaited_in after)) (is_in g (unawaited_in after))
      (λ here. in_tail f g (awaited_in after) differ (sym (ap (is_in g) first) ∙ here)) (λ there. ap (λ places. is_in g (unawaited_in places)) only ∙ there) is;
}
line_taken true f before after only first = record {
  opened = λ g differ is. ap (λ places. is_in g (opened_in places)) only ∙ is;
  in_line = λ g differ is.
      or_kept (is_in g (awaited_in before)) (is_in g (unawaited_in before)) (is_in g (awaited_in after)) (is_in g (unawaited_in after))
      (λ here. ap (λ places. is_in g (awaited_in places)) only ∙ here) (λ there. in_tail f g (unawaited_in after) differ (sym (ap (is_in g) first) ∙ there)) is;
}

opened_by_line : (background : Bool) (before after : Places) → ChangesLine background before after → opened_in after ≡ opened_in before
opened_by_line false before after only = ap opened_in only
opened_by_line true before after only = ap opened_in only

-- ---- who is next

none_first : (line : List ℕ) (f : ℕ) → line ≡ [] → first_in line ≡ Some f → ⊥
none_first line f none first = none_is_no_value f (sym (ap first_in none) ∙ first)

first_is : (places : Places) (one other : Bool) (f g : ℕ) → IsFirstOf one places f → IsFirstOf other places g → f ≡ g
first_is places false false f g is too = same_value f g (sym is ∙ too)
first_is places false true f g is too = absurd (none_first (awaited_in places) f too.0 is)
first_is places true false f g is too = absurd (none_first (awaited_in places) g is.0 too)
first_is places true true f g is too = same_value f g (sym is.2 ∙ too.2)

-- what is left where a forward is taken that is known to be next
pub record IsTaken (f : ℕ) (before after : Places) : Type 0 where
  pub left : HasPlaceLeft after
  pub fewer : count_waiting after + 1 ≡ count_waiting before
  pub opened : opened_in after ≡ opened_in before
  pub lines : KeepsInLine f before after

some_next : (places : Places) (one : Bool) (f : ℕ) → HasPlaceLeft places → IsFirstOf one places f → IsNext places None → ⊥
some_next places one f left first (inl full) = omega (arith, left, full)
some_next places false f left first (inr (none, others)) = none_first (awaited_in places) f none first
some_next places true f left first (inr (none, inl nobody)) = none_first (unawaited_in places) f nobody first.2
some_next places true f left first (inr (none, inr (inl full))) = omega (arith, left, full)
some_next places true f left first (inr (none, inr (inr half))) = omega (arith, first.1, half)

pub next_taken : (candidate : PlaceCandidate) (result : Option PlaceCandidate) (before after : Places) → IsNext before (Some candidate) → IsNext before result → TakesNext result before after
    → IfSome result (λ c. HasPlaceLeft after) → IsTaken candidate.forward before after
next_taken candidate None before after next is taken left = absurd (some_next before candidate.background candidate.forward next.0 next.1 is)
next_taken candidate (Some other) before after next is taken left = record {
  left = left;
  fewer = taken.fewer;
  opened = opened_by_line other.background before after taken.only;
  lines = subst (λ f. KeepsInLine f before after) (first_is before other.background candidate.background other.forward candidate.forward is.1 next.1)
      (line_taken other.background other.forward before after taken.only taken.first);
}

-- ---- answers

pub when_refused : (result : Result Unit AllocError) (P : Type 0) → true ≡ is_err result → OnErr result P → P
when_refused (Ok done) P is then_so = absurd (true≢false is)
when_refused (Err refused) P is then_so = then_so

pub when_done : (result : Result Unit AllocError) (P : Type 0) → false ≡ is_err result → OnOk result P → P
when_done (Ok done) P is then_so = then_so
when_done (Err refused) P is then_so = absurd (true≢false (sym is))

-- ---- sums

pub within_min : (n sum most : ℕ) → n ≡ min sum most → n ≤ sum
within_min n sum most is = omega (arith, is)
