-- The exchanges that are open, those among them that wait for a forward, and the least forward that may be waited for.
use Rattle.std.proofs.Common.{◌≡◌, ℕ, ◌+◌, ◌<◌, ◌≤◌, ◌==◌, Bool, true, false, ◌&&◌, ◌||◌, cond, nat_lt, List, [], ◌∷◌, length, Option, Some, None, refl, sym, ap, ◌∙◌, subst, arith}
use Rattle.std.proofs.lemmas.Bool.Decides.{nat_tests}
use Rattle.std.proofs.Common.{Result, OnOk, Ok, Err}
use Rattle.std.specs.BTreeMap.{BTreeMap, Updates, btree_map_len, is_at, get as kept_at}
use Rattle.std.specs.BTreeSet.{BTreeSet}
use Rattle.std.specs.FinMap.{get, insert, remove}
use Rattle.std.specs.List.{AllByRecursion, find}
use Rattle.std.specs.List.Sorted.{IsStrictlySortedBy}
use Rattle.std.specs.Option.{is_some, option_map}
use Rattle.std.specs.Ordering.{nat_cmp}
use Rattle.std.specs.declared.cmp.Ordering.TheVariants.{Less}
use Rattle.std.proofs.lemmas.Map.Lookups.{exact_unsigned}
use Rattle.hc_head.specs.declared.head.Target.{Target}
use Rattle.hc_head.specs.Targets.{same_target}
use Rattle.hc_service.specs.declared.open.OpenExchange.{OpenExchange}
use Rattle.hc_service.specs.Joining.{IsLeast, MayJoin, may_be_joined, most_waiting, waiting_for, waits_for}
use Rattle.hc_service.specs.State.{Awaited, OpenNow, Table}
use Rattle.hc_open.specs.declared.open_exchanges.OpenExchanges.{OpenExchanges}
use Rattle.hc_open.specs.Groups.{AddsNumber, AreGrouped, AreNumbers, RemovesNumber, is_among, numbers_at, passes_at}
use Rattle.hc_open.specs.Links.{AreExchanges, TakesExchange, by_target, has_place_at, is_joinable_for, waits_at}
use Rattle.hc_open.specs.Tables.{AreAlike, IsSame}
use Rattle.hc_open.proofs.GroupLemmas.{are_where, grouped_gone, grouped_left, grouped_past, grouped_put, one_list}
use Rattle.hc_open.proofs.TableLemmas.{alike_put, alike_taken, equal_of, found, get_gone, gone_same, put_back, test_same}

-- ---- who waits for which forward

nat_test : (f q : ℕ) → (f == q) ≡ is_at (nat_cmp f) q
nat_test f q = grind (arith, nat_tests)

module _ (m : BTreeMap ℕ (BTreeSet ℕ)) (xs : Table OpenExchange) (e : ℕ) (x : OpenExchange) (are : AreGrouped nat_cmp waits_at m xs) where
  alone : x.waits_for ≡ None → (q : ℕ) → waits_at q x ≡ false
  alone none q = ap (waits_for q) none

  for_one : (f : ℕ) → x.waits_for ≡ Some f → (q : ℕ) → waits_at q x ≡ is_at (nat_cmp f) q
  for_one f is q = ap (waits_for q) is ∙ nat_test f q

  one_key : (f q : ℕ) (y : OpenExchange) → is_at (nat_cmp f) q ≡ true → waits_at q y ≡ waits_at f y
  one_key f q y tied = ap (λ (n : ℕ). waits_at n y) (sym (exact_unsigned f q (equal_of (nat_cmp f q) tied)))

  pub one_gone_alone : get xs e ≡ Some x → x.waits_for ≡ None → AreGrouped nat_cmp waits_at m (remove xs e)
  one_gone_alone there none = grouped_left nat_cmp waits_at m xs e are x there (alone none)

  pub one_gone : (n : BTreeMap ℕ (BTreeSet ℕ)) (f : ℕ) → get xs e ≡ Some x → x.waits_for ≡ Some f → RemovesNumber nat_cmp m f e n → AreGrouped nat_cmp waits_at n (remove xs e)
  one_gone n f there waits removes = grouped_gone nat_cmp waits_at m xs e are n f x there (for_one f waits) (one_key f) removes

  pub one_put_alone : get xs e ≡ None → x.waits_for ≡ None → AreGrouped nat_cmp waits_at m (insert xs e x)
  one_put_alone absent none = grouped_past nat_cmp waits_at m xs e are x absent (alone none)

  pub one_put : (n : BTreeMap ℕ (BTreeSet ℕ)) (f : ℕ) → get xs e ≡ None → x.waits_for ≡ Some f → AddsNumber nat_cmp m f e n → AreGrouped nat_cmp waits_at n (insert xs e x)
  one_put n f absent waits adds = grouped_put nat_cmp waits_at m xs e are n f x absent (for_one f waits) (one_key f) adds

-- those that are known by the number of a forward are those that wait for it
pub waiting_are : (m : BTreeMap ℕ (BTreeSet ℕ)) (xs : Table OpenExchange) (f : ℕ) → AreGrouped nat_cmp waits_at m xs → numbers_at nat_cmp m f ≡ waiting_for f xs
waiting_are m xs f are = one_list _ _ _ (are f) (are_where (waits_at f) xs)

-- ---- an exchange is taken out, or opens

module _ (kept : OpenExchanges) (xs : Table OpenExchange) (e : ℕ) where
  pub takes_exchange : (x : OpenExchange) (by_number : BTreeMap ℕ OpenExchange) (new : OpenExchanges) → AreExchanges kept xs → kept_at nat_cmp kept.by_number e ≡ Some x
      → Updates nat_cmp kept.by_number by_number e None → Some x ≡ kept_at nat_cmp kept.by_number e
      → btree_map_len by_number + cond (is_some (Some x)) 1 0 ≡ btree_map_len kept.by_number → new.by_number ≡ by_number
      → ((table : Table OpenExchange) (y : OpenExchange) → AreGrouped nat_cmp waits_at kept.waiting.sets table → get table e ≡ Some y → y.waits_for ≡ x.waits_for
      → AreGrouped nat_cmp waits_at new.waiting.sets (remove table e))
      → TakesExchange e (Some x) xs new
  takes_exchange x by_number new are there updates old-is len by_number-is forgets =
      let y = found IsSame _ _ x (are.by_number.at e) there in (
        y.1 ∙ ap Some (sym y.2),
        record {
          by_number = subst (λ (m : BTreeMap ℕ OpenExchange). AreAlike IsSame m (remove xs e)) (sym by_number-is)
              (alike_taken IsSame kept.by_number by_number xs e (Some x) are.by_number updates old-is len);
          waiting = forgets xs y.0 are.waiting y.1 (ap (λ (z : OpenExchange). z.waits_for) (sym y.2));
        },
      )

-- none is there then
pub exchange_left : (xs : Table OpenExchange) (e : ℕ) (kept : OpenExchanges) (o : Option OpenExchange) → TakesExchange e o xs kept → AreExchanges kept (remove xs e)
exchange_left xs e kept None taken = subst (AreExchanges kept) (sym (gone_same xs e taken.0)) taken.1
exchange_left xs e kept (Some x) taken = taken.1

pub puts_exchange : (taken noted : OpenExchanges) (xs : Table OpenExchange) (e : ℕ) (x : OpenExchange) (o : Option OpenExchange) (by_number : BTreeMap ℕ OpenExchange) (old : Option OpenExchange)
    → TakesExchange e o xs taken → noted.by_number ≡ taken.by_number
    → ((table : Table OpenExchange) (y : OpenExchange) → AreGrouped nat_cmp waits_at taken.waiting.sets table → get table e ≡ None → y.waits_for ≡ x.waits_for
    → AreGrouped nat_cmp waits_at noted.waiting.sets (insert table e y))
    → Updates nat_cmp noted.by_number by_number e (Some x) → old ≡ kept_at nat_cmp noted.by_number e
    → btree_map_len by_number ≡ btree_map_len noted.by_number + cond (is_some old) 0 1
    → AreExchanges (record { by_number = by_number; waiting = noted.waiting }) (insert xs e x)
puts_exchange taken noted xs e x o by_number old takes by_number-is notes updates old-is len =
    let left = exchange_left xs e taken o takes in record {
      by_number = subst (AreAlike IsSame by_number) (put_back xs e x)
          (alike_put IsSame noted.by_number by_number (remove xs e) e x x old
          (subst (λ (m : BTreeMap ℕ OpenExchange). AreAlike IsSame m (remove xs e)) (sym by_number-is) left.by_number) refl updates old-is len);
      waiting = subst (AreGrouped nat_cmp waits_at noted.waiting.sets) (put_back xs e x) (notes (remove xs e) x left.waiting (get_gone xs e) refl);
    }

-- ---- what an answer tells

pub on_ok : {X E : Type 0} {A B : Type 0} (r : Result X E) → (A → B) → OnOk r A → OnOk r B
on_ok (Ok x) f a = f a
on_ok (Err x) f a = tt

pub with_both : {X E : Type 0} {A : Type 0} (B : Type 0) (r : Result X E) → A → OnOk r B → OnOk r (A × B)
with_both B (Ok x) a b = (a, b)
with_both B (Err x) a b = tt

pub mapped_itself : (o : Option ℕ) → option_map (λ x. x) o ≡ o
mapped_itself None = refl
mapped_itself (Some n) = refl

-- ---- the first that passes of numbers that rise is the least

abbrev IsFirst : (ℕ → Bool) → List ℕ → Option ℕ → Type 0
IsFirst test ks None = (g : ℕ) → is_among ks g ≡ true → test g ≡ false
IsFirst test ks (Some f) = (is_among ks f ≡ true) × (test f ≡ true) × ((g : ℕ) → is_among ks g ≡ true → test g ≡ true → f ≤ g)

no_less : (k g : ℕ) → nat_cmp k g ≡ Less → k ≤ g
no_less k g less = grind (arith, nat_tests)

pub itself : (k : ℕ) (b : Bool) → (is_at (nat_cmp k) k || b) ≡ true
itself k b = ap (λ (c : Bool). c || b) (test_same k)

above_all : (k g : ℕ) (ks : List ℕ) → AllByRecursion (λ m. nat_cmp k m ≡ Less) ks → is_among ks g ≡ true → k ≤ g
above_all k g [] all there = absurd (cc)
above_all k g (m ∷ ks) all there = by (is_at (nat_cmp g) m) refl there (above_all k g ks all.1)
  where
    by : (b : Bool) → is_at (nat_cmp g) m ≡ b → (b || is_among ks g) ≡ true → (is_among ks g ≡ true → k ≤ g) → k ≤ g
    by true tied more rest = subst (λ (n : ℕ). k ≤ n) (sym (exact_unsigned g m (equal_of (nat_cmp g m) tied))) (no_less k m all.0)
    by false apart more rest = rest more

module _ (test : ℕ → Bool) (k : ℕ) (ks : List ℕ) (above : AllByRecursion (λ m. nat_cmp k m ≡ Less) ks) where
  least_of_all : (g : ℕ) → is_among (k ∷ ks) g ≡ true → k ≤ g
  least_of_all g there = at (is_at (nat_cmp g) k) refl there
    where
      at : (b : Bool) → is_at (nat_cmp g) k ≡ b → (b || is_among ks g) ≡ true → k ≤ g
      at true tied more = let same = exact_unsigned g k (equal_of (nat_cmp g k) tied) in omega (arith, same)
      at false apart more = above_all k g ks above more

  true_not_false : true ≡ false → ⊥
  true_not_false e = cc

  -- what passes is not the first, which doesn't
  later : (g : ℕ) → test k ≡ false → is_among (k ∷ ks) g ≡ true → test g ≡ true → is_among ks g ≡ true
  later g fails there passes = at (is_at (nat_cmp g) k) refl there
    where
      at : (b : Bool) → is_at (nat_cmp g) k ≡ b → (b || is_among ks g) ≡ true → is_among ks g ≡ true
      at true tied more = absurd (true_not_false (sym passes ∙ ap test (exact_unsigned g k (equal_of (nat_cmp g k) tied)) ∙ fails))
      at false apart more = more

  or_right : (b c : Bool) → c ≡ true → (b || c) ≡ true
  or_right true c t = refl
  or_right false c t = t

  fails_by : (b : Bool) (g : ℕ) → test g ≡ b → test k ≡ false → is_among (k ∷ ks) g ≡ true → (is_among ks g ≡ true → test g ≡ false) → b ≡ false
  fails_by true g passes fails there none = sym passes ∙ none (later g fails there passes)
  fails_by false g passes fails there none = refl

  past : (o : Option ℕ) → test k ≡ false → IsFirst test ks o → IsFirst test (k ∷ ks) o
  past None fails none = λ g there. fails_by (test g) g refl fails there (none g)
  past (Some f) fails one =
      (or_right (is_at (nat_cmp f) k) (is_among ks f) one.0, one.1, λ g there passes. one.2 g (later g fails there passes) passes)

  first_by : (b : Bool) → test k ≡ b → IsFirst test ks (find test ks) → IsFirst test (k ∷ ks) (cond b (Some k) (find test ks))
  first_by true passes rest = (itself k (is_among ks k), passes, λ g there _. least_of_all g there)
  first_by false fails rest = past (find test ks) fails rest

first_is : (test : ℕ → Bool) (ks : List ℕ) → IsStrictlySortedBy nat_cmp ks → IsFirst test ks (find test ks)
unfolding IsStrictlySortedBy
first_is test [] rise = λ g there. absurd (cc)
first_is test (k ∷ ks) rise = first_by test k ks rise.0 (test k) refl (first_is test ks rise.1)

-- ---- the least forward that a request may wait for

both_true : (a b : Bool) → (a && b) ≡ true → (a ≡ true) × (b ≡ true)
both_true true b t = (refl, t)
both_true false b t = absurd (cc)

and_true : (a b : Bool) → a ≡ true → b ≡ true → (a && b) ≡ true
and_true true b t u = u
and_true false b t u = absurd (cc)

less_tested : (m n : ℕ) → nat_lt m n ≡ true → m < n
less_tested m n is = grind (arith, nat_tests)

less_test : (m n : ℕ) → m < n → nat_lt m n ≡ true
less_test m n less = grind (arith, nat_tests)

module _ (target : Target) (underway : OpenNow) where
  -- it may be waited for where it is one for the target, and has a place
  may_join : (f : ℕ) (o : Option Awaited) → get underway.forwards f ≡ o → passes_at (is_joinable_for target) o ≡ true → has_place_at underway.exchanges f ≡ true
      → MayJoin target underway f
  may_join f None is for_it place = absurd (cc)
  may_join f (Some a) is for_it place =
      let tests = both_true (may_be_joined a.forward.purpose) (same_target a.forward.target target) for_it in record {
        awaited = a;
        is_open = is;
        same = tests.1;
        may_be = tests.0;
        has_place = less_tested (length (waiting_for f underway.exchanges)) most_waiting place;
      }

  is_for_target : (f : ℕ) → MayJoin target underway f → passes_at (is_joinable_for target) (get underway.forwards f) ≡ true
  is_for_target f may =
      ap (passes_at (is_joinable_for target)) may.is_open
      ∙ and_true (may_be_joined may.awaited.forward.purpose) (same_target may.awaited.forward.target target) may.may_be may.same

  its_place : (f : ℕ) → MayJoin target underway f → has_place_at underway.exchanges f ≡ true
  its_place f may = less_test (length (waiting_for f underway.exchanges)) most_waiting may.has_place

  true_false : true ≡ false → ⊥
  true_false e = cc

  least_by : (ks : List ℕ) → AreNumbers ks (λ n. passes_at (is_joinable_for target) (get underway.forwards n)) → (o : Option ℕ)
      → IsFirst (has_place_at underway.exchanges) ks o → IsLeast target underway o
  least_by ks are None none = λ f may. true_false (sym (its_place f may) ∙ none f (are.are f ∙ is_for_target f may))
  least_by ks are (Some f) one = (
    may_join f (get underway.forwards f) refl (sym (are.are f) ∙ one.0) one.1,
    λ g may. one.2 g (are.are g ∙ is_for_target g may) (its_place g may),
  )

  pub first_is_least : (ks : List ℕ) (o : Option ℕ) → AreNumbers ks (λ n. passes_at (is_joinable_for target) (get underway.forwards n))
      → o ≡ find (has_place_at underway.exchanges) ks → IsLeast target underway o
  first_is_least ks o are is =
      subst (IsLeast target underway) (sym is)
      (least_by ks are (find (has_place_at underway.exchanges) ks) (first_is (has_place_at underway.exchanges) ks are.rise))

  -- there is none where none is of the target
  pub none_is_least : (m : BTreeMap Target (BTreeSet ℕ)) → AreGrouped by_target is_joinable_for m underway.forwards → numbers_at by_target m target ≡ [] → IsLeast target underway None
  none_is_least m are none =
      first_is_least [] None (subst (λ (ks : List ℕ). AreNumbers ks (λ n. passes_at (is_joinable_for target) (get underway.forwards n))) none (are target)) refl
