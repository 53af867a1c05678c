-- Numbers by a key, and the table of which they are numbers.
use Rattle.std.proofs.Common.{◌≡◌, ℕ, Bool, true, false, ◌&&◌, ◌||◌, cond, T, List, [], ◌∷◌, map, Option, Some, None, refl, sym, ap, ◌∙◌, subst}
use Rattle.std.specs.BTreeMap.{BTreeMap, Updates, is_at, get as kept_at}
use Rattle.std.specs.BTreeSet.{BTreeSet}
use Rattle.std.specs.Cmp.{nat_cmp_total}
use Rattle.std.specs.FinMap.{empty, entries, entries_sorted, get, insert, remove, get-empty, get-entries, get-insert, get-remove, get_tied}
use Rattle.std.specs.FinMap.Entries.{below_all, find, is_sorted}
use Rattle.std.specs.List.{AllByRecursion, filter}
use Rattle.std.specs.List.Sorted.{IsStrictlySortedBy}
use Rattle.std.specs.Ordering.{is_eq, is_lt, nat_cmp}
use Rattle.std.specs.declared.cmp.Ordering.{Ordering}
use Rattle.std.specs.declared.cmp.Ordering.TheVariants.{Less, Equal, Greater}
use Rattle.std.proofs.lemmas.Map.Lookups.{btree_set_from_contains, exact_unsigned}
use Rattle.hc_service.specs.State.{Table}
use Rattle.hc_open.specs.Groups.{AddsNumber, AreGrouped, AreNumbers, RemovesNumber, is_among, numbers_at, numbers_of, passes_at}
use Rattle.hc_open.proofs.TableLemmas.{equal_of, test_turned}

-- ---- a set that is left empty, and is taken out

pub emptied : {K : Type 0} (cmp : K → K → Ordering) (old mid new : BTreeMap K (BTreeSet ℕ)) (key : K) (number : ℕ) → RemovesNumber cmp old key number mid
    → ((q : K) → is_at (cmp key) q ≡ true → numbers_at cmp mid q ≡ []) → Updates cmp mid new key None → RemovesNumber cmp old key number new
emptied cmp old mid new key number removes none updates = record {
  there = λ q pass tied are.
      subst (λ (ns : List ℕ). AreNumbers ns (λ n. cond (is_at (nat_cmp number) n) false (pass n)))
      (none q tied ∙ sym (ap numbers_of (updates.0 q ∙ ap (λ (b : Bool). cond b None (kept_at cmp mid q)) tied)))
      (removes.there q pass tied are);
  others = λ q apart. ap numbers_of (updates.0 q ∙ ap (λ (b : Bool). cond b None (kept_at cmp mid q)) apart) ∙ removes.others q apart;
}

-- ---- one list of numbers, and another

pub same_numbers : (ks : List ℕ) (p q : ℕ → Bool) → ((n : ℕ) → p n ≡ q n) → AreNumbers ks p → AreNumbers ks q
same_numbers ks p q same are = record { rise = are.rise; are = λ n. are.are n ∙ same n }

-- those that pass are one list
pub one_list : (ks ls : List ℕ) (pass : ℕ → Bool) → AreNumbers ks pass → AreNumbers ls pass → ks ≡ ls
one_list ks ls pass a b = btree_set_from_contains nat_cmp_total (record { keys = ks }) (record { keys = ls }) a.rise b.rise (λ n. a.are n ∙ sym (b.are n)) exact_unsigned

pub no_numbers : (pass : ℕ → Bool) → ((n : ℕ) → pass n ≡ false) → AreNumbers [] pass
unfolding IsStrictlySortedBy
no_numbers pass none = record { rise = tt; are = λ n. sym (none n) }

-- ---- a table that changes

passes_if : {X : Type 0} (pass : X → Bool) (b : Bool) (x : X) (o : Option X) → passes_at pass (cond b (Some x) o) ≡ cond b (pass x) (passes_at pass o)
passes_if pass true x o = refl
passes_if pass false x o = refl

passes_unless : {X : Type 0} (pass : X → Bool) (b : Bool) (o : Option X) → passes_at pass (cond b None o) ≡ cond b false (passes_at pass o)
passes_unless pass true o = refl
passes_unless pass false o = refl

module _ {X : Type 0} (t : Table X) (n : ℕ) where
  pub passes_put : (pass : X → Bool) (x : X) (m : ℕ) → passes_at pass (get (insert t n x) m) ≡ cond (is_at (nat_cmp n) m) (pass x) (passes_at pass (get t m))
  passes_put pass x m =
      ap (passes_at pass) (get-insert nat_cmp_total t n x m ∙ ap (λ (b : Bool). cond b (Some x) (get t m)) (test_turned m n)) ∙ passes_if pass (is_at (nat_cmp n) m) x (get t m)

  pub passes_gone : (pass : X → Bool) (m : ℕ) → passes_at pass (get (remove t n) m) ≡ cond (is_at (nat_cmp n) m) false (passes_at pass (get t m))
  passes_gone pass m =
      ap (passes_at pass) (get-remove nat_cmp_total t n m ∙ ap (λ (b : Bool). cond b None (get t m)) (test_turned m n)) ∙ passes_unless pass (is_at (nat_cmp n) m) (get t m)

  -- what passes at a number that is tied passes there
  passes_there : (pass : X → Bool) (m : ℕ) → is_at (nat_cmp n) m ≡ true → passes_at pass (get t m) ≡ passes_at pass (get t n)
  passes_there pass m tied = ap (passes_at pass) (get_tied nat_cmp_total t n m (equal_of (nat_cmp n m) tied))

  -- where it was so already
  pub was_so : (pass : X → Bool) (b : Bool) (m : ℕ) → passes_at pass (get t n) ≡ b → passes_at pass (get t m) ≡ cond (is_at (nat_cmp n) m) b (passes_at pass (get t m))
  was_so pass b m was = by (is_at (nat_cmp n) m) refl
    where
      by : (c : Bool) → is_at (nat_cmp n) m ≡ c → passes_at pass (get t m) ≡ cond c b (passes_at pass (get t m))
      by true tied = passes_there pass m tied ∙ was
      by false apart = refl

module _ {K X : Type 0} (cmp : K → K → Ordering) (belongs : K → X → Bool) (old : BTreeMap K (BTreeSet ℕ)) (t : Table X) (n : ℕ) (are : AreGrouped cmp belongs old t) where
  belongs_same : (q key : K) → ((y : X) → belongs q y ≡ belongs key y) → (o : Option X) → passes_at (belongs key) o ≡ passes_at (belongs q) o
  belongs_same q key same None = refl
  belongs_same q key same (Some y) = sym (same y)

  -- what belongs to a key is put where nothing was
  pub grouped_put : (new : BTreeMap K (BTreeSet ℕ)) (key : K) (x : X) → get t n ≡ None → ((q : K) → belongs q x ≡ is_at (cmp key) q)
      → ((q : K) (y : X) → is_at (cmp key) q ≡ true → belongs q y ≡ belongs key y) → AddsNumber cmp old key n new → AreGrouped cmp belongs new (insert t n x)
  grouped_put new key x none its tied adds q = by (is_at (cmp key) q) refl
    where
      by : (b : Bool) → is_at (cmp key) q ≡ b → AreNumbers (numbers_at cmp new q) (λ m. passes_at (belongs q) (get (insert t n x) m))
      by true is = same_numbers _ _ _
          (λ m. ap (λ (b : Bool). cond (is_at (nat_cmp n) m) b (passes_at (belongs key) (get t m))) (sym (its q ∙ is))
          ∙ ap (cond (is_at (nat_cmp n) m) (belongs q x)) (belongs_same q key (λ y. tied q y is) (get t m)) ∙ sym (passes_put t n (belongs q) x m))
          (adds.there q _ is (are key))
      by false is = subst (λ (ns : List ℕ). AreNumbers ns (λ m. passes_at (belongs q) (get (insert t n x) m))) (sym (adds.others q is))
          (same_numbers _ _ _
          (λ m. was_so t n (belongs q) (belongs q x) m (ap (passes_at (belongs q)) none ∙ sym (its q ∙ is)) ∙ sym (passes_put t n (belongs q) x m)) (are q))

  -- what belongs to no key is
  pub grouped_past : (x : X) → get t n ≡ None → ((q : K) → belongs q x ≡ false) → AreGrouped cmp belongs old (insert t n x)
  grouped_past x none other q =
      same_numbers _ _ _ (λ m. was_so t n (belongs q) (belongs q x) m (ap (passes_at (belongs q)) none ∙ sym (other q)) ∙ sym (passes_put t n (belongs q) x m)) (are q)

  -- what belongs as what was there did
  pub grouped_same : (x y : X) → get t n ≡ Some x → ((q : K) → belongs q y ≡ belongs q x) → AreGrouped cmp belongs old (insert t n y)
  grouped_same x y there same q =
      same_numbers _ _ _ (λ m. was_so t n (belongs q) (belongs q y) m (ap (passes_at (belongs q)) there ∙ sym (same q)) ∙ sym (passes_put t n (belongs q) y m)) (are q)

  -- what belongs to a key is taken out
  pub grouped_gone : (new : BTreeMap K (BTreeSet ℕ)) (key : K) (x : X) → get t n ≡ Some x → ((q : K) → belongs q x ≡ is_at (cmp key) q)
      → ((q : K) (y : X) → is_at (cmp key) q ≡ true → belongs q y ≡ belongs key y) → RemovesNumber cmp old key n new → AreGrouped cmp belongs new (remove t n)
  grouped_gone new key x there its tied removes q = by (is_at (cmp key) q) refl
    where
      by : (b : Bool) → is_at (cmp key) q ≡ b → AreNumbers (numbers_at cmp new q) (λ m. passes_at (belongs q) (get (remove t n) m))
      by true is = same_numbers _ _ _
          (λ m. ap (cond (is_at (nat_cmp n) m) false) (belongs_same q key (λ y. tied q y is) (get t m)) ∙ sym (passes_gone t n (belongs q) m))
          (removes.there q _ is (are key))
      by false is = subst (λ (ns : List ℕ). AreNumbers ns (λ m. passes_at (belongs q) (get (remove t n) m))) (sym (removes.others q is))
          (same_numbers _ _ _ (λ m. was_so t n (belongs q) false m (ap (passes_at (belongs q)) there ∙ its q ∙ is) ∙ sym (passes_gone t n (belongs q) m)) (are q))

  -- what belongs to no key is
  pub grouped_left : (x : X) → get t n ≡ Some x → ((q : K) → belongs q x ≡ false) → AreGrouped cmp belongs old (remove t n)
  grouped_left x there other q =
      same_numbers _ _ _ (λ m. was_so t n (belongs q) false m (ap (passes_at (belongs q)) there ∙ other q) ∙ sym (passes_gone t n (belongs q) m)) (are q)

-- nothing belongs to a key of a table of nothing
pub grouped_empty : {K X : Type 0} (cmp : K → K → Ordering) (belongs : K → X → Bool) (sets : BTreeMap K (BTreeSet ℕ)) → ((q : K) → numbers_at cmp sets q ≡ [])
    → AreGrouped cmp belongs sets empty
grouped_empty {X = X} cmp belongs sets none q =
    subst (λ (ns : List ℕ). AreNumbers ns (λ m. passes_at (belongs q) (get (empty {X = X} {R = nat_cmp}) m))) (sym (none q))
    (no_numbers _ (λ m. ap (passes_at (belongs q)) (get-empty nat_cmp m)))

-- ---- the numbers of a table at which something passes

less_of : (o : Ordering) → is_lt o ≡ true → o ≡ Less
less_of Less t = refl
less_of Equal t = absurd (cc)
less_of Greater t = absurd (cc)

not_tied : (o : Ordering) → o ≡ Less → is_eq o ≡ false
not_tied o is = ap is_eq is

is_true : (b : Bool) → T b → b ≡ true
is_true true t = refl
is_true false t = absurd t

both_parts : (a b : Bool) → (a && b) ≡ true → (a ≡ true) × (b ≡ true)
both_parts true b t = (refl, t)
both_parts false b t = absurd (cc)

module _ {X : Type 0} where
  -- nothing stands at a number below all
  none_below : (n : ℕ) (es : List (ℕ × X)) → below_all nat_cmp n es ≡ true → find nat_cmp n es ≡ None
  none_below n [] below = refl
  none_below n (e ∷ es) below =
      let parts = both_parts (is_lt (nat_cmp n e.0)) (below_all nat_cmp n es) below in
      ap (λ (b : Bool). cond b (Some e.1) (find nat_cmp n es)) (not_tied (nat_cmp n e.0) (less_of (nat_cmp n e.0) parts.0)) ∙ none_below n es parts.1

  module _ (pass : X → Bool) where
    abbrev pub numbers_where : List (ℕ × X) → List ℕ
    numbers_where es = map (λ e. e.0) (filter (λ e. pass e.1) es)

    above : (n : ℕ) (es : List (ℕ × X)) → below_all nat_cmp n es ≡ true → AllByRecursion (λ m. nat_cmp n m ≡ Less) (numbers_where es)
    above n [] below = tt
    above n (e ∷ es) below =
        let parts = both_parts (is_lt (nat_cmp n e.0)) (below_all nat_cmp n es) below in
        by (pass e.1) (less_of (nat_cmp n e.0) parts.0) (above n es parts.1)
      where
        by : (b : Bool) → nat_cmp n e.0 ≡ Less → AllByRecursion (λ m. nat_cmp n m ≡ Less) (numbers_where es)
            → AllByRecursion (λ m. nat_cmp n m ≡ Less) (map (λ e. e.0) (cond b (e ∷ filter (λ e. pass e.1) es) (filter (λ e. pass e.1) es)))
        by true less rest = (less, rest)
        by false less rest = rest

    where_rise : (es : List (ℕ × X)) → is_sorted nat_cmp es ≡ true → IsStrictlySortedBy nat_cmp (numbers_where es)
    unfolding IsStrictlySortedBy
    where_rise [] sorted = tt
    where_rise (e ∷ es) sorted =
        let parts = both_parts (below_all nat_cmp e.0 es) (is_sorted nat_cmp es) sorted in
        by (pass e.1) (above e.0 es parts.0) (where_rise es parts.1)
      where
        by : (b : Bool) → AllByRecursion (λ m. nat_cmp e.0 m ≡ Less) (numbers_where es) → IsStrictlySortedBy nat_cmp (numbers_where es)
            → IsStrictlySortedBy nat_cmp (map (λ e. e.0) (cond b (e ∷ filter (λ e. pass e.1) es) (filter (λ e. pass e.1) es)))
        by true less rest = (less, rest)
        by false less rest = rest

    where_are : (es : List (ℕ × X)) → is_sorted nat_cmp es ≡ true → (n : ℕ) → is_among (numbers_where es) n ≡ passes_at pass (find nat_cmp n es)
    where_are [] sorted n = refl
    where_are (e ∷ es) sorted n =
        let parts = both_parts (below_all nat_cmp e.0 es) (is_sorted nat_cmp es) sorted in
        let rest = where_are es parts.1 n in
        by (is_at (nat_cmp n) e.0) (pass e.1) refl refl rest
        (λ tied. ap (λ (m : ℕ). find nat_cmp m es) (exact_unsigned n e.0 (equal_of (nat_cmp n e.0) tied)) ∙ none_below e.0 es parts.0)
      where
        or_false : (b : Bool) → b ≡ false → (true || b) ≡ true
        or_false b f = refl

        by : (b c : Bool) → is_at (nat_cmp n) e.0 ≡ b → pass e.1 ≡ c → is_among (numbers_where es) n ≡ passes_at pass (find nat_cmp n es)
            → (is_at (nat_cmp n) e.0 ≡ true → find nat_cmp n es ≡ None)
            → is_among (map (λ e. e.0) (cond c (e ∷ filter (λ e. pass e.1) es) (filter (λ e. pass e.1) es))) n ≡ passes_at pass (cond b (Some e.1) (find nat_cmp n es))
        by true true tied passes rest none = ap (λ (b : Bool). b || is_among (numbers_where es) n) tied ∙ sym passes
        by true false tied passes rest none = rest ∙ ap (passes_at pass) (none tied) ∙ sym passes
        by false true apart passes rest none = ap (λ (b : Bool). b || is_among (numbers_where es) n) apart ∙ rest
        by false false apart passes rest none = rest

    pub are_where : (t : Table X) → AreNumbers (numbers_where (entries t)) (λ n. passes_at pass (get t n))
    are_where t = record {
      rise = where_rise (entries t) (is_true _ (entries_sorted t));
      are = λ n. where_are (entries t) (is_true _ (entries_sorted t)) n ∙ ap (passes_at pass) (sym (get-entries t n));
    }
