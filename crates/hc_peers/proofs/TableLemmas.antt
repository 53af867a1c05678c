-- An entry of a table of links changes, and what passed at all other links stays.
use Rattle.std.proofs.Common.{◌≡◌, ℕ, ◌==◌, Bool, true, false, cond, List, Option, Some, None, IsSome, refl, sym, ap, ◌∙◌, subst, arith}
use Rattle.std.proofs.lemmas.Bool.Decides.{nat_tests}
use Rattle.std.specs.BTreeMap.{BTreeMap, Updates, WritesThrough, get, is_at}
use Rattle.std.specs.Cmp.{unsigned_tied}
use Rattle.std.specs.Ordering.{nat_cmp}
use Rattle.hc_order.specs.declared.receiver.Receiver.{Receiver}
use Rattle.hc_order.specs.Log.{Move}
use Rattle.hc_order.specs.Passages.{Passage, passage_of}
use Rattle.hc_peers.specs.Tables.{AreAt, KeepsOthers}

pub same_number : (k n : ℕ) → (k == n) ≡ true → k ≡ n
same_number k n e = grind (arith, nat_tests, e)

same_passage : (b : Bool) (passage : Passage) → passage ≡ cond b passage passage
same_passage true passage = refl
same_passage false passage = refl

-- ---- how a table changes

module _ {V : Type 0} where
  tied : (table : BTreeMap ℕ V) (k n : ℕ) (perhaps : Option V) → cond (is_at (nat_cmp k) n) perhaps (get nat_cmp table n) ≡ cond (k == n) perhaps (get nat_cmp table n)
  tied table k n perhaps = ap (λ (b : Bool). cond b perhaps (get nat_cmp table n)) (unsigned_tied k n)

  -- one that is put in its place, or taken out
  pub put : (table table' : BTreeMap ℕ V) (k : ℕ) (perhaps : Option V) → Updates nat_cmp table table' k perhaps → (n : ℕ) → get nat_cmp table' n ≡ cond (k == n) perhaps (get nat_cmp table n)
  put table table' k perhaps updates n = updates.0 n ∙ tied table k n perhaps

-- ---- and what is kept of each link

module _ {V : Type 0} (Is : Option V → Passage → Type 0) (link : ℕ → Receiver) where
  -- what is kept of the link k, if anything is
  pub at_number : (table : BTreeMap ℕ V) (k : ℕ) (perhaps : Option V) → get nat_cmp table k ≡ perhaps → (log : List Move) → AreAt Is link table log → Is perhaps (passage_of (link k) log)
  at_number table k perhaps there log are = subst (λ (o : Option V). Is o (passage_of (link k) log)) there (are k)

  at_one : (b : Bool) (changed before : Passage) (perhaps there : Option V) → (b ≡ true → Is perhaps changed) → Is there before → Is (cond b perhaps there) (cond b changed before)
  at_one true changed before perhaps there its is = its refl
  at_one false changed before perhaps there its is = is

  module _ (table table' : BTreeMap ℕ V) (k : ℕ) (perhaps : Option V) (now : (n : ℕ) → get nat_cmp table' n ≡ cond (k == n) perhaps (get nat_cmp table n)) where
    -- a move of that link alone
    pub moved : (log log' : List Move) (change : Passage → Passage) → ((n : ℕ) → passage_of (link n) log' ≡ cond (k == n) (change (passage_of (link n) log)) (passage_of (link n) log))
        → Is perhaps (change (passage_of (link k) log)) → AreAt Is link table log → AreAt Is link table' log'
    moved log log' change passed its are n =
        subst (λ (o : Option V). Is o (passage_of (link n) log')) (sym (now n))
        (subst (Is (cond (k == n) perhaps (get nat_cmp table n))) (sym (passed n))
        (at_one (k == n) (change (passage_of (link n) log)) (passage_of (link n) log) perhaps (get nat_cmp table n)
        (λ same. subst (λ (m : ℕ). Is perhaps (change (passage_of (link m) log))) (same_number k n same) its) (are n)))

    -- no move
    pub stayed : (log : List Move) → Is perhaps (passage_of (link k) log) → AreAt Is link table log → AreAt Is link table' log
    stayed log its are = moved log log (λ passage. passage) (λ n. same_passage (k == n) (passage_of (link n) log)) its are

-- ---- one that is lent, and written to

module _ {V : Type 0} (Is : Option V → Passage → Type 0) (table table' : BTreeMap ℕ V) (k : ℕ) (value value' : V) (there : Some value ≡ get nat_cmp table k) (wrote : WritesThrough nat_cmp (nat_cmp k) table value' table') where
  pub lent : (n : ℕ) → get nat_cmp table' n ≡ cond (k == n) (Some value') (get nat_cmp table n)
  lent = put table table' k (Some value') (wrote.3 (subst IsSome there refl))

  -- no move
  pub lent_stays : (link : ℕ → Receiver) → ((passage : Passage) → Is (Some value) passage → Is (Some value') passage) → (log : List Move) → AreAt Is link table log → AreAt Is link table' log
  lent_stays link keeps log are = stayed Is link table table' k (Some value') lent log (keeps (passage_of (link k) log) (at_number Is link table k (Some value) (sym there) log are)) are

-- all others are as they were
pub lent_others : {V : Type 0} (table table' : BTreeMap ℕ V) (k : ℕ) (value value' : V) → Some value ≡ get nat_cmp table k → WritesThrough nat_cmp (nat_cmp k) table value' table' → KeepsOthers k table table'
lent_others table table' k value value' there wrote n differ =
    (wrote.3 (subst IsSome there refl)).0 n ∙ ap (λ (b : Bool). cond b (Some value') (get nat_cmp table n)) differ

same_is : (k : ℕ) → (k == k) ≡ true
same_is k = grind (arith, nat_tests)

-- there it is as it was written
pub lent_at : {V : Type 0} (table table' : BTreeMap ℕ V) (k : ℕ) (value value' : V) → Some value ≡ get nat_cmp table k → WritesThrough nat_cmp (nat_cmp k) table value' table' → get nat_cmp table' k ≡ Some value'
lent_at table table' k value value' there wrote =
    put table table' k (Some value') (wrote.3 (subst IsSome there refl)) k ∙ ap (λ (b : Bool). cond b (Some value') (get nat_cmp table k)) (same_is k)

-- what was taken out is there no more
pub taken_at : {V : Type 0} (table table' : BTreeMap ℕ V) (k : ℕ) → Updates nat_cmp table table' k None → get nat_cmp table' k ≡ None
taken_at table table' k updates = put table table' k None updates k ∙ ap (λ (b : Bool). cond b None (get nat_cmp table k)) (same_is k)
