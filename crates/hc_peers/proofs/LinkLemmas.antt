-- Which forwards have links.
use Rattle.std.proofs.Common.{◌≡◌, ℕ, ◌==◌, Bool, true, false, cond, Option, Some, None, IsSome, refl, ap, subst}
use Rattle.std.specs.BTreeMap.{BTreeMap, Updates, WritesThrough, get}
use Rattle.std.specs.Ordering.{nat_cmp}
use Rattle.hc_peers.proofs.TableLemmas.{put, same_number}
use Rattle.hc_order.specs.declared.occurrence.Reason.{Reason}
use Rattle.hc_peers.specs.declared.forward.Forward.{Forward}
use Rattle.hc_peers.specs.declared.forward.Reaching.{Reaching}
use Rattle.hc_peers.specs.declared.forward.Reaching.TheVariants.{Lost}
use Rattle.hc_peers.specs.Forwards.{has_link, is_linked_at}

never : {P : Type 0} (b : Bool) → b ≡ false → b ≡ true → P
never true is other = absurd (cc)
never false is other = absurd (cc)

module _ {S : Type 0} where
  at_one : (b : Bool) (perhaps there : Option (Forward S)) → (b ≡ true → is_linked_at perhaps ≡ true → is_linked_at there ≡ true) → is_linked_at (cond b perhaps there) ≡ true
      → is_linked_at there ≡ true
  at_one true perhaps there keeps linked = keeps refl linked
  at_one false perhaps there keeps linked = linked

  module _ (table table' : BTreeMap ℕ (Forward S)) (k : ℕ) where
    -- one changes, and gains no link
    changed : (perhaps : Option (Forward S)) → ((n : ℕ) → get nat_cmp table' n ≡ cond (k == n) perhaps (get nat_cmp table n))
        → (is_linked_at perhaps ≡ true → is_linked_at (get nat_cmp table k) ≡ true)
        → (f : ℕ) → is_linked_at (get nat_cmp table' f) ≡ true → is_linked_at (get nat_cmp table f) ≡ true
    changed perhaps now keeps f linked =
        at_one (k == f) perhaps (get nat_cmp table f)
        (λ same its. subst (λ (n : ℕ). is_linked_at (get nat_cmp table n) ≡ true) (same_number k f same) (keeps its))
        (subst (λ (o : Option (Forward S)). is_linked_at o ≡ true) (now f) linked)

    -- one without a link is put in its place
    pub put_unlinked : (value : Forward S) → has_link value.reaching ≡ false → Updates nat_cmp table table' k (Some value)
        → (f : ℕ) → is_linked_at (get nat_cmp table' f) ≡ true → is_linked_at (get nat_cmp table f) ≡ true
    put_unlinked value unlinked updates = changed (Some value) (put table table' k (Some value) updates) (never (has_link value.reaching) unlinked)

    -- one is taken out
    pub taken_out : Updates nat_cmp table table' k None → (f : ℕ) → is_linked_at (get nat_cmp table' f) ≡ true → is_linked_at (get nat_cmp table f) ≡ true
    taken_out updates = changed None (put table table' k None updates) (never false refl)

    -- one is lent, and written to
    pub lent_unlinked : (value value' : Forward S) → Some value ≡ get nat_cmp table k → WritesThrough nat_cmp (nat_cmp k) table value' table'
        → (has_link value'.reaching ≡ true → has_link value.reaching ≡ true)
        → (f : ℕ) → is_linked_at (get nat_cmp table' f) ≡ true → is_linked_at (get nat_cmp table f) ≡ true
    lent_unlinked value value' there wrote keeps =
        changed (Some value') (put table table' k (Some value') (wrote.3 (subst IsSome there refl)))
        (λ linked. subst (λ (o : Option (Forward S)). is_linked_at o ≡ true) there (keeps linked))

-- where the link is lost there is none
pub lost_unlinked : {S : Type 0} (reaching : Reaching S) (reason : Reason) → reaching ≡ Lost reason → (before : Bool) → has_link reaching ≡ true → before ≡ true
lost_unlinked reaching reason lost before = never (has_link reaching) (ap has_link lost)
