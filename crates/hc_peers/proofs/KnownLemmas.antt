-- What is known of clients, behind what one of them is lent and written to.
use Rattle.std.proofs.Common.{◌≡◌, ℕ, ◌==◌, Bool, true, false, cond, Some, IsSome, option_map, refl, ap, ◌∙◌, subst}
use Rattle.std.specs.BTreeMap.{BTreeMap, WritesThrough, get}
use Rattle.std.specs.Ordering.{nat_cmp}
use Rattle.hc_peers.specs.declared.client.Client.{Client}
use Rattle.hc_peers.specs.Known.{KeepsKnown, known_at, unqueued}
use Rattle.hc_peers.proofs.TableLemmas.{put, same_number}

module _ {S : Type 0} (table table' : BTreeMap ℕ (Client S)) (k : ℕ) (value value' : Client S) (there : Some value ≡ get nat_cmp table k) (wrote : WritesThrough nat_cmp (nat_cmp k) table value' table') where
  at_one : (b : Bool) (n : ℕ) → (k == n) ≡ b → unqueued value' ≡ unqueued value → option_map unqueued (cond b (Some value') (get nat_cmp table n)) ≡ known_at n table
  at_one true n is same =
      ap Some same ∙ ap (option_map unqueued) there ∙ ap (λ (m : ℕ). known_at m table) (same_number k n is)
  at_one false n is same = refl

  -- it is known as it was
  pub lent_known : unqueued value' ≡ unqueued value → KeepsKnown table table'
  lent_known same n =
      ap (option_map unqueued) (put table table' k (Some value') (wrote.3 (subst IsSome there refl)) n) ∙ at_one (k == n) n refl same
