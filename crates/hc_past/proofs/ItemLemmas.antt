-- What is said of a record, by the item that it is seen to be.
use Rattle.std.proofs.Common.{◌≡◌, ℕ, subst, sym}
use Rattle.hc_transcript.specs.Items.{Item}

-- what is said of an item at a position says the same of what it is
pub by_place : (P : ℕ → Item → Type 0) (Q : Item → Type 0) (p q : ℕ) (item shape : Item) → p ≡ q → item ≡ shape → (P q shape → Q shape) → P p item → Q item
by_place P Q p q item shape at is so said =
    subst Q (sym is) (so (subst (λ (i : Item). P q i) is (subst (λ (n : ℕ). P n item) at said)))
