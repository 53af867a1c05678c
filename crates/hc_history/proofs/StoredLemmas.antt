-- Whether a reply that went forward carries a stored response, by how many filters one passes.
use Rattle.std.proofs.Common.{◌≡◌, ℕ, ◌≤◌, ◌<◌, Bool, true, false, List, sym, subst, arith, ◌⊎◌, inl, inr}
use Rattle.hc_transcript.specs.Items.{Item}
use Rattle.hc_history.specs.declared.among.Among.TheVariants.{Any, Recent}
use Rattle.hc_history.specs.Claims.{Claim}
use Rattle.hc_history.specs.Furthest.{furthest}
use Rattle.hc_history.specs.Reused.{forwarded_count, filter_count}
use Rattle.hc_history.specs.Right.{CarriesStored, IsRightForwarded}
use Rattle.hc_history.proofs.FurthestLemmas.{Pass-found, Pass-only, passes}

-- ---- of one that says that it went forward

pub carries_stored : (claim : Claim) (h : List Item) → claim.is_inferred ≡ false → (n : ℕ) → n ≡ furthest Any claim h → 7 ≤ n → IsRightForwarded false claim h
carries_stored claim h told n is enough =
    inr (subst (λ (b : Bool). CarriesStored b claim h) (sym told) (passes Any claim h n forwarded_count is (omega arith) enough))

pub carries_nothing : (claim : Claim) (h : List Item) → claim.is_inferred ≡ false → (n : ℕ) → n ≡ furthest Any claim h → n < 7 → ¬ (CarriesStored claim.is_inferred claim h)
carries_nothing claim h told n is few stored =
    let pass = subst (λ (b : Bool). CarriesStored b claim h) told stored in
    omega (arith, is, few, Pass-only forwarded_count Any claim h (omega arith) pass)

pub stored_found : (claim : Claim) (h : List Item) → claim.is_inferred ≡ false → 7 ≤ furthest Any claim h → IsRightForwarded false claim h
stored_found claim h told enough =
    inr (subst (λ (b : Bool). CarriesStored b claim h) (sym told) (Pass-found forwarded_count Any claim h (omega arith) enough))

-- ---- of one whose mark is inferred

pub recent_found : (claim : Claim) (h : List Item) → claim.is_inferred ≡ true → 7 ≤ furthest Recent claim h → IsRightForwarded false claim h
recent_found claim h inferred enough =
    inr (subst (λ (b : Bool). CarriesStored b claim h) (sym inferred) (inr (Pass-found forwarded_count Recent claim h (omega arith) enough)))

pub carries_inferred : (claim : Claim) (h : List Item) → claim.is_inferred ≡ true → (n m : ℕ) → n ≡ furthest Any claim h → m ≡ furthest Recent claim h → (9 ≤ n) ⊎ (7 ≤ m)
    → IsRightForwarded false claim h
carries_inferred claim h inferred n m is recent (inl enough) =
    inr (subst (λ (b : Bool). CarriesStored b claim h) (sym inferred) (inl (passes Any claim h n filter_count is (omega arith) enough)))
carries_inferred claim h inferred n m is recent (inr enough) =
    inr (subst (λ (b : Bool). CarriesStored b claim h) (sym inferred) (inr (passes Recent claim h m forwarded_count recent (omega arith) enough)))

pub carries_neither : (claim : Claim) (h : List Item) → claim.is_inferred ≡ true → (n m : ℕ) → n ≡ furthest Any claim h → m ≡ furthest Recent claim h → n < 9 → m < 7
    → ¬ (CarriesStored claim.is_inferred claim h)
carries_neither claim h inferred n m is recent few fewer stored =
    elim (subst (λ (b : Bool). CarriesStored b claim h) inferred stored) [
      | inl pass ↦ omega (arith, is, few, Pass-only filter_count Any claim h (omega arith) pass)
      | inr pass ↦ omega (arith, recent, fewer, Pass-only forwarded_count Recent claim h (omega arith) pass)
    ]
