-- Who knocks stands in the line, however that and the guests change.
use Rattle.std.proofs.Common.{◌≡◌, ℕ, ◌==◌, Bool, true, false, ◌||◌, cond, List, [], ◌∷◌, ◌++◌, Option, Some, IsSome, refl, sym, ap, ◌∙◌, subst, arith}
use Rattle.std.proofs.lemmas.Bool.Decides.{nat_tests}
use Rattle.std.specs.BTreeMap.{BTreeMap, Updates, WritesThrough, get}
use Rattle.std.specs.Ordering.{nat_cmp}
use Rattle.hc_peers.specs.declared.guests.Guest.{Guest}
use Rattle.hc_peers.specs.Knocks.{KnocksStand, is_in}
use Rattle.hc_peers.proofs.TableLemmas.{put, same_number}

-- ---- the line

or_on : (b x y : Bool) → (x ≡ true → y ≡ true) → (b || x) ≡ true → (b || y) ≡ true
or_on true x y leads is = refl
or_on false x y leads is = leads is

or_last : (b y : Bool) → y ≡ true → (b || y) ≡ true
or_last true y is = refl
or_last false y is = is

-- who stands there does still, with one more behind
stands_still : (n k : ℕ) (line : List ℕ) → is_in n line ≡ true → is_in n (line ++ k ∷ []) ≡ true
stands_still n k [] is = absurd (cc)
stands_still n k (m ∷ line) is = or_on (m == n) (is_in n line) (is_in n (line ++ k ∷ [])) (stands_still n k line) is

same : (n : ℕ) → (n == n) ≡ true
same n = grind (arith, nat_tests)

-- that one stands there, too
stands_last : (n : ℕ) (line : List ℕ) → is_in n (line ++ n ∷ []) ≡ true
stands_last n [] = let it = same n in cc
stands_last n (m ∷ line) = or_last (m == n) (is_in n (line ++ n ∷ [])) (stands_last n line)

-- one stands behind a line that stayed
pub behind_same : (line mid line' : List ℕ) (k : ℕ) → mid ≡ line → line' ≡ mid ++ k ∷ [] → line' ≡ line ++ k ∷ []
behind_same line mid line' k same last = last ∙ ap (λ (xs : List ℕ). xs ++ k ∷ []) same

-- ---- guests

module _ {S : Type 0} (links links' : BTreeMap ℕ (Guest S)) (k : ℕ) (line : List ℕ) (stand : KnocksStand links line) where
  module _ (perhaps : Option (Guest S)) (now : (n : ℕ) → get nat_cmp links' n ≡ cond (k == n) perhaps (get nat_cmp links n)) (line' : List ℕ)
      (its : (guest : Guest S) → perhaps ≡ Some guest → guest.knocks ≡ true → is_in k line' ≡ true)
      (others : (n : ℕ) → (k == n) ≡ false → is_in n line ≡ true → is_in n line' ≡ true) where
    at_one : (b : Bool) (n : ℕ) (guest : Guest S) → (k == n) ≡ b → cond b perhaps (get nat_cmp links n) ≡ Some guest → guest.knocks ≡ true → is_in n line' ≡ true
    at_one true n guest is there knocks = subst (λ (m : ℕ). is_in m line' ≡ true) (same_number k n is) (its guest there knocks)
    at_one false n guest differs there knocks = others n differs (stand n guest there knocks)

    changed : KnocksStand links' line'
    changed n guest there knocks = at_one (k == n) n guest refl (sym (now n) ∙ there) knocks

  module _ (line' : List ℕ) (last : line' ≡ line ++ k ∷ []) where
    behind_them : (perhaps : Option (Guest S)) → ((n : ℕ) → get nat_cmp links' n ≡ cond (k == n) perhaps (get nat_cmp links n)) → KnocksStand links' line'
    behind_them perhaps now =
        subst (KnocksStand links') (sym last) (changed perhaps now (line ++ k ∷ []) (λ other is knocks. stands_last k line) (λ n differs. stands_still n k line))

    -- one is put among them, and stands last
    pub put_last : (guest : Guest S) → Updates nat_cmp links links' k (Some guest) → KnocksStand links' line'
    put_last guest updates = behind_them (Some guest) (put links links' k (Some guest) updates)

    -- one that is there does
    pub lent_last : (guest guest' : Guest S) → Some guest ≡ get nat_cmp links k → WritesThrough nat_cmp (nat_cmp k) links guest' links' → KnocksStand links' line'
    lent_last guest guest' there wrote = behind_them (Some guest') (put links links' k (Some guest') (wrote.3 (subst IsSome there refl)))
