-- Fronts of lists, and what stands behind the empty lines or a space at the front of octets.
use Rattle.std.proofs.Common.{◌≡◌, ℕ, ◌<◌, Bool, true, false, cond, List, [], ◌∷◌, ◌++◌, length, refl, sym, ap, subst, ◌∙◌, arith, inl, inr, ⊎_elim}
use Rattle.std.specs.Prelude.{◌⊎◌, ◌==◌}
use Rattle.std.specs.List.{list_any}
use Rattle.std.proofs.lemmas.Bool.{false≢true, ne_eqb}
use Rattle.std.proofs.Math.Bool.{or-true}
use Rattle.std.proofs.lemmas.List.{take_at}
use Rattle.std.proofs.lemmas.List.Elements.{All-head, All-tail, All-take}
use Rattle.std.proofs.lemmas.List.Folds.{list_any-append, list_any_none}
use Rattle.httparse.specs.Ascii.{space}
use Rattle.httparse.specs.Grammar.{AllPass, LineEnd, crlf, lf, print_blank}
use Rattle.httparse.specs.Pieces.{Stops, is_newline}
use Rattle.hc_head.specs.Unfinished.{behind_blank, behind_space}

-- of two lists that go on to the same, one begins the other, and what is between goes on to the rest
pub one_begins : (a b x y : List ℕ) → a ++ x ≡ b ++ y
    → ((k : List ℕ) × (a ≡ b ++ k) × (y ≡ k ++ x)) ⊎ ((k : List ℕ) × (0 < length k) × (b ≡ a ++ k) × (x ≡ k ++ y))
one_begins [] [] x y e = inl ([], refl, sym e)
one_begins [] (v ∷ b) x y e = inr (v ∷ b, omega arith, refl, e)
one_begins (u ∷ a) [] x y e = inl (u ∷ a, refl, sym e)
one_begins (u ∷ a) (v ∷ b) x y e =
    let head : u ≡ v = cc in
    let tail : a ++ x ≡ b ++ y = cc in
    ⊎_elim (λ w. inl (w.0, (λ i. head i ∷ w.1 i), w.2)) (λ w. inr (w.0, w.1, (λ i. sym head i ∷ w.2 i), w.3)) (one_begins a b x y tail)

-- ---- empty lines

not_blank : (r : List ℕ) → Stops is_newline r → behind_blank r ≡ r
not_blank [] stops = absurd stops
not_blank (b ∷ r) stops = ap (λ (t : Bool). cond t (behind_blank r) (b ∷ r)) stops

pub behind_blank-print : (ends : List LineEnd) (r : List ℕ) → Stops is_newline r → behind_blank (print_blank ends ++ r) ≡ r
behind_blank-print [] r stops = not_blank r stops
behind_blank-print (crlf ∷ ends) r stops = behind_blank-print ends r stops
behind_blank-print (lf ∷ ends) r stops = behind_blank-print ends r stops

pub behind_blank-append : (front more : List ℕ) → 0 < length (behind_blank front) → behind_blank (front ++ more) ≡ behind_blank front ++ more
behind_blank-append [] more some = absurd (omega (arith, some))
behind_blank-append (b ∷ front) more some = by (is_newline b) (behind_blank-append front more) some
  where
    by : (t : Bool) → (0 < length (behind_blank front) → behind_blank (front ++ more) ≡ behind_blank front ++ more)
        → 0 < length (cond t (behind_blank front) (b ∷ front)) → cond t (behind_blank (front ++ more)) (b ∷ (front ++ more)) ≡ cond t (behind_blank front) (b ∷ front) ++ more
    by true rest some = rest some
    by false rest some = refl

-- ---- a space

not_space : (test : ℕ → Bool) → test 32 ≡ false → (b : ℕ) → test b ≡ true → (b == space) ≡ false
not_space test fails b passes = ne_eqb b 32 (λ same. false≢true (sym fails ∙ ap test (sym same) ∙ passes))

pub behind_space-word : (test : ℕ → Bool) → test 32 ≡ false → (word rest : List ℕ) → AllPass test word → behind_space (word ++ 32 ∷ rest) ≡ rest
behind_space-word test fails [] rest all = refl
behind_space-word test fails (b ∷ word) rest all =
    ap (λ (t : Bool). cond t (word ++ 32 ∷ rest) (behind_space (word ++ 32 ∷ rest)))
    (not_space test fails b (All-head (λ v. test v ≡ true) b word all))
    ∙ behind_space-word test fails word rest (All-tail (λ v. test v ≡ true) b word all)

pub behind_space-none : (test : ℕ → Bool) → test 32 ≡ false → (word : List ℕ) → AllPass test word → behind_space word ≡ []
behind_space-none test fails [] all = refl
behind_space-none test fails (b ∷ word) all =
    ap (λ (t : Bool). cond t word (behind_space word)) (not_space test fails b (All-head (λ v. test v ≡ true) b word all))
    ∙ behind_space-none test fails word (All-tail (λ v. test v ≡ true) b word all)

pub has_no_space : (test : ℕ → Bool) → test 32 ≡ false → (word : List ℕ) → AllPass test word → list_any (λ b. b == space) word ≡ false
has_no_space test fails word all = list_any_none (λ b. b == space) word (λ k d less. not_space test fails _ (all k d less))

pub has_space : (word rest : List ℕ) → list_any (λ b. b == space) (word ++ 32 ∷ rest) ≡ true
has_space word rest = list_any-append (λ b. b == space) word (32 ∷ rest) ∙ or-true (list_any (λ b. b == space) word)

-- a front of a word of that test
pub front_passes : (test : ℕ → Bool) (word k : List ℕ) → AllPass test (word ++ k) → AllPass test word
front_passes test word k all = subst (AllPass test) (take_at word k (length word) refl) (All-take (λ v. test v ≡ true) (length word) (word ++ k) all)
