-- At most one request waits.
use Rattle.std.proofs.Common.{◌≡◌, ◌≤◌, ◌<◌, ℕ, Bool, true, false, cond, eqb, ltb, is_eq, List, [], ◌∷◌, length, Option, Some, None, IsSome, refl, sym, ◌∙◌, subst, arith}
use Rattle.std.specs.Prelude.{nat_lt, nat_le}
use Rattle.std.specs.BTreeMap.{IsOrdered, btree_map_len, is_at}
use Rattle.std.specs.Map.{keys_of, lookup}
use Rattle.std.specs.List.Sorted.{IsStrictlySortedBy}
use Rattle.std.specs.Ordering.{nat_cmp}
use Rattle.std.specs.declared.cmp.Ordering.TheVariants.{Less, Equal, Greater}
use Rattle.std.proofs.lemmas.Bool.{eq-eqb}
use Rattle.std.proofs.lemmas.Bool.Decides.{nat_tests}
use Rattle.hc_head.specs.declared.head.Target.{Target}
use Rattle.hc_transcript.specs.Items.{Item}
use Rattle.hc_past.specs.declared.past.Asked.{Asked}
use Rattle.hc_past.specs.declared.past.Past.{Past}
use Rattle.hc_past.specs.Remembered.{HasAsked, IsAlone}

same_number : (a b : ℕ) → eqb a b ≡ true → a ≡ b
same_number a b is = grind (arith, nat_tests)

is_even : (low even : Bool) → is_eq (cond low Less (cond even Equal Greater)) ≡ true → even ≡ true
is_even true even is = cc
is_even false true is = refl
is_even false false is = cc

-- it is a key of that number
key_is : (a b : ℕ) → is_at (nat_cmp a) b ≡ true → a ≡ b
key_is a b is = same_number a b (is_even (ltb a b) (eqb a b) is)

not_low : (a : ℕ) → ltb a a ≡ false
not_low a = grind (arith, nat_tests)

even_is_at : (low even : Bool) → low ≡ false → even ≡ true → is_eq (cond low Less (cond even Equal Greater)) ≡ true
even_is_at true even low same = cc
even_is_at false true low same = refl
even_is_at false false low same = cc

-- a number is its own key
own_key : (a : ℕ) → is_at (nat_cmp a) a ≡ true
own_key a = even_is_at (ltb a a) (eqb a a) (not_low a) (eq-eqb a a refl)

known_by : (here : Bool) (asked : Asked) → IsSome (cond here (Some asked) None) → here ≡ true
known_by true asked is = refl
known_by false asked is = cc

there_if : (here : Bool) (asked : Asked) (others : Option Asked) → here ≡ true → IsSome (cond here (Some asked) others)
there_if true asked others is = refl
there_if false asked others is = cc

there_or : (here : Bool) (asked : Asked) (others : Option Asked) → IsSome others → IsSome (cond here (Some asked) others)
there_or true asked others is = refl
there_or false asked others is = is

one_key : (es : List (ℕ × Asked)) (e f : ℕ) → length es ≤ 1 → IsSome (lookup (is_at (nat_cmp e)) es) → IsSome (lookup (is_at (nat_cmp f)) es) → e ≡ f
one_key [] e f few one other = cc
one_key (x ∷ []) e f few one other =
    key_is e x.0 (known_by (is_at (nat_cmp e) x.0) x.1 one) ∙ sym (key_is f x.0 (known_by (is_at (nat_cmp f) x.0) x.1 other))
one_key (x ∷ y ∷ es) e f few one other = absurd (omega (arith, few))

is_low : (low even : Bool) → cond low Less (cond even Equal Greater) ≡ Less → low ≡ true
is_low true even is = refl
is_low false true is = cc
is_low false false is = cc

not_below_itself : (a b : ℕ) → ltb a b ≡ true → a ≡ b → ⊥
not_below_itself a b low same = grind (arith, nat_tests)

few_keys : (es : List (ℕ × Asked)) → IsStrictlySortedBy nat_cmp (keys_of es)
    → ((e f : ℕ) → IsSome (lookup (is_at (nat_cmp e)) es) → IsSome (lookup (is_at (nat_cmp f)) es) → e ≡ f) → length es ≤ 1
unfolding IsStrictlySortedBy
few_keys [] sorted one = omega arith
few_keys (x ∷ []) sorted one = omega arith
few_keys (x ∷ y ∷ es) sorted one =
    let first = there_if (is_at (nat_cmp x.0) x.0) x.1 (lookup (is_at (nat_cmp x.0)) (y ∷ es)) (own_key x.0) in
    let second = there_or (is_at (nat_cmp y.0) x.0) x.1 (lookup (is_at (nat_cmp y.0)) (y ∷ es))
    (there_if (is_at (nat_cmp y.0) y.0) y.1 (lookup (is_at (nat_cmp y.0)) es) (own_key y.0)) in
    absurd (not_below_itself x.0 y.0 (is_low (ltb x.0 y.0) (eqb x.0 y.0) sorted.0.0) (one x.0 y.0 first second))

is_lower : (a b : ℕ) → a < b → nat_lt a b ≡ true
is_lower a b low = grind (arith, nat_tests)

is_few : (n : ℕ) → nat_le n 1 ≡ true → n ≤ 1
is_few n few = grind (arith, nat_tests)

are_few : (n : ℕ) → n ≤ 1 → nat_le n 1 ≡ true
are_few n few = grind (arith, nat_tests)

-- where no more than one request waits, and none was answered since, the one is alone
pub alone : (since waiting : ℕ) (h : List Item) (one : Target) (past : Past) → waiting ≡ btree_map_len past.asked → past.answered < since → HasAsked one h past
    → nat_le waiting 1 ≡ true → IsAlone one.path since h
alone since waiting h one past len before has few =
    let at_most : btree_map_len past.asked ≤ 1 = subst (λ (n : ℕ). n ≤ 1) len (is_few waiting few) in
    record {
      answered = subst (λ (n : ℕ). nat_lt n since ≡ true) has.answered (is_lower past.answered since before);
      one_open = λ e f first other.
          one_key past.asked.entries e f at_most (subst IsSome (sym (has.asked e)) first) (subst IsSome (sym (has.asked f)) other);
    }

-- and the other way round
pub few_wait : (since waiting : ℕ) (h : List Item) (one : Target) (past : Past) → waiting ≡ btree_map_len past.asked → IsOrdered nat_cmp past.asked → HasAsked one h past
    → IsAlone one.path since h → nat_le waiting 1 ≡ true
few_wait since waiting h one past len ordered has is =
    are_few waiting (subst (λ (n : ℕ). n ≤ 1) (sym len)
    (few_keys past.asked.entries ordered (λ e f first other. is.one_open e f (subst IsSome (has.asked e) first) (subst IsSome (has.asked f) other))))
