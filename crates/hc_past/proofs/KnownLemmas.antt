-- What else is remembered of the ends of forwards of one target.
use Rattle.std.proofs.Common.{◌≡◌, ℕ, Bool, true, false, cond, eqb, ltb, is_eq, List, [], ◌∷◌, ◌++◌, Option, Some, None, refl, sym, ap, ◌∙◌, subst, arith}
use Rattle.std.specs.Prelude.{bytes_eq, ◌==◌, if◌then◌else◌}
use Rattle.std.specs.BTreeMap.{is_at}
use Rattle.std.specs.Ordering.{nat_cmp}
use Rattle.std.specs.declared.cmp.Ordering.TheVariants.{Less, Equal, Greater}
use Rattle.std.proofs.lemmas.Bool.Decides.{nat_tests}
use Rattle.hc_framing.specs.declared.message.Message.{Message}
use Rattle.hc_head.specs.declared.head.ResponseHead.{ResponseHead}
use Rattle.hc_shown.specs.declared.teller.RecordName.{RecordName}
use Rattle.hc_transcript.specs.Items.{Forward}
use Rattle.hc_past.specs.Remembered.{EndKnown, all_known_with, known_by, known_with, sent_by}
use Rattle.hc_past.proofs.PastLemmas.{taken}

is_even : (low even : Bool) → (low ≡ true → even ≡ false) → is_eq (cond low Less (cond even Equal Greater)) ≡ even
is_even true even apart = sym (apart refl)
is_even false true apart = refl
is_even false false apart = refl

low_apart : (a b : ℕ) → ltb a b ≡ true → eqb a b ≡ false
low_apart a b low = grind (arith, nat_tests)

at_number : (a b : ℕ) → is_at (nat_cmp a) b ≡ (a == b)
at_number a b = is_even (ltb a b) (eqb a b) (low_apart a b)

-- what is taken out is gone
pub gone_at : {X : Type 0} (number f : ℕ) (left before : Option X) → left ≡ cond (is_at (nat_cmp number) f) None before → left ≡ (if number == f then None else before)
gone_at number f left before is = is ∙ ap (λ (b : Bool). cond b None before) (at_number number f)

-- the record of an open forward for the path is remembered
pub sent_is : (path : List ℕ) (o : Option Forward) (sent : Option RecordName) (forward : Forward) → Some forward ≡ o → bytes_eq forward.target.path path ≡ true
    → sent_by path o sent ≡ sent
sent_is path o sent forward is same =
    subst (λ (f : Option Forward). sent_by path f sent ≡ sent) is (taken (bytes_eq forward.target.path path) sent None same)

-- what is known of its end is added
pub known_ended : (path : List ℕ) (sent : Option RecordName) (answer : Option (Message ResponseHead)) (o : Option Forward) (known : List EndKnown) (forward : Forward)
    (begun end : EndKnown) → Some forward ≡ o → bytes_eq forward.target.path path ≡ true → begun ≡ record { sent = sent; forbids = None; heads = None }
    → end ≡ known_with forward.request answer begun → known ++ end ∷ [] ≡ all_known_with path sent answer o known
known_ended path sent answer o known forward begun end is same begun_is end_is =
    let e : end ≡ known_by sent answer forward = end_is ∙ ap (known_with forward.request answer) begun_is in
    subst (λ (f : Option Forward). known ++ end ∷ [] ≡ all_known_with path sent answer f known) is
    (ap (λ (x : EndKnown). known ++ x ∷ []) e
    ∙ sym (taken (bytes_eq forward.target.path path) (known ++ known_by sent answer forward ∷ []) known same))
