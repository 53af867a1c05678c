-- What one record more makes of what was told.
use Rattle.std.proofs.Common.{◌≡◌, ◌∙◌, ◌∷◌, ◌≤◌, ℕ, suc, true, false, List, [], Option, Some, None, IfSome, length, nat_le, refl, sym, ap, subst, arith}
use Rattle.std.proofs.lemmas.Bool.Decides.{nat_tests}
use Rattle.std.specs.Prelude.{Err, Ok, OnOk, Result, String, string_bytes}
use Rattle.std.specs.declared.alloc.Global.{Global}
use Rattle.hc_head.specs.declared.head.Target.{Target}
use Rattle.hc_head.specs.Targets.{same_target}
use Rattle.hc_head.proofs.SameTargetLemmas.{same_target_one}
use Rattle.hc_transcript.specs.Items.{Item}
use Rattle.hc_transcript.specs.History.{next_position}
use Rattle.hc_history.specs.declared.verdicts.Finding.{Finding}
use Rattle.hc_history.specs.Claims.{Claim}
use Rattle.hc_why.specs.Explaining.{Judged, item_of_judged}
use Rattle.hc_explain.specs.declared.explaining.Explaining.{Explaining}
use Rattle.hc_explain.specs.declared.explaining.Form.{Form}
use Rattle.hc_why.specs.declared.found.FoundReply.{FoundReply}
use Rattle.hc_explain.specs.Hearing.{HasHeard, HasTold, IsExplained, IsOf, IsToldAmong, Keeps}

-- what was told is told still
pub told_later : (form : Form) (item : Item) (h : List Item) (position : ℕ) (finding : Finding) (told : Option (String Global))
    → IfSome told (λ text. IsToldAmong form h position finding (string_bytes text)) → IfSome told (λ text. IsToldAmong form (item ∷ h) position finding (string_bytes text))
told_later form item h position finding None is = tt
told_later form item h position finding (Some text) is = record {
  judged = is.judged;
  before = is.before;
  later = item ∷ is.later;
  among = ap (λ (items : List Item). item ∷ items) is.among;
  next = is.next;
  of_position = is.of_position;
  of_finding = is.of_finding;
  told = is.told;
}

-- and what is told of the newest is of it
pub told_newest : (form : Form) (judged : Judged) (h : List Item) (position : ℕ) (finding : Finding) (told : Option (String Global)) → judged.position ≡ next_position h
    → judged.position ≡ position → judged.finding ≡ finding → IfSome told (λ text. IsExplained form judged h (string_bytes text))
    → IfSome told (λ text. IsToldAmong form (item_of_judged judged ∷ h) position finding (string_bytes text))
told_newest form judged h position finding None next at found is = tt
told_newest form judged h position finding (Some text) next at found is = record {
  judged = judged;
  before = h;
  later = [];
  among = refl;
  next = sym at ∙ next;
  of_position = at;
  of_finding = found;
  told = is;
}

-- what it has told is of the reply that it looks for
pub told_for : (explaining : Explaining) (h : List Item) (position : ℕ) (finding : Finding) (form : Form) → HasHeard explaining h → IsOf explaining position finding form
    → IfSome explaining.told (λ text. IsToldAmong form h position finding (string_bytes text))
told_for explaining h position finding form heard is =
    subst (λ (p : ℕ). IfSome explaining.told (λ text. IsToldAmong form h p finding (string_bytes text))) is.position
    (subst (λ (f : Finding). IfSome explaining.told (λ text. IsToldAmong form h explaining.found.position f (string_bytes text))) is.finding
    (subst (λ (k : Form). IfSome explaining.told (λ text. IsToldAmong k h explaining.found.position explaining.found.finding (string_bytes text))) is.form heard.told))

-- ---- the path of the target

pub path_is : (found told : Target) → same_target found told ≡ true → told.path ≡ found.path
path_is found told same = ap (λ (target : Target). target.path) (sym (same_target_one found told same))

-- what every claim of a reply has, this one has
pub of_claim : (claims : Option Claim) (claim : Claim) (P : Claim → Type 0) → claims ≡ Some claim → IfSome claims P → P claim
of_claim claims claim P is all = subst (λ (o : Option Claim). IfSome o P) is all

-- ---- whether the position has passed

-- it hasn't while fewer items came
pub before_too : (place n : ℕ) → nat_le place (suc n) ≡ false → nat_le place n ≡ false
before_too place n few = grind (arith, nat_tests)

above : (place n : ℕ) → place ≡ suc n → nat_le place n ≡ false
above place n is = grind (arith, nat_tests)

pub not_yet : (place : ℕ) (h : List Item) → place ≡ next_position h → nat_le place (length h) ≡ false
not_yet place h is = above place (length h) (omega (arith, is))

below : (place n : ℕ) → place ≤ suc n → nat_le place (suc n) ≡ false → ⊥
below place n few above = grind (arith, nat_tests)

-- and has where the next position is no less
pub has_come : (place position : ℕ) (h : List Item) → place ≤ position → position ≡ next_position h → nat_le place (suc (length h)) ≡ false → ⊥
has_come place position h least next few = below place (length h) (omega (arith, least, next)) few

-- ---- what was heard

true_false : true ≡ false → ⊥
true_false same = cc

-- who is past the reply remembers no more
pub heard_after : (old new : Explaining) (item : Item) (h : List Item) → Keeps old new → old.is_after ≡ true → HasTold new (item ∷ h)
    → (nat_le old.found.position (length (item ∷ h)) ≡ false → ⊥) → HasHeard new (item ∷ h)
heard_after old new item h keeps after told come = record {
  before = λ few. absurd (come (subst (λ (found : FoundReply). nat_le found.position (length (item ∷ h)) ≡ false) keeps.found few));
  past = λ not_after. absurd (true_false (sym after ∙ sym keeps.is_after ∙ not_after));
  told = told;
}

-- what holds of each where it is there
pub on_ok : {A E : Type 0} {P Q : Type 0} (r : Result A E) → OnOk r P → (P → Q) → OnOk r Q
on_ok (Ok x) is goes = goes is
on_ok (Err e) is goes = tt

pub on_all : {A E : Type 0} {After P Q R S : Type 0} (r : Result A E) → (After → OnOk r P) → (After → OnOk r Q) → (After → OnOk r R)
    → ((After → P) → (After → Q) → (After → R) → S) → OnOk r S
on_all (Ok x) p q r goes = goes p q r
on_all (Err e) p q r goes = tt
