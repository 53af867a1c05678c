-- The open forwards by their numbers.
use Rattle.std.proofs.Common.{◌≡◌, ℕ, Bool, true, false, ◌||◌, cond, eqb, Option, refl, ap, ◌∙◌}
use Rattle.std.specs.Ordering.{nat_cmp, is_eq}
use Rattle.std.specs.BTreeMap.{BTreeMap, get}
use Rattle.hc_index.specs.declared.kept.RecordedForward.{RecordedForward}
use Rattle.hc_index.proofs.PoolLemmas.{nat_tied}

pub or_cond : (a b : Bool) → cond a true b ≡ (a || b)
or_cond true b = refl
or_cond false b = refl

told_if : {Y : Type 0} (tell : Option RecordedForward → Y) (b : Bool) (x o : Option RecordedForward) → tell (cond b x o) ≡ cond b (tell x) (tell o)
told_if tell true x o = refl
told_if tell false x o = refl

-- what is told of the forward of a number, where that of one number was replaced
pub replaced : {Y : Type 0} (tell : Option RecordedForward → Y) (number : ℕ) (x : Option RecordedForward) (old new : BTreeMap ℕ RecordedForward)
    → ((f : ℕ) → get nat_cmp new f ≡ cond (is_eq (nat_cmp number f)) x (get nat_cmp old f))
    → (f : ℕ) → tell (get nat_cmp new f) ≡ cond (eqb number f) (tell x) (tell (get nat_cmp old f))
replaced tell number x old new is f =
    ap tell (is f ∙ ap (λ (b : Bool). cond b x (get nat_cmp old f)) (nat_tied number f)) ∙ told_if tell (eqb number f) x (get nat_cmp old f)
