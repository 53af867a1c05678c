-- What is remembered of the ends of forwards.
use Rattle.std.proofs.Common.{◌≡◌, ℕ, Bool, true, false, List, [], ◌∷◌, ◌++◌, Option, Some, None, refl, sym, ap, ◌∙◌, subst}
use Rattle.std.specs.Prelude.{bytes_eq, if◌then◌else◌}
use Rattle.hc_head.specs.declared.head.ResponseHead.{ResponseHead}
use Rattle.hc_framing.specs.declared.message.Message.{Message}
use Rattle.hc_shown.specs.declared.teller.RecordName.{RecordName}
use Rattle.hc_transcript.specs.Items.{Forward}
use Rattle.hc_past.specs.Remembered.{EndSeen, answered_by, end_by, ends_with}

pub taken : {X : Type 0} (b : Bool) (one other : X) → b ≡ true → (if b then one else other) ≡ one
taken true one other is = refl
taken false one other is = absurd cc

pub passed_over : {X : Type 0} (b : Bool) (one other : X) → b ≡ false → (if b then one else other) ≡ other
passed_over true one other is = absurd cc
passed_over false one other is = refl

-- where no forward was open, nothing is added
pub none_ended : (path : List ℕ) (name : RecordName) (cause : Option ℕ) (answer : Option (Message ResponseHead)) (o : Option Forward) (ends : List EndSeen)
    → None ≡ o → ends ≡ ends_with path name cause answer o ends
none_ended path name cause answer o ends is = subst (λ (f : Option Forward). ends ≡ ends_with path name cause answer f ends) is refl

-- nor where it asked for another path
pub other_ended : (path : List ℕ) (name : RecordName) (cause : Option ℕ) (answer : Option (Message ResponseHead)) (o : Option Forward) (ends : List EndSeen)
    (forward : Forward) → Some forward ≡ o → bytes_eq forward.target.path path ≡ false → ends ≡ ends_with path name cause answer o ends
other_ended path name cause answer o ends forward is other =
    subst (λ (f : Option Forward). ends ≡ ends_with path name cause answer f ends) is
    (sym (passed_over (bytes_eq forward.target.path path) (ends ++ end_by name cause answer forward ∷ []) ends other))

-- else its end is
pub one_ended : (path : List ℕ) (name : RecordName) (cause told : Option ℕ) (answer : Option (Message ResponseHead)) (o : Option Forward) (ends : List EndSeen)
    (forward : Forward) (begun end : EndSeen) → Some forward ≡ o → told ≡ cause → bytes_eq forward.target.path path ≡ true
    → begun ≡ end_by name told None forward → end ≡ answered_by answer begun
    → ends ++ end ∷ [] ≡ ends_with path name cause answer o ends
one_ended path name cause told answer o ends forward begun end is cause_is same begun_is end_is =
    let e : end ≡ end_by name cause answer forward = end_is ∙ ap (answered_by answer) begun_is
    ∙ ap (λ (c : Option ℕ). answered_by answer (end_by name c None forward)) cause_is in
    subst (λ (f : Option Forward). ends ++ end ∷ [] ≡ ends_with path name cause answer f ends) is
    (ap (λ (x : EndSeen). ends ++ x ∷ []) e
    ∙ sym (taken (bytes_eq forward.target.path path) (ends ++ end_by name cause answer forward ∷ []) ends same))
