-- How an auditor is fed piece after piece.
use Rattle.std.proofs.Common.{◌≡◌, ◌∙◌, ℕ, List, [], ◌++◌, Option, None, ap, append-nil, append_assoc, refl, subst, sym}
use Rattle.std.specs.declared.alloc.Global.{Global}
use Rattle.std.specs.declared.vec.Vec.{Vec}
use Rattle.hc_history.specs.declared.settings.Settings.{Settings}
use Rattle.hc_history.specs.declared.verdicts.Verdict.{Verdict}
use Rattle.hc_history.specs.Seen.{Seen}
use Rattle.hc_audit.specs.declared.auditor.Auditor.{Auditor}
use Rattle.hc_audit.specs.Agreement.{Agrees}
use Rattle.hc_auditing.specs.Audit.{FeedsPiece}

-- by these octets the auditor came from the first to the last, and to that verdict, if one stands
abbrev Goes : {I T : Type 0} → (I → Seen) → Auditor I → T → Auditor I → T → List ℕ → Option Verdict → Type 0
Goes seen first before last after octets settled =
    (settings : Settings) (read : List ℕ) → Agrees seen first settings read → FeedsPiece seen last settings (read ++ octets) settled

-- by no octets it stays as it is
pub auditor_stays : {I T : Type 0} (seen : I → Seen) (auditor : Auditor I) (told : T) → Goes seen auditor told auditor told [] None
auditor_stays seen auditor told = λ settings read agrees.
    record { agrees = subst (Agrees seen auditor settings) (sym (append-nil read)) agrees; stands = tt }

-- and by some, and then more, it comes to where all of them lead
pub auditor_goes_on : {I T : Type 0} (seen : I → Seen) (first middle last : Auditor I) (before between after : T) (some more : List ℕ) (settled : Option Verdict)
    → Goes seen first before middle between some None → Goes seen middle between last after more settled → Goes seen first before last after (some ++ more) settled
auditor_goes_on seen first middle last before between after some more settled so_far on = λ settings read agrees.
    let then_fed = on settings (read ++ some) (so_far settings read agrees).agrees in
    subst (λ (octets : List ℕ). FeedsPiece seen last settings octets settled) (append_assoc read some more) then_fed

-- octets that were gathered, and no end of them is known
abbrev Gathers : {T A : Type 0} → Vec ℕ Global → T → Vec ℕ Global → T → List ℕ → Option A → Type 0
Gathers first before last after octets answer = (last.items ≡ first.items ++ octets) × (answer ≡ None)

pub gathers_nothing : {T A : Type 0} (gathered : Vec ℕ Global) (told : T) → Gathers {T = T} {A = A} gathered told gathered told [] None
gathers_nothing gathered told = (sym (append-nil gathered.items), refl)

pub gathers_on : {T A : Type 0} (first middle last : Vec ℕ Global) (before between after : T) (some more : List ℕ) (answer : Option A)
    → Gathers {T = T} {A = A} first before middle between some None → Gathers middle between last after more answer → Gathers first before last after (some ++ more) answer
gathers_on first middle last before between after some more answer so_far on =
    (on.0 ∙ ap (λ items. items ++ more) so_far.0 ∙ append_assoc first.items some more, on.1)
