-- What an auditor says by the stage that it has come to.
use Rattle.std.proofs.Common.{◌≡◌, ℕ, List, [], ◌++◌, Some, None, sym, subst, append-nil, append_assoc}
use Rattle.hc_history.specs.declared.settings.Settings.{Settings}
use Rattle.hc_history.specs.declared.verdicts.Verdict.{Verdict}
use Rattle.hc_history.specs.Seen.{Seen}
use Rattle.hc_history.specs.Verdicts.{IsVerdict}
use Rattle.hc_audit.specs.declared.auditor.AuditStage.{AuditStage}
use Rattle.hc_audit.specs.declared.auditor.AuditStage.TheVariants.{Open, Settled, Failed}
use Rattle.hc_audit.specs.declared.judge.Judge.{Judge}
use Rattle.hc_audit.specs.Standing.{MayChange}
use Rattle.hc_audit.specs.Judging.{IsWaiting}
use Rattle.hc_audit.specs.Agreement.{AgreesBy, settled_by}
use Rattle.hc_audit.proofs.JudgeLemmas.{may_change}

some_is_none : (v : Verdict) → Some v ≡ None → ⊥
some_is_none v e = cc

open_is_settled : {I : Type 0} (judge : Judge I) (v : Verdict) → Open judge ≡ Settled v → ⊥
open_is_settled judge v e = cc

-- where no verdict stands, that of the octets may change
pub unsettled_may_change : {I : Type 0} (seen : I → Seen) (stage : AuditStage I) (settings : Settings) (octets : List ℕ) (verdict : Verdict) → settled_by stage ≡ None
    → AgreesBy seen stage settings octets → IsVerdict octets settings verdict → MayChange verdict
unsettled_may_change seen (Open judge) settings octets verdict none agrees is = may_change seen judge octets settings verdict agrees is
unsettled_may_change seen (Settled known) settings octets verdict none agrees is = absurd (some_is_none known none)
unsettled_may_change seen Failed settings octets verdict none agrees is = absurd agrees

-- a verdict that stands is that of the octets
pub settled_is : {I : Type 0} (seen : I → Seen) (stage : AuditStage I) (settings : Settings) (octets : List ℕ) (verdict : Verdict) → stage ≡ Settled verdict
    → AgreesBy seen stage settings octets → IsVerdict octets settings verdict
settled_is {I} seen stage settings octets verdict is agrees =
    let stands = subst (λ (s : AuditStage I). AgreesBy seen s settings octets) is agrees in
    subst (λ (o : List ℕ). IsVerdict o settings verdict) (append-nil octets) (stands.holds [])

-- it stands on
pub settled_goes_on : {I : Type 0} (seen : I → Seen) (stage : AuditStage I) (settings : Settings) (octets more : List ℕ) (verdict : Verdict) → stage ≡ Settled verdict
    → AgreesBy seen stage settings octets → AgreesBy seen stage settings (octets ++ more)
settled_goes_on seen (Open judge) settings octets more verdict is agrees = absurd (open_is_settled judge verdict is)
settled_goes_on seen (Settled known) settings octets more verdict is agrees = record {
  is_final = agrees.is_final;
  holds = λ later. subst (λ (o : List ℕ). IsVerdict o settings known) (sym (append_assoc octets more later)) (agrees.holds (more ++ later));
}
settled_goes_on seen Failed settings octets more verdict is agrees = absurd agrees

-- an auditor that is open
pub open_is : {I : Type 0} (seen : I → Seen) (stage : AuditStage I) (settings : Settings) (octets : List ℕ) (judge : Judge I) → stage ≡ Open judge
    → AgreesBy seen stage settings octets → IsWaiting seen judge settings octets
open_is {I} seen stage settings octets judge is agrees = subst (λ (s : AuditStage I). AgreesBy seen s settings octets) is agrees
