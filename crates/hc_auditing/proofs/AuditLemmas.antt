-- What a verdict on what was read says of all octets of an input.
use Rattle.std.proofs.Common.{◌≡◌, ◌∙◌, ℕ, List, ◌++◌, Option, None, Some, IfSome, ap, append-nil, inr, subst, sym}
use Rattle.std.specs.Io.KnownBytes.{Consumes, IsAtEnd}
use Rattle.hc_history.specs.declared.settings.Settings.{Settings}
use Rattle.hc_history.specs.declared.verdicts.Verdict.{Verdict}
use Rattle.hc_history.specs.Seen.{Seen}
use Rattle.hc_history.specs.Verdicts.{IsVerdict}
use Rattle.hc_audit.specs.declared.auditor.Auditor.{Auditor}
use Rattle.hc_audit.specs.Standing.{Stands}
use Rattle.hc_auditing.specs.Audit.{FeedsPiece, IsConcluded}

-- ---- the verdict

-- an input that is read to its end had what was read
pub at_end : (P : List ℕ → Type 0) (old new : Option (List ℕ)) (read : List ℕ) → Consumes old new read → IsAtEnd new → P read → IfSome old P
at_end P None new read consumed end is = tt
at_end P (Some xs) None read consumed end is = absurd consumed
at_end P (Some xs) (Some ys) read consumed end is =
    let all = sym (append-nil read) ∙ ap (λ rest. read ++ rest) (sym end) ∙ sym consumed in subst P all is

-- and another one had that and something behind it
pub before_end : (P : List ℕ → Type 0) (old new : Option (List ℕ)) (read : List ℕ) → Consumes old new read → ((more : List ℕ) → P (read ++ more)) → IfSome old P
before_end P None new read consumed holds = tt
before_end P (Some xs) None read consumed holds = absurd consumed
before_end P (Some xs) (Some ys) read consumed holds = subst P (sym consumed) (holds ys)

-- what the input gave led the auditor from before the first octet to a verdict that stands
pub settled_verdict : {I : Type 0} (seen : I → Seen) (settings : Settings) (a : Auditor I) (old new : Option (List ℕ)) (octets : List ℕ) (settled : Option Verdict) (verdict : Verdict)
    → FeedsPiece seen a settings octets settled → Consumes old new octets → settled ≡ Some verdict → IfSome old (λ all. IsVerdict all settings verdict)
settled_verdict seen settings a old new octets settled verdict fed consumed is =
    let stands : Stands verdict settings octets = subst (λ s. IfSome s (λ one. Stands one settings octets)) is fed.stands in
    before_end (λ o. IsVerdict o settings verdict) old new octets consumed stands.holds

-- that verdict, and how far was read for it
pub settled_at : {I : Type 0} (seen : I → Seen) (settings : Settings) (a : Auditor I) (old new : Option (List ℕ)) (octets : List ℕ) (settled : Option Verdict) (verdict : Verdict)
    → FeedsPiece seen a settings octets settled → Consumes old new octets → settled ≡ Some verdict → IsConcluded settings verdict old new
settled_at seen settings a old new octets settled verdict fed consumed is =
    inr (record { read = octets; consumed = consumed; stands = subst (λ s. IfSome s (λ one. Stands one settings octets)) is fed.stands })
