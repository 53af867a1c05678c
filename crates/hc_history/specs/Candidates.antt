-- The responses that a reply may carry, and how far each gets.
use Rattle.std.specs.Prelude.{◌≡◌, ℕ, Bool, true, ◌&&◌, ◌||◌, ◌==◌, nat_lt, List, [], Option, Some, None, All, AllPairs, Contains}
use Rattle.hc_head.specs.declared.head.ResponseHead.{ResponseHead}
use Rattle.hc_head.specs.Targets.{same_target}
use Rattle.hc_framing.specs.declared.message.Message.{Message}
use Rattle.hc_transcript.specs.declared.format.Format.{Format}
use Rattle.hc_transcript.specs.Items.{Item, Exchange}
use Rattle.hc_history.specs.declared.candidates.Candidate.{Candidate}
use Rattle.hc_history.specs.declared.kept.Kept.{Kept}
use Rattle.hc_history.specs.declared.settings.Settings.{Settings}
use Rattle.hc_history.specs.States.{state_at}
use Rattle.hc_history.specs.Claims.{Claim, claim_of}
use Rattle.hc_history.specs.Allowing.{filters}
use Rattle.hc_history.specs.Furthest.{passed}

-- at its position stands a response of the claim's target that may be stored, invalidated or not, and it passes so many filters, as the history has left it
pub record IsCandidate (claim : Claim) (h : List Item) (candidate : Candidate) : Type 0 where
  pub kept : Kept
  pub is_its_state : state_at candidate.position h ≡ Some kept
  pub is_of_target : same_target kept.target claim.target ≡ true
  pub passes : candidate.passed ≡ passed (filters claim kept)

-- whether one stands before another: it passes more, or as many and is newer
abbrev pub is_before : Candidate → Candidate → Bool
is_before one other = nat_lt other.passed one.passed || (one.passed == other.passed && nat_lt other.position one.position)

-- the candidates are these: each of them is one, each one is among them, and each stands before all those behind it, so that none stands twice
pub record AreCandidates (claim : Claim) (h : List Item) (candidates : List Candidate) : Type 0 where
  pub each : All (IsCandidate claim h) candidates
  pub all : (candidate : Candidate) → IsCandidate claim h candidate → Contains candidates candidate
  pub in_order : AllPairs (λ one other. is_before one other ≡ true) candidates

-- those of a reply to the exchange that it answers; none of one to what isn't open
abbrev pub AreCandidatesOf : Format → Settings → Option Exchange → ℕ → Message ResponseHead → List Item → List Candidate → Type 0
AreCandidatesOf format settings None moment reply h candidates = candidates ≡ []
AreCandidatesOf format settings (Some exchange) moment reply h candidates = AreCandidates (claim_of format settings exchange moment reply h) h candidates
