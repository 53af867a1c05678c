-- How many filters one earlier response passes, at most.
use Rattle.std.specs.Prelude.{◌≡◌, ℕ, zero, suc, ◌+◌, ◌≤◌, Bool, true, false, max, if◌then◌else◌, List, [], ◌∷◌, length, Option, Some, None}
use Rattle.hc_transcript.specs.Items.{Item}
use Rattle.hc_history.specs.Claims.{Claim}
use Rattle.hc_history.specs.declared.kept.Kept.{Kept}
use Rattle.hc_history.specs.States.{state_at}
use Rattle.hc_history.specs.declared.among.Among.{Among}
use Rattle.hc_history.specs.Allowing.{filters}
use Rattle.hc_history.specs.Reused.{filter_count, is_looked_at}
use Rattle.hc_history.specs.declared.reasons.Reason.{Reason}
use Rattle.hc_history.specs.Names.{reason_number}
use Rattle.hc_history.specs.Seen.{Live}

-- how many of the tests hold, one after another, from the first on
abbrev pub passed : List Bool → ℕ
passed [] = 0
passed (false ∷ tests) = 0
passed (true ∷ tests) = passed tests + 1

-- the same of what stands at a position, if it is one of those among which is looked
abbrev pub passed_among : Among → Claim → ℕ → Option Kept → ℕ
passed_among among claim position None = 0
passed_among among claim position (Some kept) = if is_looked_at among claim position kept.state then passed (filters claim kept) else 0

-- the most filters that one of those up to a position passes
abbrev pub furthest_up_to : Among → Claim → ℕ → List Item → ℕ
furthest_up_to among claim zero h = 0
furthest_up_to among claim (suc n) h = max (furthest_up_to among claim n h) (passed_among among claim (suc n) (state_at (suc n) h))

-- the most filters that one of all of them passes
abbrev pub furthest : Among → Claim → List Item → ℕ
furthest among claim h = furthest_up_to among claim (length h) h

-- the most filters that one of the live responses of the claim's target passes, of those among which is looked
abbrev pub furthest_live : Among → Claim → List Live → ℕ
furthest_live among claim [] = 0
furthest_live among claim (live ∷ lives) =
    max (passed_among among claim live.position (Some (record { target = claim.target; state = live.state }))) (furthest_live among claim lives)

-- the reason of the filter behind so many
abbrev pub IsReasonBehind : ℕ → Option Reason → Type 0
IsReasonBehind passed (Some why) = (reason_number why ≡ passed + 1) × (passed + 1 ≤ filter_count)
IsReasonBehind passed None = filter_count ≤ passed
