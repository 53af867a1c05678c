-- In what the status or the body of a reply differs from a stored response's.
use Rattle.std.specs.Prelude.{◌≡◌, ℕ, Bool, ◌==◌, List, Option, Some, None, bytes_eq, length, if◌then◌else◌}
use Rattle.hc_framing.specs.Pieces.{in_common}
use Rattle.hc_head.specs.Methods.{is_head}
use Rattle.hc_update.specs.declared.stored.Stored.{Stored}
use Rattle.hc_history.specs.Claims.{Claim}
use Rattle.hc_gaps.specs.declared.contents.BodyGap.{BodyGap}
use Rattle.hc_gaps.specs.declared.contents.ContentGap.{ContentGap}
use Rattle.hc_gaps.specs.Demanding.{content_sections, gap_sections}

-- the reply to a request of that method has the body that is due, or none where the request is HEAD
abbrev pub has_body : List ℕ → List ℕ → List ℕ → Bool
has_body method told due = if is_head method then length told == 0 else bytes_eq told due

-- how its body differs from that, if it does
abbrev pub body_gap_of : List ℕ → List ℕ → List ℕ → Option BodyGap
body_gap_of method told due =
    if has_body method told due then None else
    Some (record { is_head = is_head method; due = length due; told = length told; agreed = in_common told due })

-- it is of this reply and this response: both statuses, and how the bodies differ; and that is asked of it
pub record IsContentGap (claim : Claim) (state : Stored) (gap : ContentGap) : Type 0 where
  pub due : gap.due ≡ state.status
  pub told : gap.told ≡ claim.reply.head.status
  pub bodies : gap.bodies ≡ body_gap_of claim.request.method claim.reply.body state.body
  pub asks : gap_sections gap ≡ content_sections claim state
