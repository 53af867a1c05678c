-- How clients and forwards are getting on, behind what was heard of them.
use Rattle.std.specs.Prelude.{◌≡◌, ℕ, true, length, Option, Some, IfSome, Result, Ok}
use Rattle.std.specs.declared.alloc.AllocError.{AllocError}
use Rattle.hc_flow.specs.declared.heard.Heard.{Heard}
use Rattle.hc_flow.specs.declared.heard.Heard.TheVariants.{Octets}
use Rattle.hc_flow.specs.Paces.{asking, moved}
use Rattle.hc_flow.specs.declared.pace.Pace.{Pace}
use Rattle.hc_flow.specs.declared.progress.ForwardProgress.{ForwardProgress}

-- octets of a client are of a request
abbrev pub pace_behind : Result Heard AllocError → ℕ → Pace → Pace
pace_behind (Ok (Octets octets)) tick pace = asking (length octets) tick pace
pace_behind other tick pace = pace

-- octets of the origin have passed
abbrev pub progress_behind : Result Heard AllocError → ℕ → ForwardProgress → ForwardProgress
progress_behind (Ok (Octets octets)) tick progress = moved true tick progress
progress_behind other tick progress = progress

-- a forward is timed from when the first link was begun for it
abbrev pub IsTimed : Option ℕ → Option ForwardProgress → Type 0
IsTimed begun progress = IfSome progress (λ at_link. begun ≡ Some at_link.begun)
