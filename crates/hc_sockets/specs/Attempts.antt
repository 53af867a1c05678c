-- What is remembered of links to the origin.
use Rattle.std.specs.Prelude.{ℕ, ◌==◌, ◌%◌, ◌+◌, ◌^◌, ◌-◌, Bool, true, List, Option, Some, None, if◌then◌else◌, min, slice_index_or}
use Rattle.hc_sockets.specs.declared.attempts.Begun.{Begun}
use Rattle.hc_sockets.specs.declared.attempts.AttemptStage.{AttemptStage}
use Rattle.hc_sockets.specs.declared.attempts.AttemptStage.TheVariants.{Opening, Made, Gone}

-- the link that was begun for that forward by that attempt, to the address at that place
abbrev pub link_of : (forward attempt address : ℕ) → Bool → Begun
link_of forward attempt address told = record { forward = forward; attempt = attempt; address = address; told = told }

-- what is remembered where the link of that forward is
abbrev pub remembered : List (Option Begun) → ℕ → Option Begun
remembered links forward = slice_index_or links (forward % 65536) None

-- the same link, of which something was told
abbrev pub told_of : Option Begun → Option Begun
told_of None = None
told_of (Some begun) = Some (link_of begun.forward begun.attempt begun.address true)

-- how far a link is, by that: one that isn't remembered counts as made
abbrev pub stage_of : Option Begun → (forward attempt : ℕ) → AttemptStage
stage_of None forward attempt = Made
stage_of (Some begun) forward attempt =
    if begun.forward == forward then (if begun.attempt == attempt then (if begun.told then Made else Opening) else Gone) else Made

-- the address from which on a further attempt tries: behind the last one, if that is remembered
abbrev pub address_after : Option Begun → (forward attempt : ℕ) → ℕ
address_after None forward attempt = attempt
address_after (Some begun) forward attempt =
    if begun.forward == forward then min (begun.address + 1) (2 ^ 64 - 1) else attempt

-- the first attempt tries from the first address on
abbrev pub address_behind : Option Begun → (forward attempt : ℕ) → ℕ
address_behind begun forward attempt = if attempt == 0 then 0 else address_after begun forward attempt
