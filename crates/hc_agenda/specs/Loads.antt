-- What is held for links, and in all.
use Rattle.std.specs.Prelude.{◌≡◌, ℕ, ◌+◌, ◌-◌, ◌/◌, ◌<◌, ◌≤◌, List, [], ◌∷◌, ◌++◌, Option, Some, None}
use Rattle.std.specs.List.{All, sum_by}
use Rattle.hc_agenda.specs.declared.holding.Holding.{Holding}
use Rattle.hc_agenda.specs.declared.reckoning.Heaviest.{Heaviest}
use Rattle.hc_agenda.specs.declared.reckoning.Load.{Load}

-- so many octets are held for a link
abbrev pub weight : Load → ℕ
weight load = load.octets

-- how many octets are held in all
abbrev pub total : List Load → ℕ
total loads = sum_by weight loads

-- where more than so many octets are held in all, a load is taken out than which none is heavier; else nothing is
abbrev pub TakesHeaviest : ℕ → Option Heaviest → (before after : List Load) → Type 0
TakesHeaviest most None before after = (total before ≤ most) × (after ≡ before)
TakesHeaviest most (Some heaviest) before after = (most < total before) × (before ≡ after ++ heaviest.load ∷ []) × All (λ other. weight other ≤ weight heaviest.load) after

-- no more than that is held, as far as is known: what was held for all links when each was looked at, and what came or was sent since
abbrev pub most_held : Holding → ℕ
most_held holding = holding.reckoned + holding.grown

-- above so much each link is looked at
abbrev pub looks_above : ℕ → ℕ
looks_above limit = limit - limit / 16

-- then links are cut off until no more than so much is held
abbrev pub cuts_to : ℕ → ℕ
cuts_to limit = limit - limit / 8
