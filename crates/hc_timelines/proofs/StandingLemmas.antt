-- Until when a response is fresh.
use Rattle.std.proofs.Common.{◌≡◌, ◌<◌, ◌≤◌, ◌+◌, ◌-◌, ◌^◌, ℕ, max, min, nat_lt, arith}
use Rattle.std.proofs.lemmas.Bool.Decides.{nat_tests}
use Rattle.hc_fields.specs.Numbers.{largest_number}
use Rattle.hc_fresh.specs.Ages.{corrected_initial_age, current_age, fresh}
use Rattle.hc_fresh.specs.declared.ages.Times.{Times}
use Rattle.hc_timelines.specs.Standings.{stale_from}

both : (a b c d : ℕ) → (a < b → c < d) → (c < d → a < b) → nat_lt a b ≡ nat_lt c d
both a b c d on back = grind (arith, nat_tests, on, back)

on_time : (initial came lifetime most now : ℕ) → lifetime ≤ most → came + lifetime < 2 ^ 64 → came ≤ now → min most (initial + (now - came)) < lifetime
    → now < min (came + (lifetime - min most (initial + (came - came)))) (2 ^ 64 - 1)
on_time initial came lifetime most now few fits later fresh = omega (arith, few, fits, later, fresh)

in_time : (initial came lifetime most now : ℕ) → lifetime ≤ most → came + lifetime < 2 ^ 64 → came ≤ now
    → now < min (came + (lifetime - min most (initial + (came - came)))) (2 ^ 64 - 1) → min most (initial + (now - came)) < lifetime
in_time initial came lifetime most now few fits later before = omega (arith, few, fits, later, before)

pub is_when : (lifetime now : ℕ) (times : Times) → lifetime ≤ largest_number → times.response_time + lifetime < 2 ^ 64 → times.response_time ≤ now
    → fresh lifetime (current_age times now) ≡ nat_lt now (stale_from lifetime times)
is_when lifetime now times few fits later = both _ _ _ _ (on_time (corrected_initial_age times) times.response_time lifetime largest_number now few fits later)
    (in_time (corrected_initial_age times) times.response_time lifetime largest_number now few fits later)
