-- What forbids that a stored response is served.
use Rattle.std.proofs.Common.{◌≡◌, ℕ, Bool, true, false, ◌&&◌, ◌||◌, List, refl}
use Rattle.std.specs.Prelude.{not, codes}
use Rattle.hc_fields.specs.declared.fields.Field.{Field}
use Rattle.hc_fresh.specs.Lifetimes.{says, seconds_said, stale_forbidden}
use Rattle.hc_update.specs.declared.stored.Stored.{Stored}
use Rattle.hc_service.specs.Asking.{allows_age, asks_for_fresh}
use Rattle.hc_history.specs.Usable.{age_at, permits_by_request, permits_on_error}
use Rattle.hc_service.specs.Serving.{is_fresh, while_revalidating, may_be_used, is_fresh_enough, is_permitted_stale, may_be_served, may_replace}

-- ---- tests that fail

not_first : (a b : Bool) → a ≡ true → (not a && not b) ≡ false
not_first true b is = refl
not_first false b is = absurd (cc)

not_second : (a b : Bool) → b ≡ true → (not a && not b) ≡ false
not_second true b is = refl
not_second false true is = refl
not_second false false is = absurd (cc)

first_fails : (a b c : Bool) → a ≡ false → (a && b && c) ≡ false
first_fails false b c is = refl
first_fails true b c is = absurd (cc)

second_fails : (a b c : Bool) → b ≡ false → (a && b && c) ≡ false
second_fails false b c is = refl
second_fails true false c is = refl
second_fails true true c is = absurd (cc)

third_fails : (a b c : Bool) → c ≡ false → (a && b && c) ≡ false
third_fails false b c is = refl
third_fails true false c is = refl
third_fails true true c is = is

last_fails : (a b : Bool) → b ≡ false → (a && b) ≡ false
last_fails false b is = refl
last_fails true b is = is

head_fails : (a b : Bool) → a ≡ false → (a && b) ≡ false
head_fails false b is = refl
head_fails true b is = absurd (cc)

-- neither fresh enough, nor permitted stale: f is that it is fresh, g how long, s what forbids stale, m min-fresh, p what permits stale
neither_forbidden : (f g s m p : Bool) → f ≡ false → s ≡ true → ((f && g) || (not f && not s && not m && p)) ≡ false
neither_forbidden false g true m p e is = refl
neither_forbidden false g false m p e is = absurd (cc)
neither_forbidden true g s m p e is = absurd (cc)

neither_wanted : (f g s m p : Bool) → f ≡ false → m ≡ true → ((f && g) || (not f && not s && not m && p)) ≡ false
neither_wanted false g true m p e is = refl
neither_wanted false g false true p e is = refl
neither_wanted false g false false p e is = absurd (cc)
neither_wanted true g s m p e is = absurd (cc)

never_replaces : (f s o : Bool) → f ≡ false → s ≡ true → (f || (not s && o)) ≡ false
never_replaces false true o e is = refl
never_replaces false false o e is = absurd (cc)
never_replaces true s o e is = absurd (cc)

-- ---- what may be served, and what may take the place of an error

module _ (asked : List Field) (stored : Stored) (moment : ℕ) where
  unused : may_be_used asked stored ≡ false → (may_be_served asked stored moment ≡ false) × (may_replace asked stored moment ≡ false)
  unused is = (
    first_fails (may_be_used asked stored) (allows_age (age_at stored moment) (seconds_said (codes "max-age") asked))
        (is_fresh_enough asked stored moment || is_permitted_stale asked stored moment) is,
    head_fails (may_be_used asked stored) (is_fresh stored moment || (not (stale_forbidden stored.fields) && permits_on_error 0 asked stored moment)) is,
  )

  pub no_cache_forbids : says (codes "no-cache") stored.fields ≡ true → (may_be_served asked stored moment ≡ false) × (may_replace asked stored moment ≡ false)
  no_cache_forbids is = unused (not_first (says (codes "no-cache") stored.fields) (says (codes "no-cache") asked) is)

  pub no_cache_asked_forbids : says (codes "no-cache") asked ≡ true → (may_be_served asked stored moment ≡ false) × (may_replace asked stored moment ≡ false)
  no_cache_asked_forbids is = unused (not_second (says (codes "no-cache") stored.fields) (says (codes "no-cache") asked) is)

  pub stale_forbids : is_fresh stored moment ≡ false → stale_forbidden stored.fields ≡ true → (may_be_served asked stored moment ≡ false) × (may_replace asked stored moment ≡ false)
  stale_forbids stale forbidden = (
    third_fails (may_be_used asked stored) (allows_age (age_at stored moment) (seconds_said (codes "max-age") asked)) (is_fresh_enough asked stored moment || is_permitted_stale asked stored moment)
        (neither_forbidden (is_fresh stored moment) _ (stale_forbidden stored.fields) (asks_for_fresh (seconds_said (codes "min-fresh") asked))
        (permits_by_request 0 asked stored moment || while_revalidating stored moment) stale forbidden),
    last_fails (may_be_used asked stored) (is_fresh stored moment || (not (stale_forbidden stored.fields) && permits_on_error 0 asked stored moment))
        (never_replaces (is_fresh stored moment) (stale_forbidden stored.fields) (permits_on_error 0 asked stored moment) stale forbidden),
  )

  pub min_fresh_forbids : is_fresh stored moment ≡ false → asks_for_fresh (seconds_said (codes "min-fresh") asked) ≡ true → may_be_served asked stored moment ≡ false
  min_fresh_forbids stale asks =
      third_fails (may_be_used asked stored) (allows_age (age_at stored moment) (seconds_said (codes "max-age") asked)) (is_fresh_enough asked stored moment || is_permitted_stale asked stored moment)
      (neither_wanted (is_fresh stored moment) _ (stale_forbidden stored.fields) (asks_for_fresh (seconds_said (codes "min-fresh") asked))
      (permits_by_request 0 asked stored moment || while_revalidating stored moment) stale asks)

  pub max_age_forbids : allows_age (age_at stored moment) (seconds_said (codes "max-age") asked) ≡ false → may_be_served asked stored moment ≡ false
  max_age_forbids old =
      second_fails (may_be_used asked stored) (allows_age (age_at stored moment) (seconds_said (codes "max-age") asked)) (is_fresh_enough asked stored moment || is_permitted_stale asked stored moment) old
