-- Moments: laws of the definitions.
use Rattle.std.proofs.Common.{◌≡◌, ℕ, ◌+◌, ◌-◌, ◌/◌, ◌<◌, ◌≤◌, ◌⊎◌, ◌↔◌, Bool, true, ◌==◌, ◌||◌, Option, Some, None, IfSome, IsSome, IsTrue, max, min, nat_le, nat_lt, refl, sym, ◌∙◌, ap, subst, inl, inr, arith, leb-true, le-leb, le_of_eq, le_refl, true≢false}
use Rattle.std.proofs.lemmas.Bool.{and_from, and_parts, cond_both, ltb-true, or_cases, or_left, or_right}
use Rattle.hc_transcript.specs.Limits.{greatest_moment}
use Rattle.hc_agenda.specs.Moments.{GoesOnFrom, HasBeenAhead, History, IsAheadBy, IsNeverAhead, IsNotAhead, Reading, counted_in, followed_behind, followed_in, has_been_ahead_by, is_about, is_ahead_back, lead_over, moment_in, moment_with, newest_wall, second_of, start_wall_in, time_with}
use Rattle.hc_agenda.specs.Moments.History.{Start, Look}

-- ---- what is followed

-- a reading of both clocks behind a history
abbrev pub read : Option ℕ → ℕ → History → History
read wall monotonic before = Look (record { wall = wall; monotonic = monotonic }) before

-- what was followed stays so
followed_more : (followed : ℕ) (wall : Option ℕ) (h : History) → followed ≤ followed_behind followed wall h
followed_more followed None h = le_refl followed
followed_more followed (Some wall) h =
    let lead = lead_over (moment_with followed h) wall in
    cond_both (has_been_ahead_by lead followed (counted_in h) h) (followed + (wall - time_with followed h)) followed (λ (n : ℕ). followed ≤ n) (λ been. omega arith) (λ been. le_refl followed)

-- where more was counted and no less followed, the moment is no less
later_moment : (start followed more counted newest most : ℕ) → followed ≤ more
    → min ((start + followed + counted) / 1_000_000_000) most ≤ min ((start + more + max counted newest) / 1_000_000_000) most
later_moment start followed more counted newest most goes = omega arith

-- moments never go back
pub goes_forward : (reading : Reading) (h : History) → moment_in h ≤ moment_in (Look reading h)
goes_forward reading h = later_moment _ (followed_in h) (followed_in (Look reading h)) (counted_in h) _ greatest_moment (followed_more (followed_in h) reading.wall (Look reading h))

-- ---- a wall clock that was never ahead

-- where the wall clock has been ahead by as much as it is, it is ahead
is_ahead : (now counted moment wall : ℕ) (before : Bool) → is_ahead_back (lead_over moment wall) now counted moment (Some wall) before ≡ true → 0 < lead_over moment wall
is_ahead now counted moment wall before been =
    let lead : ℕ = lead_over moment wall in
    let about = and_parts (is_about lead lead) (nat_le (counted + 5_000_000_000) now || before) been in
    let some = and_parts (nat_lt 0 lead) (lead == lead || (lead + 1 == lead || lead == lead + 1)) about.0 in
    ltb-true 0 lead some.0

-- where nothing was followed, a reading that isn't ahead isn't followed
not_followed : (wall : Option ℕ) (monotonic : ℕ) (before : History) → followed_in before ≡ 0 → IsNotAhead (moment_with 0 (read wall monotonic before)) wall
    → followed_in (read wall monotonic before) ≡ 0
not_followed None monotonic before none not = none
not_followed (Some wall) monotonic before none not =
    let here : History = read (Some wall) monotonic before in
    let lead : ℕ = lead_over (moment_with 0 here) wall in
    subst (λ (f : ℕ). followed_behind f (Some wall) here ≡ 0) (sym none)
    (cond_both (has_been_ahead_by lead 0 (counted_in here) here) (0 + (wall - time_with 0 here)) 0 (λ (n : ℕ). n ≡ 0)
    (λ been. let some = is_ahead (counted_in here) (counted_in here) (moment_with 0 here) wall (has_been_ahead_by lead 0 (counted_in here) before) been in absurd (omega (arith, not))) (λ been. refl))

-- a wall clock that was never ahead was never followed
pub never_followed : (h : History) → IsNeverAhead h → followed_in h ≡ 0
never_followed (Start reading) never = refl
never_followed (Look reading before) never = not_followed reading.wall reading.monotonic before (never_followed before never.1) never.0

-- a sum of which one part is none
no_more : (start followed counted : ℕ) → followed ≡ 0 → start + followed + counted ≡ start + counted
no_more start followed counted none = omega arith

-- where it was never ahead, the moment is as it was counted
pub as_counted : (h : History) → IsNeverAhead h → moment_in h ≡ min ((start_wall_in h + counted_in h) / 1_000_000_000) greatest_moment
as_counted h never = ap second_of (no_more (start_wall_in h) (followed_in h) (counted_in h) (never_followed h never))

-- ---- a wall clock that is followed

-- where a lead was followed, no more of it is left
all_followed : (start followed counted wall : ℕ) → followed < followed + (wall - (start + followed + counted)) → start + (followed + (wall - (start + followed + counted))) + counted ≡ wall
all_followed start followed counted wall more = omega arith

-- where a wall clock is followed, the moment is its second
pub catches_up : (other : Option ℕ) (monotonic wall : ℕ) (before : History) → followed_in before < followed_in (read other monotonic before) → other ≡ Some wall
    → moment_in (read other monotonic before) ≡ min (wall / 1_000_000_000) greatest_moment
catches_up None monotonic wall before more is = absurd (omega arith)
catches_up (Some other) monotonic wall before more is =
    let here : History = read (Some other) monotonic before in
    let followed : ℕ = followed_in before in
    let lead : ℕ = lead_over (moment_with followed here) other in
    let same : other ≡ wall = cc in
    cond_both (has_been_ahead_by lead followed (counted_in here) here) (followed + (other - time_with followed here)) followed
    (λ (n : ℕ). followed < n → moment_with n here ≡ second_of wall)
    (λ been goes. ap second_of (all_followed (start_wall_in here) followed (counted_in here) other goes ∙ same))
    (λ been goes. absurd (omega arith)) more

-- ---- the five seconds

-- how often the clocks were looked at
abbrev looks_in : History → ℕ
looks_in (Start reading) = 0
looks_in (Look reading before) = looks_in before + 1

-- who goes on from a history has looked no less often
no_fewer : (h earlier : History) → GoesOnFrom earlier h → looks_in earlier ≤ looks_in h
no_fewer (Start reading) earlier is = le_of_eq (ap looks_in is)
no_fewer (Look reading before) earlier (inl is) = le_of_eq (ap looks_in is)
no_fewer (Look reading before) earlier (inr on) = let fewer = no_fewer before earlier on in omega arith

-- what a look tells of itself and of those before it
parts : (d now counted moment : ℕ) (wall : Option ℕ) (before : Bool) → is_ahead_back d now counted moment wall before ≡ true
    → IfSome wall (λ w. is_about d (lead_over moment w) ≡ true) × ((IsSome wall × (counted + 5_000_000_000 ≤ now)) ⊎ (before ≡ true))
parts d now counted moment None before been = (tt, inr been)
parts d now counted moment (Some wall) before been =
    let both = and_parts (is_about d (lead_over moment wall)) (nat_le (counted + 5_000_000_000) now || before) been in
    (both.0, elim (or_cases (nat_le (counted + 5_000_000_000) now) before both.1) [ inl old ↦ inl (refl, leb-true (counted + 5_000_000_000) now old) | inr so ↦ inr so ])

-- and what it is told by
joined : (d now counted moment : ℕ) (wall : Option ℕ) (before : Bool) → IfSome wall (λ w. is_about d (lead_over moment w) ≡ true)
    → (IsSome wall × (counted + 5_000_000_000 ≤ now)) ⊎ (before ≡ true) → is_ahead_back d now counted moment wall before ≡ true
joined d now counted moment None before here (inl old) = absurd (true≢false (sym old.0))
joined d now counted moment None before here (inr so) = so
joined d now counted moment (Some wall) before here (inl old) = and_from (is_about d (lead_over moment wall)) (nat_le (counted + 5_000_000_000) now || before) here (or_left (nat_le (counted + 5_000_000_000) now) before (le-leb (counted + 5_000_000_000) now old.1))
joined d now counted moment (Some wall) before here (inr so) = and_from (is_about d (lead_over moment wall)) (nat_le (counted + 5_000_000_000) now || before) here (or_right (nat_le (counted + 5_000_000_000) now) before so)

-- what the test says is so
pub is_so : (d followed now : ℕ) (h : History) → has_been_ahead_by d followed now h ≡ true → HasBeenAhead d followed now h
is_so d followed now (Start reading) been = absurd (true≢false (sym been))
is_so d followed now (Look reading before) been =
    let here : History = Look reading before in
    let two = parts d now (counted_in here) (moment_with followed here) reading.wall (has_been_ahead_by d followed now before) been in
    elim two.1 [
      | inl old ↦ record {
        since = here;
        goes_on = inl refl;
        could_be_read = old.0;
        old = old.1;
        all = λ look later on. elim on [
          | inl is ↦ subst (λ (x : History). IsAheadBy d followed x) (sym is) two.0
          | inr earlier ↦ let more = no_fewer look here later in let fewer = no_fewer before look earlier in absurd (omega arith)
        ];
      }
      | inr so ↦ let e = is_so d followed now before so in record {
        since = e.since;
        goes_on = inr e.goes_on;
        could_be_read = e.could_be_read;
        old = e.old;
        all = λ look later on. elim on [
          | inl is ↦ subst (λ (x : History). IsAheadBy d followed x) (sym is) two.0
          | inr earlier ↦ e.all look later earlier
        ];
      }
    ]

-- what is so is what the test says
pub says_so : (d followed now : ℕ) (h since : History) → GoesOnFrom since h → IsSome (newest_wall since) → counted_in since + 5_000_000_000 ≤ now
    → ((look : History) → GoesOnFrom since look → GoesOnFrom look h → IsAheadBy d followed look) → has_been_ahead_by d followed now h ≡ true
says_so d followed now (Start reading) since is some old all = absurd (true≢false (sym (subst (λ (x : History). IsSome (newest_wall x)) is some)))
says_so d followed now (Look reading before) since (inl is) some old all =
    let here : History = Look reading before in
    joined d now (counted_in here) (moment_with followed here) reading.wall (has_been_ahead_by d followed now before)
    (all here (inl is) (inl refl))
    (inl (subst (λ (x : History). IsSome (newest_wall x)) is some, subst (λ (x : History). counted_in x + 5_000_000_000 ≤ now) is old))
says_so d followed now (Look reading before) since (inr on) some old all =
    let here : History = Look reading before in
    joined d now (counted_in here) (moment_with followed here) reading.wall (has_been_ahead_by d followed now before)
    (all here (inr on) (inl refl))
    (inr (says_so d followed now before since on some old (λ look later earlier. all look later (inr earlier))))

-- the test is one of five seconds
pub steady_test : (d followed now : ℕ) (h : History) → IsTrue (has_been_ahead_by d followed now h) ↔ HasBeenAhead d followed now h
steady_test d followed now h = (is_so d followed now h, λ been. says_so d followed now h been.since been.goes_on been.could_be_read been.old been.all)
