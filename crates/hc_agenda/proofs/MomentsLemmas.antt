-- Moments: what is kept of the clocks goes on with each reading.
use Rattle.std.proofs.Common.{◌≡◌, ℕ, ◌+◌, ◌-◌, ◌/◌, ◌≤◌, Bool, ◌&&◌, ◌||◌, Option, Some, None, max, nat_lt, sym, ◌∙◌, ap, subst, arith}
use Rattle.std.proofs.Math.Nat.{min-le_right}
use Rattle.std.proofs.lemmas.Bool.Decides.{nat_tests}
use Rattle.hc_transcript.specs.Limits.{greatest_moment}
use Rattle.hc_agenda.specs.declared.moments.Lead.{Lead}
use Rattle.hc_agenda.specs.declared.moments.Moments.{Moments}
use Rattle.hc_agenda.specs.Moments.{History, followed_in, is_about, moment_in, moment_with}
use Rattle.hc_agenda.specs.Moments.History.{Look}
use Rattle.hc_agenda.specs.MomentsKept.{HasBegunIfAny, Keeps, Tells, answer_for, lasts, told_by}

-- ---- leads

-- what is told of three numbers by what is told of each
pub told_of : (s less more d : ℕ) (e x y z : Bool) (f : ℕ → Bool) → less + 1 ≡ s → more ≡ s + 1 → x ≡ (e || f s) → y ≡ (e || f less) → z ≡ (e || f more)
    → answer_for s x y z d ≡ (is_about d s && (e || f d))
told_of s less more d e x y z f one_less one_more same below above = grind (arith, nat_tests)

-- a lead that has begun has done so later
pub begun_later : (lead : Option Lead) (counted later : ℕ) → counted ≤ later → HasBegunIfAny counted lead → HasBegunIfAny later lead
begun_later None counted later more begun = tt
begun_later (Some lead) counted later more begun = record { same = omega (arith, begun.same); less = omega (arith, begun.less); more = omega (arith, begun.more) }

-- ---- what is kept

-- what is told by what is kept is the moment
pub told_is : (m : Moments) (f : ℕ) (h leads : History) → Keeps m f h leads → told_by m ≡ moment_with f h
told_is m f h leads k = let base = k.base in let counted = k.counted in cc

-- and a transcript can tell it
pub in_time : (m : Moments) → told_by m ≤ greatest_moment
in_time m = min-le_right ((m.base + m.counted) / 1_000_000_000) greatest_moment

-- ---- a look

-- a reading of both clocks behind a history
abbrev pub looked : ℕ → ℕ → History → History
looked wall monotonic before = Look (record { wall = Some wall; monotonic = monotonic }) before

-- the monotonic clock was read
pub counts : (m new : Moments) (wall : Option ℕ) (monotonic : ℕ) (h : History) → Tells m h
    → new.base ≡ m.base → new.start ≡ m.start → new.counted ≡ max m.counted (monotonic - m.start) → new.lead ≡ m.lead
    → Keeps new (followed_in h) (Look (record { wall = wall; monotonic = monotonic }) h) h
counts m new wall monotonic h told base start counted lead =
    let counted_before = told.keeps.counted in
    let start_before = told.keeps.start in
    let later : m.counted ≤ new.counted = omega arith in
    record {
      base = base ∙ told.keeps.base;
      start = start ∙ told.keeps.start;
      counted = cc;
      lasting = λ d now. ap (λ (l : Option Lead). lasts l d now) lead ∙ told.keeps.lasting d now;
      begun = subst (λ (l : Option Lead). HasBegunIfAny new.counted l) (sym lead) (begun_later m.lead m.counted new.counted later told.keeps.begun);
    }

-- a clock that is behind by more than so many seconds is before the moment that is so many before
behind_is : (wall moment : ℕ) → nat_lt wall (moment - 10) ≡ nat_lt (wall + 10) moment
behind_is wall moment = grind (arith, nat_tests)

-- the wall clock was read, and followed or not
pub tells_read : (m new : Moments) (wall monotonic : ℕ) (h : History) → Keeps m (followed_in (looked wall monotonic h)) (looked wall monotonic h) (looked wall monotonic h)
    → new.base ≡ m.base → new.start ≡ m.start → new.counted ≡ m.counted → new.lead ≡ m.lead → new.behind ≡ nat_lt (wall / 1_000_000_000) (told_by m - 10)
    → Tells new (looked wall monotonic h)
tells_read m new wall monotonic h keeps base start counted lead behind = record {
  keeps = record {
    base = base ∙ keeps.base;
    start = start ∙ keeps.start;
    counted = counted ∙ keeps.counted;
    lasting = λ d now. ap (λ (l : Option Lead). lasts l d now) lead ∙ keeps.lasting d now;
    begun = subst (λ (n : ℕ). HasBegunIfAny n new.lead) (sym counted) (subst (λ (l : Option Lead). HasBegunIfAny m.counted l) (sym lead) keeps.begun);
  };
  behind = behind ∙ ap (λ (n : ℕ). nat_lt (wall / 1_000_000_000) (n - 10)) (told_is m (followed_in (looked wall monotonic h)) (looked wall monotonic h) (looked wall monotonic h) keeps) ∙ behind_is (wall / 1_000_000_000) (moment_in (looked wall monotonic h));
}
