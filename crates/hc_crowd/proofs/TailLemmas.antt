-- A client whose time isn't over isn't late, and what ends one has its ground.
use Rattle.std.proofs.Common.{◌≡◌, ◌∙◌, ◌⊎◌, ◌&&◌, ◌||◌, not, ℕ, Bool, true, false, Option, refl, sym, subst, true≢false, inl, inr}
use Rattle.hc_flow.specs.declared.patience.Patience.{Patience}
use Rattle.hc_peers.specs.declared.client.Hearing.{Hearing}
use Rattle.hc_peers.specs.declared.peers.Peers.{Peers}
use Rattle.hc_peers.specs.Peers.{is_client_overdue}
use Rattle.hc_attended.specs.Grounds.{IsTimeOver, MayEnd, is_idle}
use Rattle.hc_crowd.specs.declared.course.Course.{Course}
use Rattle.hc_crowd.specs.declared.course.Course.TheVariants.{Serving, Ceasing, Draining, Late}
use Rattle.hc_crowd.specs.Courses.{HasGrounds, ends_idle, is_late, is_over_for, stops}

-- where something is only where another is, and that isn't, it isn't
not_late : (late over : Bool) → (late ≡ true → over ≡ true) → over ≡ false → late ≡ false
not_late true over only is = absurd (true≢false (sym (only refl) ∙ is))
not_late false over only is = refl

-- a client isn't late whose time isn't over
pub not_over : {S : Type 0} (course : Course) (peers : Peers S) (number : ℕ) (patience : Patience) (late awaited awaited' : Bool) (tick tick' : ℕ) → awaited ≡ awaited' → tick ≡ tick'
    → (late ≡ true → is_over_for course peers number awaited tick patience ≡ true) → is_over_for course peers number awaited' tick' patience ≡ false → late ≡ false
not_over course peers number patience late awaited awaited' tick tick' same alike only over =
    not_late late (is_over_for course peers number awaited' tick' patience)
    (λ is. subst (λ (p : Bool × ℕ). is_over_for course peers number p.0 p.1 patience ≡ true) (λ i. (same i, alike i)) (only is)) over

-- ---- grounds

late_stops : (course : Course) → is_late course ≡ true → stops course ≡ true
late_stops Serving is = absurd (true≢false (sym is))
late_stops (Ceasing idle_until until) is = refl
late_stops (Draining until) is = refl
late_stops Late is = refl

idle_stops : (course : Course) → ends_idle course ≡ true → stops course ≡ true
idle_stops Serving is = absurd (true≢false (sym is))
idle_stops (Ceasing idle_until until) is = refl
idle_stops (Draining until) is = refl
idle_stops Late is = refl

both : (a b : Bool) → (a && b) ≡ true → (a ≡ true) × (b ≡ true)
both true b e = (refl, e)
both false b e = cc

over_by : (late awaited overdue : Bool) → (late || (not awaited && overdue)) ≡ true → (late ≡ true) ⊎ ((awaited ≡ false) × (overdue ≡ true))
over_by true awaited overdue e = inl refl
over_by false false overdue e = inr (refl, e)
over_by false true overdue e = cc

stopped_or : {A : Type 0} (course : Course) (stop_asked : Bool) → (stops course ≡ true → stop_asked ≡ true) → (is_late course ≡ true) ⊎ A → (stop_asked ≡ true) ⊎ A
stopped_or course stop_asked asked (inl late) = inl (asked (late_stops course late))
stopped_or course stop_asked asked (inr other) = inr other

-- what ends a client by how far a crowd has come has its ground
pub may_end : {S : Type 0} (course : Course) (stop_asked : Bool) (giving_way : Option ℕ) (patience : Patience) (tick : ℕ) (peers : Peers S) (number : ℕ) (begun : Bool) (hearing : Hearing)
    → (stops course ≡ true → stop_asked ≡ true) → hearing.tick ≡ tick → HasGrounds course giving_way patience peers number begun hearing → MayEnd stop_asked patience tick peers number hearing
may_end course stop_asked giving_way patience tick peers number begun hearing asked now has = record {
  stops = λ is. let ends = both (ends_idle course) (is_idle peers number) (has.stops is) in (asked (idle_stops course ends.0), ends.1);
  late = λ is. subst (λ (t : ℕ). IsTimeOver stop_asked patience t peers number hearing.awaited) now
      (stopped_or course stop_asked asked (over_by (is_late course) hearing.awaited (is_client_overdue peers number hearing.tick patience) (has.late is)));
  gives_way = λ is. (has.gives_way is).1;
}
