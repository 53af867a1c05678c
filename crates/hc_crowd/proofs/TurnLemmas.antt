-- What ends in a turn.
use Rattle.std.proofs.Common.{arith, ◌≡◌, ◌∙◌, ◌⊎◌, ◌&&◌, ◌||◌, not, ℕ, Bool, true, false, Result, Ok, Err, inl, inr, refl, subst, suc, zero, sym, true≢false, nat_lt}
use Rattle.std.proofs.lemmas.Bool.Decides.{nat_tests}
use Rattle.std.specs.declared.alloc.AllocError.{AllocError}
use Rattle.hc_flow.specs.declared.heard.Heard.{Heard}
use Rattle.hc_flow.specs.declared.heard.Heard.TheVariants.{Octets, End, Lost, Nothing}
use Rattle.hc_order.specs.declared.occurrence.Reason.{Reason}
use Rattle.hc_order.specs.declared.occurrence.Reason.TheVariants.{Peer, Replies, Reads, Stop, Late, Reset, Held, Displaced, Abandoned}
use Rattle.hc_order.specs.declared.receiver.Receiver.{Receiver}
use Rattle.hc_order.specs.declared.receiver.Receiver.TheVariants.{Client, Origin}
use Rattle.hc_peers.specs.declared.client.Hearing.{Hearing}
use Rattle.hc_peers.specs.Heard.{told}
use Rattle.hc_peers.specs.Hearings.{IsHeardFor, IsRead}
use Rattle.hc_service.specs.declared.event.Happening.TheVariants.{ClientEnd}
use Rattle.hc_flow.specs.declared.patience.Patience.{Patience}
use Rattle.hc_peers.specs.Peers.{is_client_overdue}
use Rattle.hc_peers.specs.declared.peers.Peers.{Peers}
use Rattle.hc_crowd.specs.declared.course.Course.{Course}
use Rattle.hc_crowd.specs.Courses.{EndsUnawaited, EndsUnbegun, IsEndUnawaited, is_for_others, is_late, is_over_for}

some_held : (k : ℕ) → nat_lt 0 (suc k) ≡ true
some_held k = grind (arith, nat_tests)

module _ (holds : Receiver → ℕ → Type 0) where
  -- a client ends for the sake of others only where nothing is held of it
  ended : (n : ℕ) (hearing : Hearing) (cut : Bool) (F : Type 0) (held : ℕ) (reason : Reason) → holds (Client n) held → (nat_lt 0 held ≡ true → IsRead hearing)
      → IsHeardFor hearing cut F (Ok (End reason)) → is_for_others reason ≡ true → holds (Client n) 0
  ended n hearing cut F zero reason has begun is others = has
  ended n hearing cut F (suc k) Stop has begun is others = absurd (true≢false (sym is ∙ (begun (some_held k)).0))
  ended n hearing cut F (suc k) Displaced has begun is others = absurd (true≢false (sym is ∙ (begun (some_held k)).1))
  ended n hearing cut F (suc k) Peer has begun is others = absurd (true≢false (sym others))
  ended n hearing cut F (suc k) Replies has begun is others = absurd (true≢false (sym others))
  ended n hearing cut F (suc k) Reads has begun is others = absurd (true≢false (sym others))
  ended n hearing cut F (suc k) Late has begun is others = absurd (true≢false (sym others))
  ended n hearing cut F (suc k) Reset has begun is others = absurd (true≢false (sym others))
  ended n hearing cut F (suc k) Held has begun is others = absurd (true≢false (sym others))
  ended n hearing cut F (suc k) Abandoned has begun is others = absurd (true≢false (sym others))

  pub client_ends : (n : ℕ) (hearing : Hearing) (cut : Bool) (F : Type 0) (held : ℕ) (result : Result Heard AllocError) → holds (Client n) held → (nat_lt 0 held ≡ true → IsRead hearing)
      → IsHeardFor hearing cut F result → EndsUnbegun holds (told (Client n) result)
  client_ends n hearing cut F held (Ok (Octets octets)) has begun is = tt
  client_ends n hearing cut F held (Ok (End reason)) has begun is = ended n hearing cut F held reason has begun is
  client_ends n hearing cut F held (Ok (Lost reason)) has begun is = tt
  client_ends n hearing cut F held (Ok Nothing) has begun is = tt
  client_ends n hearing cut F held (Err refused) has begun is = tt

  -- what is heard of a forward ends no client
  pub forward_ends : (f : ℕ) (result : Result Heard AllocError) → EndsUnbegun holds (told (Origin f) result)
  forward_ends f (Ok (Octets octets)) = tt
  forward_ends f (Ok (End reason)) = tt
  forward_ends f (Ok (Lost reason)) = tt
  forward_ends f (Ok Nothing) = tt
  forward_ends f (Err refused) = tt

-- ---- that its time is over

over_by : (late awaited overdue : Bool) → (late || (not awaited && overdue)) ≡ true → (late ≡ true) ⊎ (awaited ≡ false)
over_by true awaited overdue e = inl refl
over_by false false overdue e = inr refl
over_by false true overdue e = cc

module _ (awaited : ℕ → Bool → Type 0) where
  unawaited : (n : ℕ) (late answer : Bool) → awaited n answer → (late ≡ true) ⊎ (answer ≡ false) → (late ≡ true) ⊎ awaited n false
  unawaited n late answer says (inl is) = inl is
  unawaited n late answer says (inr none) = inr (subst (awaited n) none says)

  ended_in_time : {S : Type 0} (n : ℕ) (course : Course) (peers : Peers S) (patience : Patience) (hearing : Hearing) (cut : Bool) (F : Type 0) (reason : Reason) → awaited n hearing.awaited
      → (hearing.late ≡ true → is_over_for course peers n hearing.awaited hearing.tick patience ≡ true) → IsHeardFor hearing cut F (Ok (End reason)) → IsEndUnawaited awaited (is_late course) (ClientEnd n) reason
  ended_in_time n course peers patience hearing cut F Late says over is =
      unawaited n (is_late course) hearing.awaited says (over_by (is_late course) hearing.awaited (is_client_overdue peers n hearing.tick patience) (over is))
  ended_in_time n course peers patience hearing cut F Peer says over is = tt
  ended_in_time n course peers patience hearing cut F Replies says over is = tt
  ended_in_time n course peers patience hearing cut F Reads says over is = tt
  ended_in_time n course peers patience hearing cut F Stop says over is = tt
  ended_in_time n course peers patience hearing cut F Reset says over is = tt
  ended_in_time n course peers patience hearing cut F Held says over is = tt
  ended_in_time n course peers patience hearing cut F Displaced says over is = tt
  ended_in_time n course peers patience hearing cut F Abandoned says over is = tt

  -- a client ends for its time only where none of its requests awaits its reply, or that behind a stop is over
  pub client_ends_in_time : {S : Type 0} (n : ℕ) (course : Course) (peers : Peers S) (patience : Patience) (hearing : Hearing) (cut : Bool) (F : Type 0) (result : Result Heard AllocError) → awaited n hearing.awaited
      → (hearing.late ≡ true → is_over_for course peers n hearing.awaited hearing.tick patience ≡ true) → IsHeardFor hearing cut F result → EndsUnawaited awaited (is_late course) (told (Client n) result)
  client_ends_in_time n course peers patience hearing cut F (Ok (Octets octets)) says over is = tt
  client_ends_in_time n course peers patience hearing cut F (Ok (End reason)) says over is = ended_in_time n course peers patience hearing cut F reason says over is
  client_ends_in_time n course peers patience hearing cut F (Ok (Lost reason)) says over is = tt
  client_ends_in_time n course peers patience hearing cut F (Ok Nothing) says over is = tt
  client_ends_in_time n course peers patience hearing cut F (Err refused) says over is = tt

  pub forward_ends_in_time : (f : ℕ) (late : Bool) (result : Result Heard AllocError) → EndsUnawaited awaited late (told (Origin f) result)
  forward_ends_in_time f late (Ok (Octets octets)) = tt
  forward_ends_in_time f late (Ok (End reason)) = tt
  forward_ends_in_time f late (Ok (Lost reason)) = tt
  forward_ends_in_time f late (Ok Nothing) = tt
  forward_ends_in_time f late (Err refused) = tt
