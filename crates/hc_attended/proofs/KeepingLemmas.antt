-- What the calls of a crowd's traffic keep goes on from one to the next.
use Rattle.std.proofs.Common.{◌≡◌, ℕ, Bool, true, false, List, Option, Some, None, Result, Ok, Err, arith, refl, sym, subst, true≢false}
use Rattle.hc_service.specs.declared.event.Happening.TheVariants.{Stopping}
use Rattle.std.specs.declared.alloc.AllocError.{AllocError}
use Rattle.hc_links.specs.declared.happened.Happened.{Happened}
use Rattle.hc_peers.specs.declared.client.Hearing.{Hearing}
use Rattle.hc_peers.specs.declared.peers.Peers.{Peers}
use Rattle.hc_order.specs.declared.occurrence.Reason.{Reason}
use Rattle.hc_order.specs.declared.occurrence.Reason.TheVariants.{Peer, Replies, Reads, Stop, Late, Reset, Held, Displaced, Abandoned}
use Rattle.hc_flow.specs.declared.heard.Heard.{Heard}
use Rattle.hc_flow.specs.declared.heard.Heard.TheVariants.{Octets, End, Lost, Nothing}
use Rattle.hc_peers.specs.Heard.{IsAnswerOf, NoAnswer}
use Rattle.hc_peers.specs.Hearings.{IsHeardFor, IsToldAtOnce}
use Rattle.hc_peers.specs.Peers.Bounds.{AtMost}
use Rattle.hc_peers.proofs.PeerLemmas.{heard_by, told_on}
use Rattle.hc_peers.specs.Keeping.{Hears, HearsWithin, KeepsPeers, KeepsWithin}

module _ {S : Type 0} {has_given has_got : S → List ℕ → Type 0} where
  -- where nothing changes
  pub keeps_same : {peers : Peers S} → KeepsPeers has_given has_got peers peers
  keeps_same {peers} = record { tells = λ bounds log t. t; shown = λ log s. s }

  -- one call behind another
  pub keeps_then : {before between after : Peers S} → KeepsPeers has_given has_got before between → KeepsPeers has_given has_got between after → KeepsPeers has_given has_got before after
  keeps_then one other = record {
    tells = λ bounds log t. other.tells bounds log (one.tells bounds log t);
    shown = λ log s. other.shown log (one.shown log s);
  }

  -- whatever bounds keep, a bound on clients keeps
  pub keeps_within : {most : ℕ} {before after : Peers S} → KeepsPeers has_given has_got before after → KeepsWithin has_given has_got most before after
  keeps_within {most} kept = record { tells = λ origin log t. kept.tells (AtMost most origin) log t; shown = kept.shown }

  pub within_then : {most : ℕ} {before between after : Peers S} → KeepsWithin has_given has_got most before between → KeepsWithin has_given has_got most between after
      → KeepsWithin has_given has_got most before after
  within_then one other = record {
    tells = λ origin log t. other.tells origin log (one.tells origin log t);
    shown = λ log s. other.shown log (one.shown log s);
  }

  -- something is heard behind a call
  pub then_hears : {awaited : ℕ → Bool → Type 0} {result : Result (Option Happened) AllocError} {before between after : Peers S}
      → KeepsPeers has_given has_got before between → Hears has_given has_got awaited result between after → Hears has_given has_got awaited result before after
  then_hears kept heard = record {
    tells = λ bounds log t. heard.tells bounds log (kept.tells bounds log t);
    may = λ most bounds log t. heard.may most bounds log (kept.tells bounds log t);
    in_turn = heard.in_turn;
    shown = λ log s. heard.shown log (kept.shown log s);
  }

  pub then_hears_within : {most : ℕ} {awaited : ℕ → Bool → Type 0} {result : Result (Option Happened) AllocError} {before between after : Peers S}
      → KeepsWithin has_given has_got most before between → HearsWithin has_given has_got most awaited result between after → HearsWithin has_given has_got most awaited result before after
  then_hears_within kept heard = record {
    tells = λ origin log t. heard.tells origin log (kept.tells origin log t);
    may = λ origin log t. heard.may origin log (kept.tells origin log t);
    in_turn = heard.in_turn;
    shown = λ log s. heard.shown log (kept.shown log s);
  }

  -- a call behind what was heard
  pub hears_then : {awaited : ℕ → Bool → Type 0} {result : Result (Option Happened) AllocError} {before between after : Peers S}
      → Hears has_given has_got awaited result before between → KeepsPeers has_given has_got between after → Hears has_given has_got awaited result before after
  hears_then {awaited} {result} {before} {between} {after} heard kept = record {
    tells = λ bounds log t. told_on has_given has_got bounds between after (kept.tells bounds) result log (heard.tells bounds log t);
    may = heard.may;
    in_turn = heard.in_turn;
    shown = λ log s. kept.shown log (heard.shown log s);
  }

  -- nothing was heard
  pub hears_nothing : {awaited : ℕ → Bool → Type 0} {before after : Peers S} → KeepsPeers has_given has_got before after → Hears has_given has_got awaited (Ok None) before after
  hears_nothing kept = record { tells = kept.tells; may = λ most bounds log t. tt; in_turn = tt; shown = kept.shown }

  pub hears_nothing_within : {most : ℕ} {awaited : ℕ → Bool → Type 0} {before after : Peers S} → KeepsWithin has_given has_got most before after
      → HearsWithin has_given has_got most awaited (Ok None) before after
  hears_nothing_within kept = record { tells = kept.tells; may = λ origin log t. tt; in_turn = tt; shown = kept.shown }

  -- memory was refused
  pub hears_refused_within : {most : ℕ} {awaited : ℕ → Bool → Type 0} {refused : AllocError} {before after : Peers S} → KeepsWithin has_given has_got most before after
      → HearsWithin has_given has_got most awaited (Err refused) before after
  hears_refused_within kept = record { tells = kept.tells; may = λ origin log t. tt; in_turn = tt; shown = kept.shown }

  pub hears_refused : {awaited : ℕ → Bool → Type 0} {refused : AllocError} {before after : Peers S} → KeepsPeers has_given has_got before after
      → Hears has_given has_got awaited (Err refused) before after
  hears_refused kept = record { tells = kept.tells; may = λ most bounds log t. tt; in_turn = tt; shown = kept.shown }

  -- the other way round
  pub keeps_nothing : {awaited : ℕ → Bool → Type 0} {before after : Peers S} → Hears has_given has_got awaited (Ok None) before after → KeepsPeers has_given has_got before after
  keeps_nothing heard = record { tells = heard.tells; shown = heard.shown }

  pub keeps_refused : {awaited : ℕ → Bool → Type 0} {refused : AllocError} {before after : Peers S} → Hears has_given has_got awaited (Err refused) before after
      → KeepsPeers has_given has_got before after
  keeps_refused heard = record { tells = heard.tells; shown = heard.shown }

  pub within_nothing : {most : ℕ} {awaited : ℕ → Bool → Type 0} {before after : Peers S} → HearsWithin has_given has_got most awaited (Ok None) before after
      → KeepsWithin has_given has_got most before after
  within_nothing heard = record { tells = heard.tells; shown = heard.shown }

  pub within_refused : {most : ℕ} {awaited : ℕ → Bool → Type 0} {refused : AllocError} {before after : Peers S} → HearsWithin has_given has_got most awaited (Err refused) before after
      → KeepsWithin has_given has_got most before after
  within_refused heard = record { tells = heard.tells; shown = heard.shown }

  -- whatever bounds there are, it is heard where there may be so many clients
  pub hears_within : {most : ℕ} {awaited : ℕ → Bool → Type 0} {result : Result (Option Happened) AllocError} {before after : Peers S}
      → Hears has_given has_got awaited result before after → HearsWithin has_given has_got most awaited result before after
  hears_within {most} heard = record {
    tells = λ origin log t. heard.tells (AtMost most origin) log t;
    may = λ origin log t. heard.may most (AtMost most origin) log t;
    in_turn = heard.in_turn;
    shown = heard.shown;
  }

  -- what never waits is in turn whatever is awaited
  pub hears_at_once : {awaited : ℕ → Bool → Type 0} {result : Result (Option Happened) AllocError} {before after : Peers S}
      → Hears has_given has_got NoAnswer result before after → Hears has_given has_got awaited result before after
  hears_at_once {awaited} {result} heard = record {
    tells = heard.tells;
    may = heard.may;
    in_turn = heard_by NoAnswer awaited result heard.in_turn (λ c answer none. absurd none);
    shown = heard.shown;
  }

  pub hears_at_once_within : {most : ℕ} {awaited : ℕ → Bool → Type 0} {result : Result (Option Happened) AllocError} {before after : Peers S}
      → HearsWithin has_given has_got most NoAnswer result before after → HearsWithin has_given has_got most awaited result before after
  hears_at_once_within {most} {awaited} {result} heard = record {
    tells = heard.tells;
    may = heard.may;
    in_turn = heard_by NoAnswer awaited result heard.in_turn (λ c answer none. absurd none);
    shown = heard.shown;
  }

  -- what waits for one connection has waited by the answer about it
  pub hears_by_answer : {awaited : ℕ → Bool → Type 0} {c : ℕ} {answer : Bool} {result : Result (Option Happened) AllocError} {before after : Peers S}
      → awaited c answer → Hears has_given has_got (IsAnswerOf c answer) result before after → Hears has_given has_got awaited result before after
  hears_by_answer {awaited} {c} {answer} {result} answered heard = record {
    tells = heard.tells;
    may = heard.may;
    in_turn = heard_by (IsAnswerOf c answer) awaited result heard.in_turn (λ d other is. rw (is.0, is.1) answered);
    shown = heard.shown;
  }

  -- a stop is told at any time, and is of no link
  pub hears_stop : {most : ℕ} {awaited : ℕ → Bool → Type 0} {before after : Peers S} → after ≡ before
      → HearsWithin has_given has_got most awaited (Ok (Some (record { of = Stopping; reason = Stop }))) before after
  hears_stop {most} {awaited} {before} {after} same = subst (λ (peers : Peers S). HearsWithin has_given has_got most awaited (Ok (Some (record { of = Stopping; reason = Stop }))) before peers) (sym same) (record {
    tells = λ origin log t moment. record { clients = t.clients; forwards = t.forwards; guests = t.guests; last = t.last; count = omega (arith, t.count); few = t.few };
    may = λ origin log t. tt;
    in_turn = tt;
    shown = λ log s. s;
  })

-- ---- reasons

-- a client is heard for a reason, whatever says that its link has failed
ended_for : (hearing : Hearing) (cut : Bool) (F G : Type 0) (reason : Reason) → (F → G) → IsHeardFor hearing cut F (Ok (End reason)) → IsHeardFor hearing cut G (Ok (End reason))
ended_for hearing cut F G Peer fails is = is
ended_for hearing cut F G Replies fails is = is
ended_for hearing cut F G Reads fails is = is
ended_for hearing cut F G Stop fails is = is
ended_for hearing cut F G Late fails is = is
ended_for hearing cut F G Reset fails is = fails is
ended_for hearing cut F G Held fails is = is
ended_for hearing cut F G Displaced fails is = is
ended_for hearing cut F G Abandoned fails is = is

pub heard_for : (hearing : Hearing) (cut : Bool) (F G : Type 0) (result : Result Heard AllocError) → (F → G) → IsHeardFor hearing cut F result → IsHeardFor hearing cut G result
heard_for hearing cut F G (Ok (Octets octets)) fails is = is
heard_for hearing cut F G (Ok (End reason)) fails is = ended_for hearing cut F G reason fails is
heard_for hearing cut F G (Ok (Lost reason)) fails is = is
heard_for hearing cut F G (Ok Nothing) fails is = tt
heard_for hearing cut F G (Err refused) fails is = tt

-- what is told at once where a time is over is told where that is sure
pub told_at_once : (cut late surely_late : Bool) (result : Result Heard AllocError) → (surely_late ≡ true → late ≡ true) → IsToldAtOnce cut late result → IsToldAtOnce cut surely_late result
told_at_once true late surely_late result surely is = is
told_at_once false true true result surely is = is
told_at_once false false true result surely is = absurd (true≢false (sym (surely refl)))
told_at_once false late false result surely is = tt
