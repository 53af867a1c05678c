-- What begins a script's octets, and what breaks them.
use Rattle.std.proofs.Common.{◌≡◌, ◌≢◌, ℕ, ◌<◌, ◌≤◌, Bool, true, false, ◌||◌, List, [], ◌∷◌, ◌++◌, length, drop, take, Result, Ok, Err, refl, sym, ap, subst, ◌∙◌, arith, inr, append_assoc, append-nil, length-append}
use Rattle.std.specs.Prelude.{nat_eq, IfErr}
use Rattle.std.specs.Result.{IsErrAnd}
use Rattle.std.specs.List.{list_any, starts_with, AllByRecursion}
use Rattle.std.proofs.lemmas.Slice.Eq.{bytes_eq-Decides}
use Rattle.std.proofs.lemmas.List.{take-append-drop, take-append-le}
use Rattle.std.proofs.lemmas.List.Folds.{list_any-append}
use Rattle.hc_service.specs.declared.event.Event.{Event}
use Rattle.hc_transcript.specs.Limits.{longest_line}
use Rattle.hc_transcript.specs.Lines.{is_feed, HasLongLine}
use Rattle.hc_scripts.specs.declared.fault.ScriptFault.{ScriptFault}
use Rattle.hc_scripts.specs.declared.kind.EventKind.{EventKind}
use Rattle.hc_scripts.specs.declared.kind.EventKind.TheVariants as kind
use Rattle.hc_scripts.specs.declared.fault.ScriptFault.TheVariants as fault
use Rattle.hc_scripts.specs.Scripts.{has_octets, line_text, kind_of, octets_of, line_of, octets_text, event_text, events_text, EventFits, opening, settings_text}
use Rattle.hc_scripts.specs.ScriptFaults.{HasLine, IsUnfinishedOpening, ScriptBreaks}
use Rattle.hc_scripts.specs.ScriptParts.{event_with, SplitsAt, BeginsSettings, BeginsEvent, AreEvents, EventsBreak}

-- ---- the opening

true_is_not_false : true ≡ false → ⊥
true_is_not_false e = cc

-- octets that the opening begins with, but that don't begin with it
pub opening_unfinished : (octets : List ℕ) → starts_with nat_eq opening octets ≡ true → starts_with nat_eq octets opening ≡ false → IsUnfinishedOpening octets
opening_unfinished octets front not_whole =
    let same : octets ≡ take (length octets) opening = (bytes_eq-Decides octets (take (length octets) opening)).0 front in
    let parts : opening ≡ octets ++ drop (length octets) opening =
    sym (take-append-drop (length octets) opening) ∙ ap (λ (t : List ℕ). t ++ drop (length octets) opening) (sym same) in (
      drop (length octets) opening,
      parts,
      λ none.
          let whole : octets ≡ opening = sym (append-nil octets) ∙ ap (λ (t : List ℕ). octets ++ t) (sym none) ∙ sym parts in
          true_is_not_false (sym (ap (λ (t : List ℕ). starts_with nat_eq t opening) whole) ∙ not_whole),
    )

-- ---- lines

front_lacks : (a b : Bool) → (a || b) ≡ false → a ≡ false
front_lacks true b e = absurd cc
front_lacks false b e = refl

pub take_lacks : (p : ℕ → Bool) (k : ℕ) (octets : List ℕ) → list_any p octets ≡ false → list_any p (take k octets) ≡ false
take_lacks p k octets lacks =
    front_lacks (list_any p (take k octets)) (list_any p (drop k octets)) (sym (list_any-append p (take k octets) (drop k octets)) ∙ ap (list_any p) (take-append-drop k octets) ∙ lacks)

-- many octets have no line feed
pub long_without_feed : (octets : List ℕ) → longest_line ≤ length octets → list_any is_feed octets ≡ false → HasLongLine octets
long_without_feed octets long lacks = record { long = long; no_feed = take_lacks is_feed longest_line octets lacks }

-- many octets stand before the first line feed
pub long_before_feed : (octets text behind : List ℕ) → SplitsAt 10 octets text behind → longest_line ≤ length text → HasLongLine octets
long_before_feed octets text behind splits long = record {
  long = omega (arith, long, ap length splits.octets_are, length-append text (10 ∷ behind));
  no_feed =
      ap (λ (o : List ℕ). list_any is_feed (take longest_line o)) splits.octets_are ∙ ap (list_any is_feed) (take-append-le longest_line text (10 ∷ behind) long)
      ∙ take_lacks is_feed longest_line text splits.none_before;
}

-- ---- events, one behind the other

-- the line of an event that brings no octets is all of it
pub begins_bare : (k : EventKind) (number moment size : ℕ) (text behind : List ℕ) → has_octets k ≡ false → HasLine text (record { kind = k; number = number; moment = moment; size = size }) behind
    → BeginsEvent text (event_with (record { kind = k; number = number; moment = moment; size = size }) []) behind
begins_bare kind.ClientOpened number moment size text behind bare has = record {
  text_is = has.octets_are ∙ sym (append_assoc (line_text (record { kind = kind.ClientOpened; number = number; moment = moment; size = size })) (10 ∷ []) behind);
  fits = record { told = tt; line = record { number = has.fits.number; moment = has.fits.moment; size = omega arith } };
}
begins_bare kind.ClientBytes number moment size text behind bare has = absurd (true_is_not_false bare)
begins_bare kind.ClientEnd number moment size text behind bare has = record {
  text_is = has.octets_are ∙ sym (append_assoc (line_text (record { kind = kind.ClientEnd; number = number; moment = moment; size = size })) (10 ∷ []) behind);
  fits = record { told = tt; line = record { number = has.fits.number; moment = has.fits.moment; size = omega arith } };
}
begins_bare kind.OriginBytes number moment size text behind bare has = absurd (true_is_not_false bare)
begins_bare kind.OriginEnd number moment size text behind bare has = record {
  text_is = has.octets_are ∙ sym (append_assoc (line_text (record { kind = kind.OriginEnd; number = number; moment = moment; size = size })) (10 ∷ []) behind);
  fits = record { told = tt; line = record { number = has.fits.number; moment = has.fits.moment; size = omega arith } };
}
begins_bare kind.OriginFailed number moment size text behind bare has = record {
  text_is = has.octets_are ∙ sym (append_assoc (line_text (record { kind = kind.OriginFailed; number = number; moment = moment; size = size })) (10 ∷ []) behind);
  fits = record { told = tt; line = record { number = has.fits.number; moment = has.fits.moment; size = omega arith } };
}

events_text-append : (events : List Event) (e : Event) → events_text (events ++ e ∷ []) ≡ events_text events ++ event_text e
events_text-append [] e = append-nil (event_text e)
events_text-append (x ∷ events) e =
    ap (λ (t : List ℕ). event_text x ++ t) (events_text-append events e) ∙ sym (append_assoc (event_text x) (events_text events) (event_text e))

pub fit_one_more : (events : List Event) (e : Event) → AllByRecursion EventFits events → EventFits e → AllByRecursion EventFits (events ++ e ∷ [])
fit_one_more [] e all fits = (fits, tt)
fit_one_more (x ∷ events) e all fits = (all.0, fit_one_more events e all.1 fits)

pub one_more_event : (text rest behind : List ℕ) (events : List Event) (e : Event) → text ≡ events_text events ++ rest → BeginsEvent rest e behind
    → text ≡ events_text (events ++ e ∷ []) ++ behind
one_more_event text rest behind events e so begins =
    so ∙ ap (λ (t : List ℕ). events_text events ++ t) begins.text_is ∙ sym (append_assoc (events_text events) (event_text e) behind)
    ∙ ap (λ (t : List ℕ). t ++ behind) (sym (events_text-append events e))

-- no rest is left
pub all_events : (text rest : List ℕ) (events : List Event) → text ≡ events_text events ++ rest → AllByRecursion EventFits events → rest ≡ [] → AreEvents text events
all_events text rest events so fit empty =
    record { text_is = so ∙ ap (λ (t : List ℕ). events_text events ++ t) empty ∙ append-nil (events_text events); fit = fit }

-- what stands behind an event is less
pub behind_event_is_less : (text rest : List ℕ) (e : Event) → BeginsEvent text e rest → length rest < length text
behind_event_is_less text rest e b =
    omega (
      arith,
      ap length b.text_is,
      length-append (event_text e) rest,
      length-append (line_text (line_of e)) (10 ∷ octets_text (kind_of e.of) (octets_of e.of)),
    )

-- ---- the script

events_break : (f : ScriptFault) (octets rest behind : List ℕ) (keys bytes : ℕ) → octets ≡ opening ++ rest → BeginsSettings rest keys bytes behind → EventsBreak f behind → ScriptBreaks octets f
events_break f octets rest behind keys bytes so settings b = inr (inr (record {
  keys = keys;
  bytes = bytes;
  events = b.events;
  rest = b.rest;
  splits = record {
    octets_are =
        so ∙ ap (λ (t : List ℕ). opening ++ t) settings.octets_are ∙ ap (λ (t : List ℕ). opening ++ (settings_text keys bytes ++ 10 ∷ t)) b.text_is;
    keys_fit = settings.keys_fit;
    bytes_fit = settings.bytes_fit;
    events_fit = b.fit;
  };
  some = b.some;
  breaks = b.breaks;
}))

-- the answer is the fault of the events, which breaks the script where it isn't of memory
pub events_break_script : {S : Type 0} (octets rest behind : List ℕ) (keys bytes : ℕ) (f : ScriptFault) (answer : Result S ScriptFault) → IsErrAnd answer (λ g. g ≡ f)
    → octets ≡ opening ++ rest → BeginsSettings rest keys bytes behind → (f ≢ fault.Memory → EventsBreak f behind) → IfErr answer (λ g. g ≢ fault.Memory → ScriptBreaks octets g)
events_break_script octets rest behind keys bytes f (Ok s) is so settings breaks = tt
events_break_script octets rest behind keys bytes f (Err g) is so settings breaks = λ other.
    subst (λ (e : ScriptFault). ScriptBreaks octets e) (sym is) (events_break f octets rest behind keys bytes so settings (breaks (λ e. other (is ∙ e))))
