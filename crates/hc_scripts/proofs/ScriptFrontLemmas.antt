-- A front of a script is torn, or a script of its first events.
use Rattle.std.proofs.Common.{◌≡◌, ◌≢◌, ℕ, ◌<◌, ◌≤◌, ◌⊎◌, Bool, true, false, cond, List, [], ◌∷◌, ◌++◌, length, get_or, drop, take, refl, sym, ap, subst, ◌∙◌, arith, inl, inr, append_assoc, append-nil, length-append}
use Rattle.std.specs.List.{list_any, AllByRecursion}
use Rattle.std.proofs.Math.Seq.{take-append_seam}
use Rattle.std.proofs.lemmas.List.{take-append-le}
use Rattle.hc_service.specs.declared.event.Event.{Event}
use Rattle.hc_transcript.specs.Limits.{longest_line}
use Rattle.hc_transcript.specs.Lines.{is_feed}
use Rattle.hc_scripts.specs.declared.fault.ScriptFault.TheVariants as fault
use Rattle.hc_scripts.specs.Scripts.{has_octets, line_text, kind_of, octets_of, line_of, octets_text, event_text, events_text, EventFits, opening, settings_text, IsScript}
use Rattle.hc_scripts.specs.ScriptFaults.{IsUnfinishedLine, EventBreaks, ScriptBreaks, IsScriptOfFirst}
use Rattle.hc_scripts.proofs.ScriptEventLemmas.{take_lacks}
use Rattle.hc_scripts.proofs.ScriptLineLemmas.{line_lacks_feed, line_short, settings_lack_feed, settings_short}

-- ---- where a front ends

-- behind the first part
record Behind (a b front more : List ℕ) : Type 0 where
  pub rest : List ℕ
  pub front_is : front ≡ a ++ rest
  pub more_is : rest ++ more ≡ b

-- or inside it
record Inside (a front : List ℕ) : Type 0 where
  pub left : List ℕ
  pub part_is : a ≡ front ++ left
  pub some : left ≢ []

cut : (front more a b : List ℕ) → front ++ more ≡ a ++ b → Behind a b front more ⊎ Inside a front
cut front more [] b e = inl (record { rest = front; front_is = refl; more_is = e })
cut [] more (x ∷ a) b e = inr (record { left = x ∷ a; part_is = refl; some = λ none. omega (arith, ap length none) })
cut (y ∷ front) more (x ∷ a) b e = go (cut front more a b (ap (drop 1) e))
  where
    head : y ≡ x
    head = ap (λ (t : List ℕ). get_or t 0 0) e

    go : Behind a b front more ⊎ Inside a front → Behind (x ∷ a) b (y ∷ front) more ⊎ Inside (x ∷ a) (y ∷ front)
    go (inl behind) = inl (record { rest = behind.rest; front_is = λ i. head i ∷ behind.front_is i; more_is = behind.more_is })
    go (inr inside) = inr (record { left = inside.left; part_is = λ i. sym head i ∷ inside.part_is i; some = inside.some })

some_long : (t : List ℕ) → t ≢ [] → 0 < length t
some_long [] some = absurd (some refl)
some_long (x ∷ t) some = omega arith

-- inside a line and its line feed no line has ended
unfinished_line : (text front left : List ℕ) → list_any is_feed text ≡ false → length text < longest_line → text ++ 10 ∷ [] ≡ front ++ left → left ≢ [] → IsUnfinishedLine front
unfinished_line text front left lacks short e some =
    let long : length front ≤ length text = omega (arith, ap length e, length-append text (10 ∷ []), length-append front left, some_long left some) in
    let front-is : front ≡ take (length front) text = sym (take-append_seam front left) ∙ ap (take (length front)) (sym e) ∙ take-append-le (length front) text (10 ∷ []) long in
    record { short = omega (arith, long, short); no_feed = ap (list_any is_feed) front-is ∙ take_lacks is_feed (length front) text lacks }

-- a line feed behind a text, and what follows
joined : (text rest : List ℕ) → (text ++ 10 ∷ []) ++ rest ≡ text ++ 10 ∷ rest
joined text rest = append_assoc text (10 ∷ []) rest

-- ---- events

-- an event that isn't whole is torn
event_torn : (e : Event) (front left : List ℕ) → EventFits e → event_text e ≡ front ++ left → left ≢ [] → EventBreaks fault.Torn front
event_torn e front left fits so some =
    go (cut front left (line_text (line_of e) ++ 10 ∷ []) (octets_text (kind_of e.of) (octets_of e.of)) (sym so ∙ sym (joined (line_text (line_of e)) (octets_text (kind_of e.of) (octets_of e.of)))))
  where
    brings : (has : Bool) → has_octets (kind_of e.of) ≡ has → (b : Behind (line_text (line_of e) ++ 10 ∷ []) (octets_text (kind_of e.of) (octets_of e.of)) front left) → EventBreaks fault.Torn front
    brings true is b =
        let octets : b.rest ++ left ≡ octets_of e.of ++ 10 ∷ [] = b.more_is ∙ ap (λ (has : Bool). cond has (octets_of e.of ++ 10 ∷ []) []) is in
        inr (record {
          line = line_of e;
          behind = b.rest;
          has = record { octets_are = b.front_is ∙ joined (line_text (line_of e)) b.rest; fits = fits.line };
          brings = is;
          breaks = omega (arith, ap length octets, length-append b.rest left, length-append (octets_of e.of) (10 ∷ []), some_long left some);
        })
    brings false is b =
        let none : b.rest ++ left ≡ [] = b.more_is ∙ ap (λ (has : Bool). cond has (octets_of e.of ++ 10 ∷ []) []) is in
        absurd (omega (arith, ap length none, length-append b.rest left, some_long left some))

    go : Behind (line_text (line_of e) ++ 10 ∷ []) (octets_text (kind_of e.of) (octets_of e.of)) front left ⊎ Inside (line_text (line_of e) ++ 10 ∷ []) front → EventBreaks fault.Torn front
    go (inl behind) = brings (has_octets (kind_of e.of)) refl behind
    go (inr inside) = inl (unfinished_line (line_text (line_of e)) front inside.left (line_lacks_feed (line_of e) fits.line) (line_short (line_of e) fits.line) inside.part_is inside.some)

-- a front of events is the first of them, and nothing or a torn one
record IsFrontOf (front : List ℕ) (events : List Event) : Type 0 where
  pub first : List Event
  pub others : List Event
  pub rest : List ℕ
  pub events_are : events ≡ first ++ others
  pub front_is : front ≡ events_text first ++ rest
  pub torn : (rest ≡ []) ⊎ ((rest ≢ []) × EventBreaks fault.Torn rest)

empty_front : (front more : List ℕ) → front ++ more ≡ [] → front ≡ []
empty_front [] more e = refl
empty_front (x ∷ front) more e = absurd (omega (arith, ap length e))

none_or_torn : (e : Event) (front left : List ℕ) → EventFits e → event_text e ≡ front ++ left → left ≢ [] → (front ≡ []) ⊎ ((front ≢ []) × EventBreaks fault.Torn front)
none_or_torn e [] left fits so some = inl refl
none_or_torn e (x ∷ front) left fits so some = inr ((λ none. omega (arith, ap length none)), event_torn e (x ∷ front) left fits so some)

front_of_events : (events : List Event) (front more : List ℕ) → AllByRecursion EventFits events → front ++ more ≡ events_text events → IsFrontOf front events
front_of_events [] front more fit e =
    let none : front ≡ [] = empty_front front more e in
    record { first = []; others = []; rest = front; events_are = refl; front_is = refl; torn = inl none }
front_of_events (x ∷ events) front more fit e = go (λ rest so. front_of_events events rest more fit.1 so) (cut front more (event_text x) (events_text events) e)
  where
    behind : (b : Behind (event_text x) (events_text events) front more) → IsFrontOf b.rest events → IsFrontOf front (x ∷ events)
    behind b r = record {
      first = x ∷ r.first;
      others = r.others;
      rest = r.rest;
      events_are = ap (λ (t : List Event). x ∷ t) r.events_are;
      front_is = b.front_is ∙ ap (λ (t : List ℕ). event_text x ++ t) r.front_is ∙ sym (append_assoc (event_text x) (events_text r.first) r.rest);
      torn = r.torn;
    }

    go : ((rest : List ℕ) → rest ++ more ≡ events_text events → IsFrontOf rest events) → Behind (event_text x) (events_text events) front more ⊎ Inside (event_text x) front
        → IsFrontOf front (x ∷ events)
    go on (inl b) = behind b (on b.rest b.more_is)
    go on (inr i) = record {
      first = [];
      others = x ∷ events;
      rest = front;
      events_are = refl;
      front_is = refl;
      torn = none_or_torn x front i.left fit.0 i.part_is i.some;
    }

first_fit : (first others : List Event) → AllByRecursion EventFits (first ++ others) → AllByRecursion EventFits first
first_fit [] others fit = tt
first_fit (e ∷ first) others fit = (fit.0, first_fit first others fit.1)

-- ---- the script

pub fronts : (front more : List ℕ) (keys bytes : ℕ) (events : List Event) → IsScript (front ++ more) keys bytes events → ScriptBreaks front fault.Torn ⊎ IsScriptOfFirst front keys bytes events
fronts front more keys bytes events s = behind_opening (cut front more opening (settings_text keys bytes ++ 10 ∷ events_text events) s.octets_are)
  where
    behind_events : (rest behind : List ℕ) → front ≡ opening ++ rest → rest ≡ (settings_text keys bytes ++ 10 ∷ []) ++ behind → (r : IsFrontOf behind events)
        → ScriptBreaks front fault.Torn ⊎ IsScriptOfFirst front keys bytes events
    behind_events rest behind so line r = go r.torn
      where
        fit : AllByRecursion EventFits r.first
        fit = first_fit r.first r.others (subst (λ (t : List Event). AllByRecursion EventFits t) r.events_are s.events_fit)

        front_is : front ≡ opening ++ (settings_text keys bytes ++ 10 ∷ (events_text r.first ++ r.rest))
        front_is =
            so ∙ ap (λ (t : List ℕ). opening ++ t) (line ∙ joined (settings_text keys bytes) behind) ∙ ap (λ (t : List ℕ). opening ++ (settings_text keys bytes ++ 10 ∷ t)) r.front_is

        go : (r.rest ≡ []) ⊎ ((r.rest ≢ []) × EventBreaks fault.Torn r.rest) → ScriptBreaks front fault.Torn ⊎ IsScriptOfFirst front keys bytes events
        go (inl none) = inr (record {
          first = r.first;
          others = r.others;
          events_are = r.events_are;
          is = record {
            octets_are =
                front_is ∙ ap (λ (t : List ℕ). opening ++ (settings_text keys bytes ++ 10 ∷ (events_text r.first ++ t))) none
                ∙ ap (λ (t : List ℕ). opening ++ (settings_text keys bytes ++ 10 ∷ t)) (append-nil (events_text r.first));
            keys_fit = s.keys_fit;
            bytes_fit = s.bytes_fit;
            events_fit = fit;
          };
        })
        go (inr torn) = inl (inr (inr (record {
          keys = keys;
          bytes = bytes;
          events = r.first;
          rest = r.rest;
          splits = record { octets_are = front_is; keys_fit = s.keys_fit; bytes_fit = s.bytes_fit; events_fit = fit };
          some = torn.0;
          breaks = torn.1;
        })))

    behind_settings : (rest : List ℕ) → front ≡ opening ++ rest → Behind (settings_text keys bytes ++ 10 ∷ []) (events_text events) rest more ⊎ Inside (settings_text keys bytes ++ 10 ∷ []) rest
        → ScriptBreaks front fault.Torn ⊎ IsScriptOfFirst front keys bytes events
    behind_settings rest so (inl b) = behind_events rest b.rest so b.front_is (front_of_events events b.rest more s.events_fit b.more_is)
    behind_settings rest so (inr i) = inl (inr (inl (record {
      rest = rest;
      octets_are = so;
      breaks =
          unfinished_line (settings_text keys bytes) rest i.left (settings_lack_feed keys bytes s.keys_fit s.bytes_fit) (settings_short keys bytes s.keys_fit s.bytes_fit) i.part_is i.some;
    })))

    behind_opening : Behind opening (settings_text keys bytes ++ 10 ∷ events_text events) front more ⊎ Inside opening front → ScriptBreaks front fault.Torn ⊎ IsScriptOfFirst front keys bytes events
    behind_opening (inl b) =
        behind_settings b.rest b.front_is
        (cut b.rest more (settings_text keys bytes ++ 10 ∷ []) (events_text events) (b.more_is ∙ sym (joined (settings_text keys bytes) (events_text events))))
    behind_opening (inr i) = inl (inl (i.left, i.part_is, i.some))
