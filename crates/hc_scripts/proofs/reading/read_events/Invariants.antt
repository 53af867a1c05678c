use Rattle.std.proofs.Common.{◌≡◌, ◌++◌, length}
use Rattle.std.specs.List.{AllByRecursion}
use Rattle.hc_scripts.specs.Scripts.{events_text, EventFits}
use Rattle.hc_scripts.proofs.reading.read_events.Given as goal

-- the text is the events so far and the rest
abbrev pub invariant-events : goal.invariant-events
invariant-events l = record {
  text_is : l.text ≡ events_text l.events.items ++ l.rest;
  fit : AllByRecursion EventFits l.events.items;
}

abbrev pub decreases-events : goal.decreases-events
decreases-events l = length l.rest
