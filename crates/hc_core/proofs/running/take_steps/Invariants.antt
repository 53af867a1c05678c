use Rattle.std.proofs.Common.{◌≡◌, ◌++◌, []}
use Rattle.hc_transcript.specs.Records.{opening}
use Rattle.hc_service.specs.declared.settings.CoreSettings.{CoreSettings}
use Rattle.hc_service.specs.Sending.{recorded_format}
use Rattle.hc_service.specs.Settings.{AreGood}
use Rattle.hc_service.specs.State.{new_state}
use Rattle.hc_core.specs.Steps.{StandsFor}
use Rattle.hc_core.proofs.RunLemmas.{IsRecording}
use Rattle.hc_core.proofs.running.take_steps.Given as goal

-- the events so far are recorded, and the others are left
abbrev pub invariant-events : goal.invariant-events
invariant-events g l = record {
  recorded : (settings : CoreSettings) → AreGood settings → StandsFor settings l.initial.core (new_state settings)
      → l.initial.recording.results.items ≡ [] → l.initial.recording.text.items ≡ opening recorded_format
      → IsRecording settings l.yielded l.recording.results.items l.recording.text.items l.core;
  left : l.yielded ++ l.event-iterator.rest.items ≡ l.fn.events.items;
}
