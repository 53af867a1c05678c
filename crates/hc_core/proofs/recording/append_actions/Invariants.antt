use Rattle.std.proofs.Common.{◌≡◌, ◌++◌, drop}
use Rattle.hc_service.specs.Sending.{records_of}
use Rattle.hc_core.specs.Results.{texts_of}
use Rattle.hc_core.proofs.recording.append_actions.Given as goal

-- the text so far, and the texts of those that are left
abbrev pub invariant-loop-action : goal.invariant-loop-action
invariant-loop-action l =
    l.text.items ++ texts_of (records_of (drop l.action-index l.actions)) ≡ l.initial.text.items ++ texts_of (records_of l.actions)
