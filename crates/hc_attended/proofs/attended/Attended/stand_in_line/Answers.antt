use Rattle.std.proofs.Common.{◌≡◌, ◌+◌, ◌++◌, ◌∷◌, []}
use Rattle.hc_agenda.specs.Places.{line_of}
use Rattle.hc_agenda.specs.declared.deadline.Timeout.TheVariants.{Place}
use Rattle.hc_attended.proofs.KeepingLemmas.{keeps_then}
use Rattle.hc_attended.proofs.LineLemmas.{joined_in, kept_lines, line_joined, line_same, lines_then, nobody_opened, some_opened, when_done, when_refused, within_min}
use Rattle.hc_attended.proofs.NoteLemmas.{due_given, due_moved, notes_same}
use Rattle.hc_attended.proofs.StepLemmas.{calls_attended, joined_attended, lines_attended, none_moved, places_then}
use Rattle.hc_attended.proofs.attended.Attended.stand_in_line.Goals as goal

pub invariant_of-self : goal.invariant_of-self
invariant_of-self g c =
    let s = c.args.self.now in
    let next = c.next_opened in
    record {
      noted = lines_attended s.times s.time.tick 0 s.peers next.new.self s.agenda next.ensures.rest (nobody_opened next.result s.peers.places next.new.self.places c.in_default.is next.ensures.line next.ensures.first) s.noted;
    }

pub invariant_of-self-then-is_err : goal.invariant_of-self-then-is_err
invariant_of-self-then-is_err g c =
    let s = c.args.self.now in
    let background = c.args.background in
    let next = c.next_opened in
    let wait = c.wait_for_place in
    let f = c.in-Some.forward in
    let same = when_refused wait.result (line_of background wait.new.self.places ≡ line_of background next.new.self.places) c.if-is_err.ensures.value wait.ensures.err in
    record {
      noted = calls_attended s.times s.time.tick f s.peers wait.new.self c.lose.new.peers s.agenda s.agenda c.lose.new.agenda (places_then s.peers next.new.self wait.new.self next.ensures.rest wait.ensures.rest)
          (lines_then f s.peers.places next.new.self.places wait.new.self.places (some_opened f next.result s.peers.places next.new.self.places c.in-Some.is next.ensures.line next.ensures.first)
          (kept_lines f next.new.self.places wait.new.self.places (line_same background next.new.self.places wait.new.self.places wait.ensures.line same)))
          (none_moved f (notes_same s.agenda)) c.lose.ensures.only c.lose.ensures.absent (none_moved f c.lose.ensures.notes) c.lose.ensures.seen (λ ok. c.lose.ensures.timed s.times s.time.tick) s.noted;
    }

pub returns-then-is_err-clause-kept : goal.returns-then-is_err-clause-kept
returns-then-is_err-clause-kept g c = keeps_then c.next_opened.ensures.kept (keeps_then c.wait_for_place.ensures.kept c.lose.ensures.kept)

pub invariant_of-self-2 : goal.invariant_of-self-2
invariant_of-self-2 g c =
    let s = c.args.self.now in
    let background = c.args.background in
    let next = c.next_opened in
    let wait = c.wait_for_place in
    let f = c.in-Some.forward in
    let latest = s.time.tick + s.times.queue_timeout in
    let joined = when_done wait.result (line_of background wait.new.self.places ≡ line_of background next.new.self.places ++ f ∷ []) c.if-is_err.ensures.value wait.ensures.ok in
    record {
      noted = joined_attended s.times s.time.tick f s.peers wait.new.self s.agenda c.note.new.self (places_then s.peers next.new.self wait.new.self next.ensures.rest wait.ensures.rest)
          (lines_then f s.peers.places next.new.self.places wait.new.self.places (some_opened f next.result s.peers.places next.new.self.places c.in-Some.is next.ensures.line next.ensures.first)
          (line_joined background f f next.new.self.places wait.new.self.places wait.ensures.line joined))
          (joined_in background f next.new.self.places wait.new.self.places joined) (due_moved Place c.saturating_add-due.result f s.agenda c.note.new.self c.note.ensures)
          (λ ok. due_given Place c.saturating_add-due.result f latest s.agenda c.note.new.self c.note.ensures (within_min c.saturating_add-due.result latest _ c.saturating_add-due.ensures) ok) s.noted;
    }
