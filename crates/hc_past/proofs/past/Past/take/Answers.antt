use Rattle.std.proofs.Common.{◌≡◌, ◌++◌, ◌-◌, ◌∷◌, [], List, Option, None, cond, refl, ap, sym, ◌∙◌, drop, length, map, take}
use Rattle.std.proofs.lemmas.List.{map-append}
use Rattle.std.specs.Prelude.{◌==◌, is_some, option_copied, if◌then◌else◌}
use Rattle.std.specs.BTreeMap.{is_at}
use Rattle.std.specs.Ordering.{nat_cmp}
use Rattle.hc_index.specs.Lists.{forward_seen}
use Rattle.hc_shown.specs.declared.teller.RecordName.{RecordName}
use Rattle.hc_transcript.specs.History.{cause_of, forward_of}
use Rattle.hc_transcript.specs.Items.{item_number, moment_of}
use Rattle.hc_past.specs.Remembered.{EndKnown, EndSeen, all_known_of, any_ends_with, end_by, end_known, end_seen, last_place, most_ends, named_as, open_sent, sent_of, short_end}
use Rattle.hc_past.proofs.KnownLemmas.{gone_at, known_ended, sent_is}
use Rattle.hc_past.proofs.LatestLemmas.{adds, one_ended_of_all, same_place, short_ended}
use Rattle.hc_past.proofs.PastLemmas.{one_ended}
use Rattle.hc_past.proofs.past.Past.take.Goals as goal

pub returns-clause-ends : goal.returns-clause-ends
returns-clause-ends g c = λ h one ends before behind.
    let passed = c.args.passed.now in
    let number = item_number passed.item.now in
    let forward = c.in-Some.forward.now in
    let room = c.share_latest.ensures.ends one ends (c.make_room.ensures.ends one ends (c.in_ok-take_answer.ensures.kept one ends record { one_target = before.one_target; all = before.all })) in
    let begun = ap (λ (n : RecordName). end_by n forward.cause None (forward_seen forward)) c.record_of.ensures in
    let ended = c.in_ok-take_answer.ensures.taken (ap is_some before.one_target) in
    record {
      one_target = room.one_target;
      all = ap (map end_seen) c.in_ok-push_back.ensures.items
          ∙ map-append end_seen _ _
          ∙ ap (λ (all : List EndSeen). all ++ end_seen c.take_answer.new.end ∷ []) room.all
          ∙ one_ended one.path (named_as c.args.kind passed.position number (moment_of passed.item.now)) (cause_of number h) forward.cause (option_copied c.args.response) (forward_of number h) ends
          (forward_seen forward) (end_seen c.in_ok-end.end) (end_seen c.take_answer.new.end)
          (rw c.number-number.ensures at c.in-Some.ensures.asked _ h behind.index) (rw c.number-number.ensures at c.in-Some.ensures.cause _ h behind.index) (sym (c.is_remembered.ensures.one one before.one_target) ∙ c.if-not-is_remembered.false) (c.in_ok-end.ensures.seen ∙ begun) ended;
    }

pub returns-clause-latest : goal.returns-clause-latest
returns-clause-latest g c = λ h ends before behind.
    let passed = c.args.passed.now in
    let number = item_number passed.item.now in
    let forward = c.in-Some.forward.now in
    let name = named_as c.args.kind passed.position number (moment_of passed.item.now) in
    let answer = option_copied c.args.response in
    let end = end_by name forward.cause answer (forward_seen forward) in
    let room = c.share_latest.ensures.latest 1023 ends (c.make_room.ensures.latest ends (c.in_ok-take_answer.ensures.latest most_ends ends
    record { all_targets = before.all_targets; latest = before.latest; forgotten = before.forgotten })) in
    let begun = c.in_ok-end.ensures.seen ∙ ap (λ (n : RecordName). end_by n forward.cause None (forward_seen forward)) c.record_of.ensures in
    let short = short_ended name forward.cause answer (forward_seen forward) _ _ begun
    (c.in_ok-take_answer.ensures.short before.all_targets (ap (λ (e : EndSeen). e.body) begun)) in
    let all : any_ends_with name (cause_of number h) answer (forward_of number h) ends ≡ ends ++ end ∷ [] =
    one_ended_of_all name (cause_of number h) forward.cause answer (forward_of number h) ends (forward_seen forward) (rw c.number-number.ensures at c.in-Some.ensures.asked _ h behind.index)
    (rw c.number-number.ensures at c.in-Some.ensures.cause _ h behind.index) in
    record {
      all_targets = room.all_targets;
      latest = ap (map end_seen) c.in_ok-push_back.ensures.items
          ∙ map-append end_seen _ _
          ∙ ap (λ (e : EndSeen). map end_seen c.share_latest.new.self.ends.items ++ e ∷ []) short
          ∙ adds ends (map end_seen c.share_latest.new.self.ends.items) end most_ends 1023 refl room.latest
          ∙ ap (λ (es : List EndSeen). drop (length es - most_ends) (map short_end es)) (sym all);
      forgotten = room.forgotten ∙ same_place ends end most_ends 1023 refl
          ∙ ap (λ (es : List EndSeen). last_place (take (length es - most_ends) es)) (sym all);
    }

pub returns-clause-known : goal.returns-clause-known
returns-clause-known g c = λ h one before behind.
    let number = item_number c.args.passed.now.item.now in
    let forward = c.in-Some.forward.now in
    let same = sym (c.is_remembered.ensures.one one before.one_target) ∙ c.if-not-is_remembered.false in
    let asked = rw c.number-number.ensures at c.in-Some.ensures.asked _ h behind.index in
    let kept = c.in_ok-take_answer.ensures.known one (λ f. if number == f then None else open_sent one.path h f) (all_known_of one.path h) record {
      one_target = before.one_target;
      sent_now = λ f.
          gone_at number f _ _ ((rw c.number-number.ensures at c.remove-sent.ensures.updates.0 f) ∙ ap (λ (o : Option RecordName). cond (is_at (nat_cmp number) f) None o) (before.sent_now f));
      all = before.all;
    } in
    let room = c.share_latest.ensures.known one _ _ (c.make_room.ensures.known one _ _ kept) in
    let sent = (rw c.number-number.ensures at c.remove-sent.ensures.value) ∙ before.sent_now number ∙ sent_is one.path (forward_of number h) (sent_of number h) (forward_seen forward) asked same in
    record {
      one_target = room.one_target;
      sent_now = room.sent_now;
      all = ap (map end_known) c.in_ok-push_back.ensures.items
          ∙ map-append end_known _ _
          ∙ ap (λ (all : List EndKnown). all ++ end_known c.take_answer.new.end ∷ []) room.all
          ∙ known_ended one.path (sent_of number h) (option_copied c.args.response) (forward_of number h) (all_known_of one.path h) (forward_seen forward)
          (end_known c.in_ok-end.end) (end_known c.take_answer.new.end) asked same
          (c.in_ok-end.ensures.known ∙ ap (λ (o : Option RecordName). record { sent = o; forbids = None; heads = None }) sent)
          (c.in_ok-take_answer.ensures.heads (ap is_some before.one_target));
    }
