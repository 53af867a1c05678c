-- Each step keeps what the cache has to do with what has happened: its turns do, and all that can be read is read.
use Rattle.std.proofs.Common.{◌≡◌, ◌≤◌, List, [], ◌∷◌, ◌++◌, Option, Some, None, refl, sym, ap, ◌∙◌, subst, arith, append_assoc}
use Rattle.hc_transcript.specs.declared.record.Record.{Record}
use Rattle.hc_transcript.specs.Limits.{greatest_number}
use Rattle.hc_transcript.specs.Items.{Item}
use Rattle.hc_history.specs.Right.{IsRight}
use Rattle.hc_service.specs.declared.action.Action.{Action}
use Rattle.hc_service.specs.declared.action.Action.TheVariants as action
use Rattle.hc_service.specs.declared.numbers.Numbers.{Numbers}
use Rattle.hc_service.specs.declared.open.Purpose.{Purpose}
use Rattle.hc_service.specs.declared.open.Purpose.TheVariants as purpose
use Rattle.hc_service.specs.declared.settings.CoreSettings.{CoreSettings}
use Rattle.hc_service.specs.Settings.{AreGood}
use Rattle.hc_service.specs.Numbers.{one_more}
use Rattle.hc_service.specs.State.{State}
use Rattle.hc_service.specs.Joining.{shared}
use Rattle.hc_update.specs.declared.stored.Stored.{Stored}
use Rattle.hc_service.specs.Sending.{recorded_format, records_of, failure_actions}
use Rattle.hc_service.specs.Reactions.{Reaction}
use Rattle.hc_service.specs.Reactions.Reaction.{Replies as RepliesAtOnce, Sends, Waits}
use Rattle.hc_service.specs.Answers.{Outcome}
use Rattle.hc_service.specs.Answers.Outcome.{Replies, GoesAnew}
use Rattle.hc_service.specs.Turns.{Asker, Ended, DoesReaction, DoesRelease, DoesOutcome, EndsByResponse, EndsByFailure, answered_now, arrived_on, asker_now, failed_now, is_closed, whole_request}
use Rattle.hc_service.specs.Serves.{Turn, Takes, Run}
use Rattle.hc_service.specs.Serves.Turn.{Opening, ClientSending, Asking, Refusal, Dropping, Leaving, Closing, OriginSending, Answering, Failing, Releasing, Stopping}
use Rattle.hc_service.specs.Agreement.{History, IsConsistent}
use Rattle.hc_service.specs.Runs.{Records, AllRightBehind, behind, strict}
use Rattle.hc_service.specs.LowerLaws.{ForwardLaws}
use Rattle.hc_service.specs.Laws.{client_octets_all, origin_octets_all, KeepsAll}
use Rattle.hc_service.proofs.TurnLemmas.{turn_keeps}

-- ---- numbers never fall

-- the count of records rises, and stays within 64 bits
abbrev pub Rises : Numbers → Numbers → Type 0
Rises n m = (n.records ≤ m.records) × (m.records ≤ 18446744073709551615)

same_count : (n m : Numbers) → n.records ≤ 18446744073709551615 → m.records ≡ n.records → Rises n m
same_count n m le same = (omega arith, omega arith)

one_count : (n m : Numbers) → n.records ≤ 18446744073709551615 → m.records ≡ one_more n.records → Rises n m
one_count n m le same = (omega arith, omega arith)

two_counts : (n m : Numbers) → n.records ≤ 18446744073709551615 → m.records ≡ one_more (one_more n.records) → Rises n m
two_counts n m le same = (omega arith, omega arith)

three_counts : (n m : Numbers) → n.records ≤ 18446744073709551615 → m.records ≡ one_more (one_more (one_more n.records)) → Rises n m
three_counts n m le same = (omega arith, omega arith)

count_of : (n m : Numbers) → n ≡ m → n.records ≡ m.records
count_of n m e = ap (λ (n : Numbers). n.records) e

pub turn_rises : (settings : CoreSettings) (turn : Turn) (s : State) (actions : List Action) (s' : State) → s.numbers.records ≤ 18446744073709551615 → Takes settings turn s actions s' → Rises s.numbers s'.numbers
turn_rises settings (Opening c) s actions s' le t = same_count s.numbers s'.numbers le (count_of s'.numbers _ t.numbers)
turn_rises settings (ClientSending c octets) s actions s' le t = same_count s.numbers s'.numbers le (count_of s'.numbers _ t.keeps.numbers)
turn_rises settings (Asking c) s actions s' le t = by_reaction t.reaction t.does
  where
    by_reaction : (r : Reaction) → DoesReaction r (arrived_on c t.connection t.size (whole_request settings s t.request t.target t.connection)) s actions s' → Rises s.numbers s'.numbers
    by_reaction (RepliesAtOnce reply None) d = two_counts s.numbers s'.numbers le (count_of s'.numbers _ d.numbers)
    by_reaction (RepliesAtOnce reply (Some validation)) d = three_counts s.numbers s'.numbers le (count_of s'.numbers _ d.numbers)
    by_reaction (Sends forward why kind) d = two_counts s.numbers s'.numbers le (count_of s'.numbers _ d.numbers)
    by_reaction (Waits f) d = one_count s.numbers s'.numbers le (count_of s'.numbers _ d.numbers)
turn_rises settings (Refusal c status) s actions s' le t = same_count s.numbers s'.numbers le (count_of s'.numbers _ t.keeps.numbers)
turn_rises settings (Dropping c) s actions s' le t = same_count s.numbers s'.numbers le (count_of s'.numbers _ t.keeps.numbers)
turn_rises settings (Leaving c) s actions s' le t = same_count s.numbers s'.numbers le (count_of s'.numbers _ t.keeps.numbers)
turn_rises settings (Closing c) s actions s' le t = same_count s.numbers s'.numbers le (count_of s'.numbers _ t.keeps.numbers)
turn_rises settings (OriginSending f octets) s actions s' le t = same_count s.numbers s'.numbers le (count_of s'.numbers _ t.keeps.numbers)
turn_rises settings (Answering f ended) s actions s' le t = by_purpose t.awaited.forward.purpose t.ends
  where
    by_outcome : (ended : Ended) (asker : Asker) (o : Outcome) → DoesOutcome o ended asker s actions s' → Rises s.numbers s'.numbers
    by_outcome ended asker (Replies reply) d = two_counts s.numbers s'.numbers le (count_of s'.numbers _ d.numbers)
    by_outcome ended asker GoesAnew d = two_counts s.numbers s'.numbers le (count_of s'.numbers _ d.numbers)

    by_purpose : (p : Purpose) → EndsByResponse p settings (answered_now f t.awaited.forward t.response t.renewed s) s actions s' → Rises s.numbers s'.numbers
    by_purpose purpose.Background d = one_count s.numbers s'.numbers le (count_of s'.numbers _ d.1.numbers)
    by_purpose (purpose.Reply e why kind) d =
        by_outcome (record { forward = f; exchange = e; why = why; first = (answered_now f t.awaited.forward t.response t.renewed s).first }) (asker_now settings s d.exchange d.connection) d.outcome d.does
turn_rises settings (Failing f how) s actions s' le t = by_purpose t.awaited.forward.purpose t.ends
  where
    by_outcome : (ended : Ended) (asker : Asker) (o : Outcome) → DoesOutcome o ended asker s actions s' → Rises s.numbers s'.numbers
    by_outcome ended asker (Replies reply) d = two_counts s.numbers s'.numbers le (count_of s'.numbers _ d.numbers)
    by_outcome ended asker GoesAnew d = two_counts s.numbers s'.numbers le (count_of s'.numbers _ d.numbers)

    by_purpose : (p : Purpose) → EndsByFailure p settings (failed_now f t.awaited.forward.target how s) s actions s' → Rises s.numbers s'.numbers
    by_purpose purpose.Background d = one_count s.numbers s'.numbers le (count_of s'.numbers _ d.1.numbers)
    by_purpose (purpose.Reply e why kind) d =
        by_outcome (record { forward = f; exchange = e; why = why; first = failure_actions f s.numbers.moment (is_closed how) }) (asker_now settings s d.exchange d.connection) d.outcome d.does
turn_rises settings (Releasing e) s actions s' le t = by_choice (shared s.numbers.moment t.chosen) t.does
  where
    by_choice : (o : Option Stored) → DoesRelease o e (asker_now settings s t.exchange t.connection) s actions s' → Rises s.numbers s'.numbers
    by_choice (Some stored) d = one_count s.numbers s'.numbers le (count_of s'.numbers _ d.numbers)
    by_choice None d = one_count s.numbers s'.numbers le (count_of s'.numbers _ d.numbers)
turn_rises settings Stopping s actions s' le t = same_count s.numbers s'.numbers le (count_of s'.numbers _ t.numbers)

pub run_rises : (settings : CoreSettings) (turns : List Turn) (s : State) (actions : List Action) (s' : State) → s.numbers.records ≤ 18446744073709551615 → Run settings turns s actions s' → Rises s.numbers s'.numbers
run_rises settings [] s actions s' le r = same_count s.numbers s'.numbers le (ap (λ (s : State). s.numbers.records) r.1)
run_rises settings (turn ∷ turns) s actions s' le r =
    let one = turn_rises settings turn s r.1 r.0 le r.3 in
    let more = run_rises settings turns r.0 r.2 s' one.1 r.5 in
    (omega (arith, one.0, more.0), more.1)

-- ---- one after another

pub given_append : (xs ys : List Action) → records_of (xs ++ ys) ≡ records_of xs ++ records_of ys
given_append [] ys = refl
given_append (action.Record r ∷ xs) ys = ap (λ (rs : List Record). r ∷ rs) (given_append xs ys)
given_append (action.ToClient c octets ∷ xs) ys = given_append xs ys
given_append (action.CloseClient c ∷ xs) ys = given_append xs ys
given_append (action.Forward f octets ∷ xs) ys = given_append xs ys
given_append (action.CloseForward f ∷ xs) ys = given_append xs ys

pub behind_append : (xs ys records : List Record) → behind (xs ++ ys) records ≡ behind ys (behind xs records)
behind_append [] ys records = refl
behind_append (r ∷ xs) ys records = behind_append xs ys (r ∷ records)

pub right_append : (newer older items : List Item) → AllRightBehind newer (older ++ items) → AllRightBehind older items → AllRightBehind (newer ++ older) items
right_append [] older items new old = old
right_append (item ∷ newer) older items new old =
    (right_append newer older items new.0 old, subst (λ (before : List Item). IsRight recorded_format strict before item) (sym (append_assoc newer older items)) new.1)

records_append : (first rest actions : List Action) (h between later : History) → actions ≡ first ++ rest → Records first h between → Records rest between later → Records actions h later
records_append first rest actions h between later split one more = record {
  newer = more.newer ++ one.newer;
  records_are = more.records_are ∙ ap (behind (records_of rest)) one.records_are
      ∙ sym (ap (λ (a : List Action). behind (records_of a) h.records) split ∙ ap (λ (rs : List Record). behind rs h.records) (given_append first rest)
      ∙ behind_append (records_of first) (records_of rest) h.records);
  items_are = more.items_are ∙ ap (λ (items : List Item). more.newer ++ items) one.items_are ∙ sym (append_assoc more.newer one.newer h.items);
  right = right_append more.newer one.newer h.items (subst (AllRightBehind more.newer) one.items_are more.right) one.right;
}

pub run_keeps : (settings : CoreSettings) → AreGood settings → ForwardLaws → (turns : List Turn) (s : State) (actions : List Action) (s' : State) (h : History) → IsConsistent s h → Run settings turns s actions s'
    → s'.numbers.records ≤ greatest_number → KeepsAll turns actions h s'
run_keeps settings good laws [] s actions s' h stands r le = record {
  later = h;
  goes_on = record {
    records = record { newer = []; records_are = sym (ap (λ (a : List Action). behind (records_of a) h.records) r.0); items_are = refl; right = tt };
    client_octets = refl;
    origin_octets = refl;
  };
  consistent = subst (λ (s : State). IsConsistent s h) (sym r.1) stands;
}
run_keeps settings good laws (turn ∷ turns) s actions s' h stands r le =
    let counts = stands.counted in
    let one = turn_rises settings turn s r.1 r.0 (omega (arith, counts.in_range)) r.3 in
    let more = run_rises settings turns r.0 r.2 s' one.1 r.5 in
    let k = turn_keeps s h stands settings good laws turn r.1 r.0 r.3 (omega (arith, more.0, le)) in
    let ks = run_keeps settings good laws turns r.0 r.2 s' k.later k.consistent r.5 le in
    record {
      later = ks.later;
      goes_on = record {
        records = records_append r.1 r.2 actions h k.later ks.later r.4 k.goes_on.records ks.goes_on.records;
        client_octets = ks.goes_on.client_octets ∙ ap (client_octets_all turns) k.goes_on.client_octets;
        origin_octets = ks.goes_on.origin_octets ∙ ap (origin_octets_all turns) k.goes_on.origin_octets;
      };
      consistent = ks.consistent;
    }
