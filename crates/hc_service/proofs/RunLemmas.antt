-- Steps are a run, and what a run records is judged right.
use Rattle.std.proofs.Common.{◌≡◌, ℕ, suc, ◌+◌, ◌≤◌, Bool, true, false, List, [], ◌∷◌, ◌++◌, length, Option, Some, None, Ok, Err, refl, sym, ap, ◌∙◌, subst, arith, append_assoc, append-nil, length-append, flat_map}
use Rattle.hc_head.specs.Methods.{is_head}
use Rattle.hc_head.specs.declared.head.ResponseHead.{ResponseHead}
use Rattle.hc_framing.specs.declared.message.Message.{Message}
use Rattle.hc_transcript.specs.declared.record.Record.{Record}
use Rattle.hc_transcript.specs.Limits.{greatest_number}
use Rattle.hc_transcript.specs.Records.{opening, record_text, records_text}
use Rattle.hc_transcript.specs.Items.{Item}
use Rattle.hc_transcript.specs.Transcript.{AreReadAs}
use Rattle.hc_history.specs.Counting.{counts_of}
use Rattle.hc_history.specs.Right.{AllRight}
use Rattle.hc_service.specs.declared.event.Event.{Event}
use Rattle.hc_service.specs.declared.action.Action.{Action}
use Rattle.hc_service.specs.declared.fault.StepFault.TheVariants.{Memory, MomentTooLarge, UnknownNumber, TooManyConnections, Failed}
use Rattle.hc_service.specs.declared.numbers.Numbers.{Numbers}
use Rattle.hc_service.specs.declared.open.Purpose.{Purpose}
use Rattle.hc_service.specs.declared.open.Purpose.TheVariants as purpose
use Rattle.hc_service.specs.declared.settings.CoreSettings.{CoreSettings}
use Rattle.hc_service.specs.declared.settings.CoreOptions.{CoreOptions}
use Rattle.hc_service.specs.Settings.{AreGood}
use Rattle.hc_service.specs.Numbers.{one_more}
use Rattle.hc_service.specs.Replying.{collapsed_reply}
use Rattle.hc_service.specs.State.{State, new_state_with}
use Rattle.hc_service.specs.Sending.{recorded_format, records_of, ask_actions, send_actions, reply_actions, response_actions, failure_actions}
use Rattle.hc_service.specs.Reactions.{Reaction, forward_anew}
use Rattle.hc_service.specs.Reactions.Reaction.{Replies as RepliesAtOnce, Sends, Waits}
use Rattle.hc_service.specs.Answers.{Outcome}
use Rattle.hc_service.specs.Answers.Outcome.{Replies, GoesAnew}
use Rattle.hc_service.specs.Turns.{Asker, Ended, DoesReaction, DoesOutcome, EndsByResponse, EndsByFailure, answered_now, arrived_on, asker_now, failed_now, is_closed, wanted_now, whole_request, DoesRelease}
use Rattle.hc_service.specs.Serves.{Turn, Takes, Run, Serves, passed_to}
use Rattle.hc_service.specs.Joining.{shared}
use Rattle.hc_update.specs.declared.stored.Stored.{Stored}
use Rattle.hc_service.specs.Serves.Turn.{Opening, ClientSending, Asking, Refusal, Dropping, Leaving, Closing, OriginSending, Answering, Failing, Releasing, Stopping}
use Rattle.hc_service.specs.Agreement.{History, Agrees, IsReady}
use Rattle.hc_service.specs.Runs.{Records, AllRightBehind, behind, strict, nothing_yet, StepResult, Runs, RunsOn, RunsTo, Steps, records_given, GoesOnWith, EndAgrees, IsJudgedRight}
use Rattle.hc_service.specs.LowerLaws.{ForwardLaws}
use Rattle.hc_service.specs.Laws.{IsCountedOn}
use Rattle.hc_service.proofs.BeginLemmas.{new_agrees}
use Rattle.hc_service.proofs.StepLemmas.{given_append, behind_append, right_append}
use Rattle.hc_service.proofs.EventLemmas.{event_keeps, agreement_ready}

-- ---- how many records are given out

abbrev count : List Action → ℕ
count actions = length (records_of actions)

count_of : (actions given : List Action) → actions ≡ given → count actions ≡ count given
count_of actions given is = ap count is

count_append : (xs ys : List Action) → count (xs ++ ys) ≡ count xs + count ys
count_append xs ys = ap (λ (rs : List Record). length rs) (given_append xs ys) ∙ length-append (records_of xs) (records_of ys)

count_reply : (e t : ℕ) (to_head : Bool) (c : ℕ) (closes : Bool) (reply : Message ResponseHead) → count (reply_actions e t to_head c closes reply) ≡ 1
count_reply e t to_head c true reply = refl
count_reply e t to_head c false reply = refl

count_failure : (f t : ℕ) (closes : Bool) → count (failure_actions f t closes) ≡ 1
count_failure f t true = refl
count_failure f t false = refl

-- the count of records rises by as many at most, and by as many as far as records can be numbered
abbrev Counts : Numbers → Numbers → List Action → Type 0
Counts n m actions = IsCountedOn n.records (count actions) m.records

counts_none : (n m : Numbers) (actions : List Action) → count actions ≡ 0 → m.records ≡ n.records → Counts n m actions
counts_none n m actions none same = record { most = omega arith; exact = λ le. omega arith }

counts_one : (n m : Numbers) (actions : List Action) → count actions ≡ 1 → m.records ≡ one_more n.records → Counts n m actions
counts_one n m actions one same = record { most = omega arith; exact = λ le. omega arith }

counts_two : (n m : Numbers) (actions : List Action) → count actions ≡ 2 → m.records ≡ one_more (one_more n.records) → Counts n m actions
counts_two n m actions two same = record { most = omega arith; exact = λ le. omega arith }

counts_three : (n m : Numbers) (actions : List Action) → count actions ≡ 3 → m.records ≡ one_more (one_more (one_more n.records)) → Counts n m actions
counts_three n m actions three same = record { most = omega arith; exact = λ le. omega arith }

records_in : (n m : Numbers) → n ≡ m → n.records ≡ m.records
records_in n m e = ap (λ (n : Numbers). n.records) e

-- one record, and then a reply
then_reply : (given : List Action) (e t : ℕ) (to_head : Bool) (c : ℕ) (closes : Bool) (reply : Message ResponseHead) → count given ≡ 1
    → count (given ++ reply_actions e t to_head c closes reply) ≡ 2
then_reply given e t to_head c closes reply one =
    let both = count_append given (reply_actions e t to_head c closes reply) in
    let two = count_reply e t to_head c closes reply in
    omega arith

-- a forward that ends for an exchange
outcome_counts : (ended : Ended) (asker : Asker) (o : Outcome) (s : State) (actions : List Action) (s' : State)
    → count ended.first ≡ 1 → DoesOutcome o ended asker s actions s' → Counts s.numbers s'.numbers actions
outcome_counts ended asker (Replies reply) s actions s' one d =
    counts_two s.numbers s'.numbers actions
    (count_of actions _ d.actions_are
    ∙ then_reply ended.first ended.exchange s.numbers.moment (is_head asker.exchange.request.method) asker.exchange.connection asker.wanted.closes reply one)
    (records_in s'.numbers _ d.numbers)
outcome_counts ended asker GoesAnew s actions s' one d =
    let sends = send_actions (one_more s.numbers.forward) s.numbers.moment (Some ended.exchange) (forward_anew asker.wanted.name asker.exchange.target asker.exchange.request) in
    let both = count_append ended.first sends in
    let last : count sends ≡ 1 = refl in
    let all : count (ended.first ++ sends) ≡ 2 = omega arith in
    counts_two s.numbers s'.numbers actions (count_of actions (ended.first ++ sends) d.actions_are ∙ all) (records_in s'.numbers _ d.numbers)

turn_counts : (settings : CoreSettings) (turn : Turn) (s : State) (actions : List Action) (s' : State) → Takes settings turn s actions s' → Counts s.numbers s'.numbers actions
turn_counts settings (Opening c) s actions s' t = counts_none s.numbers s'.numbers actions (count_of actions [] t.actions_are) (records_in s'.numbers _ t.numbers)
turn_counts settings (ClientSending c octets) s actions s' t = counts_none s.numbers s'.numbers actions (count_of actions [] t.actions_are) (records_in s'.numbers _ t.keeps.numbers)
turn_counts settings (Asking c) s actions s' t = by_reaction t.reaction t.does
  where
    by_reaction : (r : Reaction) → DoesReaction r (arrived_on c t.connection t.size (whole_request settings s t.request t.target t.connection)) s actions s' → Counts s.numbers s'.numbers actions
    by_reaction (RepliesAtOnce reply None) d =
        let e = one_more s.numbers.exchange in
        counts_two s.numbers s'.numbers actions
        (count_of actions _ d.actions_are
        ∙ then_reply (ask_actions e s.numbers.moment t.request) e s.numbers.moment (is_head t.request.head.method) c (wanted_now settings s t.request.head t.connection).closes reply refl)
        (records_in s'.numbers _ d.numbers)
    by_reaction (RepliesAtOnce reply (Some validation)) d =
        let e = one_more s.numbers.exchange in
        let first = ask_actions e s.numbers.moment t.request ++ reply_actions e s.numbers.moment (is_head t.request.head.method) c (wanted_now settings s t.request.head t.connection).closes reply in
        let sends = send_actions (one_more s.numbers.forward) s.numbers.moment None validation in
        let one = then_reply (ask_actions e s.numbers.moment t.request) e s.numbers.moment (is_head t.request.head.method) c (wanted_now settings s t.request.head t.connection).closes reply refl in
        let both = count_append first sends in
        let last : count sends ≡ 1 = refl in
        let all : count (first ++ sends) ≡ 3 = omega arith in
        counts_three s.numbers s'.numbers actions (count_of actions (first ++ sends) d.actions_are ∙ all) (records_in s'.numbers _ d.numbers)
    by_reaction (Sends forward why kind) d = counts_two s.numbers s'.numbers actions (count_of actions _ d.actions_are) (records_in s'.numbers _ d.numbers)
    by_reaction (Waits f) d = counts_one s.numbers s'.numbers actions (count_of actions _ d.actions_are) (records_in s'.numbers _ d.numbers)
turn_counts settings (Refusal c status) s actions s' t = counts_none s.numbers s'.numbers actions (count_of actions _ t.actions_are) (records_in s'.numbers _ t.keeps.numbers)
turn_counts settings (Dropping c) s actions s' t = counts_none s.numbers s'.numbers actions (count_of actions [] t.actions_are) (records_in s'.numbers _ t.keeps.numbers)
turn_counts settings (Leaving c) s actions s' t = counts_none s.numbers s'.numbers actions (count_of actions [] t.actions_are) (records_in s'.numbers _ t.keeps.numbers)
turn_counts settings (Closing c) s actions s' t = counts_none s.numbers s'.numbers actions (count_of actions _ t.actions_are) (records_in s'.numbers _ t.keeps.numbers)
turn_counts settings (OriginSending f octets) s actions s' t = counts_none s.numbers s'.numbers actions (count_of actions [] t.actions_are) (records_in s'.numbers _ t.keeps.numbers)
turn_counts settings (Answering f ended) s actions s' t = by_purpose t.awaited.forward.purpose t.ends
  where
    given : List Action
    given = response_actions f s.numbers.moment (is_head t.awaited.forward.request.method) t.response

    by_purpose : (p : Purpose) → EndsByResponse p settings (answered_now f t.awaited.forward t.response t.renewed s) s actions s' → Counts s.numbers s'.numbers actions
    by_purpose purpose.Background d = counts_one s.numbers s'.numbers actions (count_of actions given d.1.actions_are) (records_in s'.numbers _ d.1.numbers)
    by_purpose (purpose.Reply e why kind) d =
        outcome_counts (record { forward = f; exchange = e; why = why; first = given }) (asker_now settings s d.exchange d.connection) d.outcome s actions s' refl d.does
turn_counts settings (Failing f how) s actions s' t = by_purpose t.awaited.forward.purpose t.ends
  where
    given : List Action
    given = failure_actions f s.numbers.moment (is_closed how)

    by_purpose : (p : Purpose) → EndsByFailure p settings (failed_now f t.awaited.forward.target how s) s actions s' → Counts s.numbers s'.numbers actions
    by_purpose purpose.Background d =
        counts_one s.numbers s'.numbers actions (count_of actions given d.1.actions_are ∙ count_failure f s.numbers.moment (is_closed how)) (records_in s'.numbers _ d.1.numbers)
    by_purpose (purpose.Reply e why kind) d =
        outcome_counts (record { forward = f; exchange = e; why = why; first = given }) (asker_now settings s d.exchange d.connection) d.outcome s actions s' (count_failure f s.numbers.moment (is_closed how)) d.does
turn_counts settings (Releasing e) s actions s' t = by_choice (shared s.numbers.moment t.chosen) t.does
  where
    by_choice : (o : Option Stored) → DoesRelease o e (asker_now settings s t.exchange t.connection) s actions s' → Counts s.numbers s'.numbers actions
    by_choice (Some stored) d =
        let wanted = wanted_now settings s t.exchange.request t.connection in
        counts_one s.numbers s'.numbers actions
        (count_of actions _ d.actions_are ∙ count_reply e s.numbers.moment (is_head t.exchange.request.method) t.exchange.connection wanted.closes (collapsed_reply wanted stored))
        (records_in s'.numbers _ d.numbers)
    by_choice None d = counts_one s.numbers s'.numbers actions (count_of actions _ d.actions_are) (records_in s'.numbers _ d.numbers)
turn_counts settings Stopping s actions s' t = counts_none s.numbers s'.numbers actions (count_of actions [] t.actions_are) (records_in s'.numbers _ t.numbers)

run_counts : (settings : CoreSettings) (turns : List Turn) (s : State) (actions : List Action) (s' : State) → Run settings turns s actions s' → Counts s.numbers s'.numbers actions
run_counts settings [] s actions s' r = counts_none s.numbers s'.numbers actions (count_of actions [] r.0) (ap (λ (s : State). s.numbers.records) r.1)
run_counts settings (turn ∷ turns) s actions s' r =
    let both : count actions ≡ count r.1 + count r.2 = count_of actions (r.1 ++ r.2) r.4 ∙ count_append r.1 r.2 in
    let one = turn_counts settings turn s r.1 r.0 r.3 in
    let more = run_counts settings turns r.0 r.2 s' r.5 in
    record {
      most = omega (arith, one.most, more.most, both);
      exact = λ le. let mid = one.exact (omega (arith, both)) in let last = more.exact (omega (arith, both, mid)) in omega (arith, both, mid, last);
    }

pub event_counts : (settings : CoreSettings) (event : Event) (s : State) (actions : List Action) (s' : State) → Serves settings event s actions s' → Counts s.numbers s'.numbers actions
event_counts settings event s actions s' v = run_counts settings v.turns (passed_to event.moment s) actions s' v.run

-- ---- what has happened behind a run

-- records behind others
joined : (records more : List Record) (h between later : History) → GoesOnWith records h between → GoesOnWith more between later → GoesOnWith (records ++ more) h later
joined records more h between later first second = record {
  newer = second.newer ++ first.newer;
  records_are = second.records_are ∙ ap (behind more) first.records_are ∙ sym (behind_append records more h.records);
  items_are = second.items_are ∙ ap (λ (items : List Item). second.newer ++ items) first.items_are ∙ sym (append_assoc second.newer first.newer h.items);
  right = right_append second.newer first.newer h.items (subst (AllRightBehind second.newer) first.items_are second.right) first.right;
}

with_more : (actions : List Action) (rest : List Record) (h between later : History) → Records actions h between → GoesOnWith rest between later → GoesOnWith (records_of actions ++ rest) h later
with_more actions rest h between later one more =
    joined (records_of actions) rest h between later (record { newer = one.newer; records_are = one.records_are; items_are = one.items_are; right = one.right }) more

-- nothing goes on
stays_to : (records : List Record) (s : State) (h : History) (end : Option State) → records ≡ [] → Agrees s h → EndAgrees end h → RunsTo records h end
stays_to records s h end none a agrees = record {
  later = h;
  goes_on = record { newer = []; records_are = sym (ap (λ (rs : List Record). behind rs h.records) none); items_are = refl; right = tt };
  are_read = a.consistent.counted.are_read;
  agrees = agrees;
}

pub runs_to : (settings : CoreSettings) (events : List Event) (results : List StepResult) (s : State) (h : History) (records : List Record) (end : Option State)
    → Runs settings s h events results records end → RunsTo records h end
runs_to settings [] [] s h records end runs = stays_to records s h end runs.1 runs.0 (subst (λ (o : Option State). EndAgrees o h) (sym runs.2) runs.0)
runs_to settings [] (result ∷ results) s h records end runs = absurd runs
runs_to settings (event ∷ events) [] s h records end runs = absurd runs
runs_to settings (event ∷ events) (Ok actions ∷ results) s h records end runs =
    let between = runs.2 in
    let rest = runs.3 in
    let more = runs_to settings events results runs.1 between rest end runs.7 in
    record {
      later = more.later;
      goes_on = subst (λ (rs : List Record). GoesOnWith rs h more.later) (sym runs.6) (with_more actions.items rest h between more.later runs.5.records more.goes_on);
      are_read = more.are_read;
      agrees = more.agrees;
    }
runs_to settings (event ∷ events) (Err Memory ∷ results) s h records end runs = stays_to records s h end runs.3 runs.0 (subst (λ (o : Option State). EndAgrees o h) (sym runs.4) tt)
runs_to settings (event ∷ events) (Err MomentTooLarge ∷ results) s h records end runs = runs_to settings events results s h records end runs.2
runs_to settings (event ∷ events) (Err UnknownNumber ∷ results) s h records end runs = runs_to settings events results s h records end runs.2
runs_to settings (event ∷ events) (Err TooManyConnections ∷ results) s h records end runs = runs_to settings events results s h records end runs.2
runs_to settings (event ∷ events) (Err Failed ∷ results) s h records end runs = absurd runs

-- ---- what a run records is judged right

text_behind : (records before : List Record)
    → records_text recorded_format (behind records before) ≡ records_text recorded_format before ++ flat_map (record_text recorded_format) records
text_behind [] before = sym (append-nil (records_text recorded_format before))
text_behind (r ∷ records) before =
    text_behind records (r ∷ before)
    ∙ append_assoc (records_text recorded_format before) (record_text recorded_format r) (flat_map (record_text recorded_format) records)

all_right : (newer items : List Item) → AllRight recorded_format strict items → AllRightBehind newer items → AllRight recorded_format strict (newer ++ items)
all_right [] items right more = right
all_right (item ∷ newer) items right more = (all_right newer items right more.0, more.1)

pub right_judged : (records : List Record) (end : Option State) → RunsTo records nothing_yet end → IsJudgedRight records
right_judged records end to =
    let more = to.goes_on in
    record {
      counts = counts_of recorded_format strict to.later.items;
      verdict = record {
        format = recorded_format;
        records = to.later.records;
        history = to.later.items;
        is_transcript = record {
          octets_are = ap (λ (text : List ℕ). opening recorded_format ++ text)
              (sym (append-nil (records_text recorded_format to.later.records) ∙ ap (records_text recorded_format) more.records_are ∙ text_behind records []));
          are_read = to.are_read;
        };
        all_right = subst (AllRight recorded_format strict) (sym more.items_are) (all_right more.newer [] tt more.right);
        counts_are = refl;
      };
    }

pub runs_judged : (settings : CoreSettings) (options : CoreOptions) (events : List Event) (results : List StepResult) (records : List Record) (end : Option State)
    → Runs settings (new_state_with settings options) nothing_yet events results records end → IsJudgedRight records
runs_judged settings options events results records end runs = right_judged records end (runs_to settings events results (new_state_with settings options) nothing_yet records end runs)

-- ---- runs join

pub right_begins : (settings : CoreSettings) (options : CoreOptions) → RunsTo [] nothing_yet (Some (new_state_with settings options))
right_begins settings options = let agrees = new_agrees settings options in stays_to [] (new_state_with settings options) nothing_yet (Some (new_state_with settings options)) refl agrees agrees

pub right_joins : (h : History) (records more : List Record) (mid end : Option State) → (to : RunsTo records h mid) → RunsTo more to.later end → RunsTo (records ++ more) h end
right_joins h records more mid end to onward = record {
  later = onward.later;
  goes_on = joined records more h to.later onward.later to.goes_on onward.goes_on;
  are_read = onward.are_read;
  agrees = onward.agrees;
}

-- a run from where a run has led to is, with it, one run
pub runs_on : (settings : CoreSettings) (events : List Event) (results : List StepResult) (s mid : State) (h : History) (records : List Record)
    → Runs settings s h events results records (Some mid) → RunsOn settings s h (record { events = events; results = results; records = records }) mid
runs_on settings [] [] s mid h records runs =
    let same = some_one mid s runs.2 in
    record {
      later = h;
      agrees = subst (λ (s : State). Agrees s h) (sym same) runs.0;
      goes_on = λ others answers more end onward.
          subst (λ (rs : List Record). Runs settings s h others answers (rs ++ more) end) (sym runs.1) (subst (λ (s : State). Runs settings s h others answers more end) same onward);
    }
  where
    some_one : (a b : State) → Some a ≡ Some b → a ≡ b
    some_one a b e = cc
runs_on settings [] (result ∷ results) s mid h records runs = absurd runs
runs_on settings (event ∷ events) [] s mid h records runs = absurd runs
runs_on settings (event ∷ events) (Ok actions ∷ results) s mid h records runs =
    let next = runs_on settings events results runs.1 mid runs.2 runs.3 runs.7 in
    record {
      later = next.later;
      agrees = next.agrees;
      goes_on = λ others answers more end onward. (
        runs.0,
        runs.1,
        runs.2,
        runs.3 ++ more,
        runs.4,
        runs.5,
        ap (λ (rs : List Record). rs ++ more) runs.6 ∙ append_assoc (records_of actions.items) runs.3 more,
        next.goes_on others answers more end onward,
      );
    }
runs_on settings (event ∷ events) (Err Memory ∷ results) s mid h records runs = absurd (not_none mid runs.4)
  where
    not_none : (a : State) → Some a ≡ None → ⊥
    not_none a e = cc
runs_on settings (event ∷ events) (Err MomentTooLarge ∷ results) s mid h records runs =
    let next = runs_on settings events results s mid h records runs.2 in
    record {
      later = next.later;
      agrees = next.agrees;
      goes_on = λ others answers more end onward. (runs.0, runs.1, next.goes_on others answers more end onward);
    }
runs_on settings (event ∷ events) (Err UnknownNumber ∷ results) s mid h records runs =
    let next = runs_on settings events results s mid h records runs.2 in
    record {
      later = next.later;
      agrees = next.agrees;
      goes_on = λ others answers more end onward. (runs.0, runs.1, next.goes_on others answers more end onward);
    }
runs_on settings (event ∷ events) (Err TooManyConnections ∷ results) s mid h records runs =
    let next = runs_on settings events results s mid h records runs.2 in
    record {
      later = next.later;
      agrees = next.agrees;
      goes_on = λ others answers more end onward. (runs.0, runs.1, next.goes_on others answers more end onward);
    }
runs_on settings (event ∷ events) (Err Failed ∷ results) s mid h records runs = absurd runs

as_many_items : (records : List Record) (items : List Item) → AreReadAs recorded_format records items → length records ≡ length items
as_many_items [] [] read = refl
as_many_items [] (item ∷ items) read = absurd read
as_many_items (r ∷ records) [] read = absurd read
as_many_items (r ∷ records) (item ∷ items) read = ap suc (as_many_items records items read.0)

as_many_behind : (records before : List Record) → length (behind records before) ≡ length records + length before
as_many_behind [] before = omega arith
as_many_behind (r ∷ records) before = let more = as_many_behind records (r ∷ before) in omega (arith, more)

counted_behind : (records : List Record) (h : History) (s : State) → AreReadAs recorded_format h.records h.items → RunsTo records h (Some s)
    → s.numbers.records ≡ length h.items + length records
counted_behind records h s read_before to =
    let counted = to.agrees.consistent.counted.records in
    let read = as_many_items to.later.records to.later.items to.are_read in
    let before = as_many_items h.records h.items read_before in
    let stands_behind = ap (λ (rs : List Record). length rs) to.goes_on.records_are in
    let all = as_many_behind records h.records in
    omega (arith, counted, read, before, stands_behind, all)

pub right_counted : (records : List Record) (s : State) → RunsTo records nothing_yet (Some s) → s.numbers.records ≡ length records
right_counted records s to = let counted : s.numbers.records ≡ 0 + length records = counted_behind records nothing_yet s tt to in omega (arith, counted)

-- a run begins with agreement
pub runs_agree : (settings : CoreSettings) (events : List Event) (results : List StepResult) (s : State) (h : History) (records : List Record) (end : Option State)
    → Runs settings s h events results records end → Agrees s h
runs_agree settings [] [] s h records end runs = runs.0
runs_agree settings [] (result ∷ results) s h records end runs = absurd runs
runs_agree settings (event ∷ events) [] s h records end runs = absurd runs
runs_agree settings (event ∷ events) (Ok actions ∷ results) s h records end runs = runs.0
runs_agree settings (event ∷ events) (Err Memory ∷ results) s h records end runs = runs.0
runs_agree settings (event ∷ events) (Err MomentTooLarge ∷ results) s h records end runs = runs.0
runs_agree settings (event ∷ events) (Err UnknownNumber ∷ results) s h records end runs = runs.0
runs_agree settings (event ∷ events) (Err TooManyConnections ∷ results) s h records end runs = runs.0
runs_agree settings (event ∷ events) (Err Failed ∷ results) s h records end runs = absurd runs

pub runs_counted : (settings : CoreSettings) (events : List Event) (results : List StepResult) (s mid : State) (h : History) (records : List Record)
    → Runs settings s h events results records (Some mid) → mid.numbers.records ≡ s.numbers.records + length records
runs_counted settings events results s mid h records runs =
    let agrees = runs_agree settings events results s h records (Some mid) runs in
    let counted = agrees.consistent.counted in
    counted_behind records h mid counted.are_read (runs_to settings events results s h records (Some mid) runs) ∙ ap (λ (n : ℕ). n + length records) (sym counted.records)

-- ---- steps are a run

module _ (settings : CoreSettings) (good : AreGood settings) (laws : ForwardLaws) where
  pub steps_run : (events : List Event) (results : List StepResult) (s : State) (h : History) (end : Option State) → Agrees s h → Steps settings s events results end
      → s.numbers.records + length (records_given results) ≤ greatest_number → Runs settings s h events results (records_given results) end
  steps_run [] [] s h end a steps le = (a, refl, steps)
  steps_run [] (result ∷ results) s h end a steps le = absurd steps
  steps_run (event ∷ events) [] s h end a steps le = absurd steps
  steps_run (event ∷ events) (Ok actions ∷ results) s h end a steps le =
      let mid = steps.0 in
      let all = length-append (records_of actions.items) (records_given results) in
      let counts = (event_counts settings event s actions.items mid steps.1).most in
      let k = event_keeps settings good laws event s actions.items mid h a steps.1 (omega arith) in
      (a, mid, k.later, records_given results, steps.1, k.goes_on, refl, steps_run events results mid k.later end k.agrees steps.2 (omega arith))
  steps_run (event ∷ events) (Err Memory ∷ results) s h end a steps le = (a, steps.0, steps.1, ap records_given steps.1, steps.2)
  steps_run (event ∷ events) (Err MomentTooLarge ∷ results) s h end a steps le = (a, steps.0, steps_run events results s h end a steps.1 le)
  steps_run (event ∷ events) (Err UnknownNumber ∷ results) s h end a steps le = (a, steps.0, steps_run events results s h end a steps.1 le)
  steps_run (event ∷ events) (Err TooManyConnections ∷ results) s h end a steps le = (a, steps.0, steps_run events results s h end a steps.1 le)
  steps_run (event ∷ events) (Err Failed ∷ results) s h end a steps le = absurd steps

  -- where steps have led a new cache, each forward can end
  pub steps_ready : (options : CoreOptions) (events : List Event) (results : List StepResult) (s : State) → Steps settings (new_state_with settings options) events results (Some s)
      → length (records_given results) ≤ greatest_number → IsReady s
  steps_ready options events results s steps le =
      let runs = steps_run events results (new_state_with settings options) nothing_yet (Some s) (new_agrees settings options) steps (omega arith) in
      let to = runs_to settings events results (new_state_with settings options) nothing_yet (records_given results) (Some s) runs in
      agreement_ready s to.later to.agrees

-- ---- a run is steps

pub runs_steps : (settings : CoreSettings) (events : List Event) (results : List StepResult) (s : State) (h : History) (records : List Record) (end : Option State)
    → Runs settings s h events results records end → Steps settings s events results end
runs_steps settings [] [] s h records end runs = runs.2
runs_steps settings [] (result ∷ results) s h records end runs = absurd runs
runs_steps settings (event ∷ events) [] s h records end runs = absurd runs
runs_steps settings (event ∷ events) (Ok actions ∷ results) s h records end runs = (runs.1, runs.4, runs_steps settings events results runs.1 runs.2 runs.3 end runs.7)
runs_steps settings (event ∷ events) (Err Memory ∷ results) s h records end runs = (runs.1, runs.2, runs.4)
runs_steps settings (event ∷ events) (Err MomentTooLarge ∷ results) s h records end runs = (runs.1, runs_steps settings events results s h records end runs.2)
runs_steps settings (event ∷ events) (Err UnknownNumber ∷ results) s h records end runs = (runs.1, runs_steps settings events results s h records end runs.2)
runs_steps settings (event ∷ events) (Err TooManyConnections ∷ results) s h records end runs = (runs.1, runs_steps settings events results s h records end runs.2)
runs_steps settings (event ∷ events) (Err Failed ∷ results) s h records end runs = absurd runs

-- ---- steps, one after another

pub steps_append : (settings : CoreSettings) (events others : List Event) (results answers : List StepResult) (s mid : State) (end : Option State) → Steps settings s events results (Some mid)
    → Steps settings mid others answers end → Steps settings s (events ++ others) (results ++ answers) end
steps_append settings [] others [] answers s mid end steps more = subst (λ (s : State). Steps settings s others answers end) (some_one mid s steps) more
  where
    some_one : (a b : State) → Some a ≡ Some b → a ≡ b
    some_one a b e = cc
steps_append settings [] others (result ∷ results) answers s mid end steps more = absurd steps
steps_append settings (event ∷ events) others [] answers s mid end steps more = absurd steps
steps_append settings (event ∷ events) others (Ok actions ∷ results) answers s mid end steps more =
    (steps.0, steps.1, steps_append settings events others results answers steps.0 mid end steps.2 more)
steps_append settings (event ∷ events) others (Err Memory ∷ results) answers s mid end steps more = absurd (not_none mid steps.2)
  where
    not_none : (a : State) → Some a ≡ None → ⊥
    not_none a e = cc
steps_append settings (event ∷ events) others (Err MomentTooLarge ∷ results) answers s mid end steps more =
    (steps.0, steps_append settings events others results answers s mid end steps.1 more)
steps_append settings (event ∷ events) others (Err UnknownNumber ∷ results) answers s mid end steps more =
    (steps.0, steps_append settings events others results answers s mid end steps.1 more)
steps_append settings (event ∷ events) others (Err TooManyConnections ∷ results) answers s mid end steps more =
    (steps.0, steps_append settings events others results answers s mid end steps.1 more)
steps_append settings (event ∷ events) others (Err Failed ∷ results) answers s mid end steps more = absurd steps
