-- What calls of an agenda keep of what is noted.
use Rattle.std.proofs.Common.{◌≡◌, ◌⊎◌, ℕ, ◌≤◌, ◌||◌, Bool, true, false, List, [], ◌∷◌, ◌++◌, Some, None, nat_le, refl, sym, ap, subst, ◌∙◌, ⊎_elim, inl, inr, true≢false, cond, arith}
use Rattle.std.specs.List.{list_any}
use Rattle.std.proofs.lemmas.Bool.Decides.{nat_tests}
use Rattle.std.proofs.lemmas.List.Folds.{list_any-append}
use Rattle.hc_order.specs.declared.receiver.Receiver.{Receiver}
use Rattle.hc_order.specs.declared.receiver.Receiver.TheVariants.{Client, Origin}
use Rattle.hc_order.specs.Passages.{is_at}
use Rattle.hc_agenda.specs.declared.agenda.Agenda.{Agenda}
use Rattle.hc_agenda.specs.declared.deadline.Timeout.{Timeout}
use Rattle.hc_agenda.specs.Agendas.{ForgetsDeadlines, NotesDeadline, NotesOwed, NotesTurns, owed_in}
use Rattle.hc_agenda.specs.Deadlines.{deadline_at, has_come}
use Rattle.hc_agenda.specs.Due.{same_number, same_timeout}
use Rattle.hc_agenda.specs.Turns.{Waiting, all_of, batch_of, before_all, pushed}
use Rattle.hc_attended.specs.Notes.{KeepsNotes, due_of, is_due_up_to, is_noted_owed, no_deadline, no_link, stands_in_turn}

-- ---- links

pub is_itself : (link : Receiver) → is_at link link ≡ true
is_itself (Client n) = grind (arith)
is_itself (Origin n) = grind (arith)

-- ---- lists

any_left : (test : Receiver → Bool) (xs ys : List Receiver) → list_any test xs ≡ true → list_any test (xs ++ ys) ≡ true
any_left test xs ys is = list_any-append test xs ys ∙ ap (λ b. b || list_any test ys) is

or_true : (b : Bool) → (b || true) ≡ true
or_true true = refl
or_true false = refl

any_right : (test : Receiver → Bool) (xs ys : List Receiver) → list_any test ys ≡ true → list_any test (xs ++ ys) ≡ true
any_right test xs ys is = list_any-append test xs ys ∙ ap (λ b. list_any test xs || b) is ∙ or_true (list_any test xs)

pub or_cases : (a b : Bool) → (a || b) ≡ true → (a ≡ true) ⊎ (b ≡ true)
or_cases true b is = inl refl
or_cases false b is = inr is

any_cases : (test : Receiver → Bool) (xs ys : List Receiver) → list_any test (xs ++ ys) ≡ true → (list_any test xs ≡ true) ⊎ (list_any test ys ≡ true)
any_cases test xs ys is = or_cases (list_any test xs) (list_any test ys) (sym (list_any-append test xs ys) ∙ is)

any_last : (link : Receiver) (xs : List Receiver) → list_any (is_at link) (xs ++ link ∷ []) ≡ true
any_last link xs = any_right (is_at link) xs (link ∷ []) (ap (λ b. b || false) (is_itself link))

-- ---- what is kept

pub notes_same : (agenda : Agenda) → KeepsNotes no_link no_link no_deadline agenda agenda
notes_same agenda = record {
  refused = λ is. is;
  turns = λ link other is. is;
  owed = λ link other is. is;
  due = λ timeout n other. refl;
}

-- one call behind another
pub notes_then : {t o : Receiver → Bool} {d : Timeout → ℕ → Bool} {before between after : Agenda} → KeepsNotes t o d before between → KeepsNotes t o d between after → KeepsNotes t o d before after
notes_then one other = record {
  refused = λ is. one.refused (other.refused is);
  turns = λ link apart is. other.turns link apart (one.turns link apart is);
  owed = λ link apart is. other.owed link apart (one.owed link apart is);
  due = λ timeout n apart. other.due timeout n apart ∙ one.due timeout n apart;
}

-- what loses less
pub notes_wider : {t o t' o' : Receiver → Bool} {d d' : Timeout → ℕ → Bool} {before after : Agenda} → ((link : Receiver) → t' link ≡ false → t link ≡ false)
    → ((link : Receiver) → o' link ≡ false → o link ≡ false) → ((timeout : Timeout) (n : ℕ) → d' timeout n ≡ false → d timeout n ≡ false)
    → KeepsNotes t o d before after → KeepsNotes t' o' d' before after
notes_wider turns owed due kept = record {
  refused = kept.refused;
  turns = λ link apart. kept.turns link (turns link apart);
  owed = λ link apart. kept.owed link (owed link apart);
  due = λ timeout n apart. kept.due timeout n (due timeout n apart);
}

-- ---- turns

among_pushed : (waiting : Waiting) (link other : Receiver) → list_any (is_at other) (all_of waiting) ≡ true → list_any (is_at other) (all_of (pushed waiting link)) ≡ true
among_pushed waiting link other there =
    ⊎_elim
    (any_left (is_at other) waiting.batch (waiting.behind ++ link ∷ []))
    (λ behind. any_right (is_at other) waiting.batch (waiting.behind ++ link ∷ []) (any_left (is_at other) waiting.behind (link ∷ []) behind))
    (any_cases (is_at other) waiting.batch waiting.behind there)

among_put : (waiting : Waiting) (link other : Receiver) → list_any (is_at other) (all_of waiting) ≡ true → list_any (is_at other) (all_of (before_all waiting link)) ≡ true
among_put waiting link other there = any_right (is_at other) (link ∷ []) (waiting.batch ++ waiting.behind) there

last_pushed : (waiting : Waiting) (link : Receiver) → list_any (is_at link) (all_of (pushed waiting link)) ≡ true
last_pushed waiting link = any_right (is_at link) waiting.batch (waiting.behind ++ link ∷ []) (any_last link waiting.behind)

first_put : (waiting : Waiting) (link : Receiver) → list_any (is_at link) (all_of (before_all waiting link)) ≡ true
first_put waiting link = ap (λ b. b || list_any (is_at link) (waiting.batch ++ waiting.behind)) (is_itself link)

turns_kept : (turns : Waiting) (before after : Agenda) → NotesTurns turns before after
    → ((other : Receiver) → stands_in_turn other before ≡ true → list_any (is_at other) (all_of turns) ≡ true) → KeepsNotes no_link no_link no_deadline before after
turns_kept turns before after (inl is) all = record {
  refused = λ none. sym (ap (λ (a : Agenda). a.refused) is) ∙ none;
  turns = λ link apart stood. ap (λ (a : Agenda). stands_in_turn link a) is ∙ all link stood;
  owed = λ link apart noted. ap (λ (a : Agenda). is_noted_owed link a) is ∙ noted;
  due = λ timeout n apart. ap (λ (a : Agenda). deadline_at timeout n a.deadlines) is;
}
turns_kept turns before after (inr is) all = record {
  refused = λ none. absurd (true≢false (sym (ap (λ (a : Agenda). a.refused) is) ∙ none));
  turns = λ link apart stood. ap (λ (a : Agenda). stands_in_turn link a) is ∙ stood;
  owed = λ link apart noted. ap (λ (a : Agenda). is_noted_owed link a) is ∙ noted;
  due = λ timeout n apart. ap (λ (a : Agenda). deadline_at timeout n a.deadlines) is;
}

stands_by : (turns : Waiting) (link : Receiver) (before after : Agenda) → NotesTurns turns before after → list_any (is_at link) (all_of turns) ≡ true → after.refused ≡ false
    → stands_in_turn link after ≡ true
stands_by turns link before after (inl is) there none = ap (λ (a : Agenda). stands_in_turn link a) is ∙ there
stands_by turns link before after (inr is) there none = absurd (true≢false (sym (ap (λ (a : Agenda). a.refused) is) ∙ none))

-- a link gets a turn behind all others
pub turn_kept : (link : Receiver) (before after : Agenda) → NotesTurns (pushed before.turns link) before after → KeepsNotes no_link no_link no_deadline before after
turn_kept link before after notes = turns_kept (pushed before.turns link) before after notes (among_pushed before.turns link)

pub turn_given : (link : Receiver) (before after : Agenda) → NotesTurns (pushed before.turns link) before after → after.refused ≡ false → stands_in_turn link after ≡ true
turn_given link before after notes = stands_by (pushed before.turns link) link before after notes (last_pushed before.turns link)

-- a link gets a turn before all others
pub first_kept : (link : Receiver) (before after : Agenda) → NotesTurns (before_all before.turns link) before after → KeepsNotes no_link no_link no_deadline before after
first_kept link before after notes = turns_kept (before_all before.turns link) before after notes (among_put before.turns link)

pub first_given : (link : Receiver) (before after : Agenda) → NotesTurns (before_all before.turns link) before after → after.refused ≡ false → stands_in_turn link after ≡ true
first_given link before after notes = stands_by (before_all before.turns link) link before after notes (first_put before.turns link)

-- the first link has its turn: no other loses its own
pub turn_taken : (link : Receiver) (agenda : Agenda) (turns : Waiting) → agenda.turns ≡ record { batch = link ∷ turns.batch; behind = turns.behind }
    → KeepsNotes (is_at link) no_link no_deadline agenda (record agenda { turns = turns })
turn_taken link agenda turns is = record {
  refused = λ none. none;
  turns = λ other apart stood. still other apart (sym (ap (λ (w : Waiting). list_any (is_at other) (all_of w)) is) ∙ stood);
  owed = λ other apart noted. noted;
  due = λ timeout n apart. refl;
}
  where
    flip : (one other : Receiver) → is_at one other ≡ false → is_at other one ≡ false
    flip (Client n) (Client m) apart = grind (arith, apart)
    flip (Client n) (Origin m) apart = refl
    flip (Origin n) (Client m) apart = refl
    flip (Origin n) (Origin m) apart = grind (arith, apart)

    still : (other : Receiver) → is_at link other ≡ false → (is_at other link || list_any (is_at other) (turns.batch ++ turns.behind)) ≡ true → list_any (is_at other) (turns.batch ++ turns.behind) ≡ true
    still other apart stood = subst (λ b. (b || list_any (is_at other) (turns.batch ++ turns.behind)) ≡ true) (flip link other apart) stood

-- a batch begins: whoever stands among the turns does still
pub batch_kept : (agenda : Agenda) (turns : Waiting) → turns ≡ batch_of agenda.turns → KeepsNotes no_link no_link no_deadline agenda (record agenda { turns = turns })
batch_kept agenda turns is = record {
  refused = λ none. none;
  turns = λ link apart stood. ap (λ (w : Waiting). list_any (is_at link) (all_of w)) is ∙ any_left (is_at link) (agenda.turns.batch ++ agenda.turns.behind) [] stood;
  owed = λ link apart noted. noted;
  due = λ timeout n apart. refl;
}

-- ---- what is owed

owed_kept : (links : List Receiver) (before after : Agenda) → (owed : (other : Receiver) → is_noted_owed other before ≡ true → is_noted_owed other after ≡ true)
    → after ≡ record before { owed = after.owed } → KeepsNotes no_link no_link no_deadline before after
owed_kept links before after owed is = record {
  refused = λ none. sym (ap (λ (a : Agenda). a.refused) is) ∙ none;
  turns = λ link apart stood. ap (λ (a : Agenda). stands_in_turn link a) is ∙ stood;
  owed = λ link apart noted. owed link noted;
  due = λ timeout n apart. ap (λ (a : Agenda). deadline_at timeout n a.deadlines) is;
}

-- it is noted that something may have to be written to a link
pub owe_kept : (link : Receiver) (before after : Agenda) → after ≡ record before { owed = after.owed } → owed_in after ≡ owed_in before ++ link ∷ [] → KeepsNotes no_link no_link no_deadline before after
owe_kept link before after is owed =
    owed_kept (owed_in before) before after (λ other noted. ap (list_any (is_at other)) owed ∙ any_left (is_at other) (owed_in before) (link ∷ []) noted) is

pub owe_noted : (link : Receiver) (before after : Agenda) → owed_in after ≡ owed_in before ++ link ∷ [] → is_noted_owed link after ≡ true
owe_noted link before after owed = ap (list_any (is_at link)) owed ∙ any_last link (owed_in before)

pub note_kept : (link : Receiver) (before after : Agenda) → NotesOwed link before after → KeepsNotes no_link no_link no_deadline before after
note_kept link before after (inl is) = owe_kept link before after is.0 is.1
note_kept link before after (inr is) = record {
  refused = λ none. absurd (true≢false (sym (ap (λ (a : Agenda). a.refused) is.0) ∙ none));
  turns = λ other apart stood. ap (λ (a : Agenda). stands_in_turn other a) is.0 ∙ stood;
  owed = λ other apart noted. ap (list_any (is_at other)) is.1 ∙ noted;
  due = λ timeout n apart. ap (λ (a : Agenda). deadline_at timeout n a.deadlines) is.0;
}

pub note_given : (link : Receiver) (before after : Agenda) → NotesOwed link before after → after.refused ≡ false → is_noted_owed link after ≡ true
note_given link before after (inl is) none = owe_noted link before after is.1
note_given link before after (inr is) none = absurd (true≢false (sym (ap (λ (a : Agenda). a.refused) is.0) ∙ none))

-- the first link to which something may have to be written is taken out: no other is
pub owed_taken : (link : Receiver) (before after : Agenda) → after ≡ record before { owed = after.owed } → owed_in before ≡ link ∷ owed_in after
    → KeepsNotes no_link (is_at link) no_deadline before after
owed_taken link before after is owed = record {
  refused = λ none. sym (ap (λ (a : Agenda). a.refused) is) ∙ none;
  turns = λ other apart stood. ap (λ (a : Agenda). stands_in_turn other a) is ∙ stood;
  owed = λ other apart noted. still other apart (sym (ap (list_any (is_at other)) owed) ∙ noted);
  due = λ timeout n apart. ap (λ (a : Agenda). deadline_at timeout n a.deadlines) is;
}
  where
    flip : (one other : Receiver) → is_at one other ≡ false → is_at other one ≡ false
    flip (Client n) (Client m) apart = grind (arith, apart)
    flip (Client n) (Origin m) apart = refl
    flip (Origin n) (Client m) apart = refl
    flip (Origin n) (Origin m) apart = grind (arith, apart)

    still : (other : Receiver) → is_at link other ≡ false → (is_at other link || list_any (is_at other) (owed_in after)) ≡ true → list_any (is_at other) (owed_in after) ≡ true
    still other apart stood = subst (λ b. (b || list_any (is_at other) (owed_in after)) ≡ true) (flip link other apart) stood

-- ---- deadlines

pub due_moved : (timeout : Timeout) (tick n : ℕ) (before after : Agenda) → NotesDeadline timeout tick n before after
    → KeepsNotes no_link no_link (due_of (same_timeout timeout) n) before after
due_moved timeout tick n before after (inl is) = record {
  refused = λ none. sym (ap (λ (a : Agenda). a.refused) is.0) ∙ none;
  turns = λ link apart stood. ap (λ (a : Agenda). stands_in_turn link a) is.0 ∙ stood;
  owed = λ link apart noted. ap (λ (a : Agenda). is_noted_owed link a) is.0 ∙ noted;
  due = λ other m apart. is.1.at other m ∙ ap (λ b. cond b (Some tick) (deadline_at other m before.deadlines)) apart;
}
due_moved timeout tick n before after (inr is) = record {
  refused = λ none. absurd (true≢false (sym (ap (λ (a : Agenda). a.refused) is.0) ∙ none));
  turns = λ link apart stood. ap (λ (a : Agenda). stands_in_turn link a) is.0 ∙ stood;
  owed = λ link apart noted. ap (λ (a : Agenda). is_noted_owed link a) is.0 ∙ noted;
  due = λ other m apart. is.1.same other m;
}

same_itself : (timeout : Timeout) (n : ℕ) → same_number timeout n timeout n ≡ true
same_itself timeout n = grind (arith)

it_has_come : (tick latest : ℕ) → tick ≤ latest → nat_le tick latest ≡ true
it_has_come tick latest early = grind (arith, nat_tests, early)

pub due_given : (timeout : Timeout) (tick n latest : ℕ) (before after : Agenda) → NotesDeadline timeout tick n before after → tick ≤ latest → after.refused ≡ false
    → is_due_up_to timeout n latest after ≡ true
due_given timeout tick n latest before after (inl is) early none =
    ap (λ o. has_come o latest) (is.1.at timeout n ∙ ap (λ b. cond b (Some tick) (deadline_at timeout n before.deadlines)) (same_itself timeout n)) ∙ it_has_come tick latest early
due_given timeout tick n latest before after (inr is) early none = absurd (true≢false (sym (ap (λ (a : Agenda). a.refused) is.0) ∙ none))

pub due_forgotten : (is_of : Timeout → Bool) (n : ℕ) (before after : Agenda) → ForgetsDeadlines is_of n before after → KeepsNotes no_link no_link (due_of is_of n) before after
due_forgotten is_of n before after is = record {
  refused = λ none. sym (ap (λ (a : Agenda). a.refused) is.0) ∙ none;
  turns = λ link apart stood. ap (λ (a : Agenda). stands_in_turn link a) is.0 ∙ stood;
  owed = λ link apart noted. ap (λ (a : Agenda). is_noted_owed link a) is.0 ∙ noted;
  due = λ timeout m apart. is.1 timeout m ∙ ap (λ b. cond b None (deadline_at timeout m before.deadlines)) apart;
}
