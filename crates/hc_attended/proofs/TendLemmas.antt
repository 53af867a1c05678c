-- What is done at one link, step by step.
use Rattle.std.proofs.Common.{◌≡◌, ℕ, ◌==◌, ◌||◌, ◌&&◌, Bool, true, false, Option, Some, None, refl, sym, ap, subst, ◌∙◌, max, ◌+◌}
use Rattle.std.specs.BTreeMap.{get}
use Rattle.std.specs.Option.{option_map}
use Rattle.std.specs.Ordering.{nat_cmp}
use Rattle.hc_order.specs.declared.receiver.Receiver.{Receiver}
use Rattle.hc_order.specs.declared.receiver.Receiver.TheVariants.{Client as to_client, Origin as to_origin}
use Rattle.hc_agenda.specs.declared.agenda.Agenda.{Agenda}
use Rattle.hc_agenda.specs.declared.deadline.Timeout.{Timeout}
use Rattle.hc_agenda.specs.declared.deadline.Timeout.TheVariants as timeouts
use Rattle.hc_agenda.specs.Deadlines.{is_of_client}
use Rattle.hc_agenda.specs.Due.{same_timeout}
use Rattle.hc_flow.specs.Paces.{next_look}
use Rattle.hc_peers.specs.declared.client.Client.{Client}
use Rattle.hc_peers.specs.declared.forward.Forward.{Forward}
use Rattle.hc_peers.specs.declared.peers.Peers.{Peers}
use Rattle.hc_flow.specs.Flows.{may_be_written}
use Rattle.hc_peers.specs.Behind.{is_client_heard, is_closing, is_closing_at, is_forward_heard, is_heard_at, may_be_written_on, may_be_written_to}
use Rattle.hc_peers.specs.Forwards as forwards
use Rattle.hc_peers.specs.Known.{turned}
use Rattle.hc_peers.specs.Peers.{ChangesOnly}
use Rattle.hc_peers.specs.Tables.{is_there_and}
use Rattle.hc_attended.specs.declared.times.TheConstants.{LOOKS_AGAIN}
use Rattle.hc_attended.specs.declared.times.Times.{Times}
use Rattle.hc_attended.specs.Notes.{KeepsNotes, due_of, is_due_up_to, is_noted_owed, no_deadline, no_link, stands_in_turn}
use Rattle.hc_attended.specs.Tending.{ChangesClient, IsClientMarked, IsClientSeenTo, IsForwardMarked, IsForwardSeenTo, LingersInTime, TendsClient, TurnsOnly}
use Rattle.hc_attended.proofs.NoteLemmas.{notes_then, notes_wider}
use Rattle.hc_attended.proofs.StillLemmas.{or_left, still_due}

-- ---- what was kept of one that is there

pub none_is_no_value : {V : Type 0} (value : V) → None ≡ Some value → ⊥
none_is_no_value value e = cc

pub same_value : {V : Type 0} (one other : V) → Some one ≡ Some other → one ≡ other
same_value one other e = cc

-- an entry that some function made of another
pub made_of : {V : Type 0} (make : V → V) (before after : Option V) (value : V) → after ≡ option_map make before → after ≡ Some value → (kept : V) × (before ≡ Some kept) × (value ≡ make kept)
made_of make None after value is there = absurd (cc)
made_of make (Some kept) after value is there = (kept, refl, the_same (sym there ∙ is))
  where
    the_same : Some value ≡ Some (make kept) → value ≡ make kept
    the_same e = cc

-- ---- deadlines

-- a deadline that isn't a client's isn't that by which its link goes
pub lingers_less : (n : ℕ) (timeout : Timeout) (m : ℕ) → due_of is_of_client n timeout m ≡ false → due_of (same_timeout timeouts.ClientLingering) n timeout m ≡ false
lingers_less n timeout m apart = less (same_timeout timeouts.Client timeout) (same_timeout timeouts.ClientLingering timeout) (n == m) apart
  where
    or_true : (a : Bool) → (a || true) ≡ true
    or_true true = refl
    or_true false = refl

    less : (a b c : Bool) → ((a || b) && c) ≡ false → (b && c) ≡ false
    less a true c apart = subst (λ x. (x && c) ≡ false) (or_true a) apart
    less a false c apart = refl

-- ---- what is kept of all others

module _ {S : Type 0} where
  -- a client alone has changed
  pub client_only : (n : ℕ) (before after : Peers S) → ChangesOnly (to_client n) before after → ChangesClient n before after
  client_only n before after only = record {
    clients = only.1;
    forwards = ap (λ (p : Peers S). p.forwards) only.0;
    guests = ap (λ (p : Peers S). p.guests) only.0;
    turned_away = ap (λ (p : Peers S). p.turned_away) only.0;
    places = ap (λ (p : Peers S). p.places) only.0;
    lingering = ap (λ (p : Peers S). p.lingering) only.0;
  }

  pub client_changes_then : (n : ℕ) (before between after : Peers S) → ChangesClient n before between → ChangesClient n between after → ChangesClient n before after
  client_changes_then n before between after one other = record {
    clients = λ m differ. other.clients m differ ∙ one.clients m differ;
    forwards = other.forwards ∙ one.forwards;
    guests = other.guests ∙ one.guests;
    turned_away = other.turned_away ∙ one.turned_away;
    places = other.places ∙ one.places;
    lingering = other.lingering ∙ one.lingering;
  }

  pub client_changes_none : (n : ℕ) (peers : Peers S) → ChangesClient n peers peers
  client_changes_none n peers = record {
    clients = λ m differ. refl;
    forwards = refl;
    guests = refl;
    turned_away = refl;
    places = refl;
    lingering = refl;
  }

  pub forward_changes_then : (f : ℕ) (before between after : Peers S) → ChangesOnly (to_origin f) before between → ChangesOnly (to_origin f) between after → ChangesOnly (to_origin f) before after
  forward_changes_then f before between after one other =
      (other.0 ∙ ap (λ (p : Peers S). record p { forwards = after.forwards }) one.0, λ m differ. other.1 m differ ∙ one.1 m differ)

  -- ---- a client

  pub tends_then : (n : ℕ) (times : Times) (tick : ℕ) (before between after : Peers S) (agenda mid agenda_after : Agenda)
      → TendsClient n times tick before between agenda mid → TendsClient n times tick between after mid agenda_after → TendsClient n times tick before after agenda agenda_after
  tends_then n times tick before between after agenda mid agenda_after one other = record {
    only = client_changes_then n before between after one.only other.only;
    notes = notes_then one.notes other.notes;
    marked = λ none was. other.marked none (one.marked (other.notes.refused none) was);
    timed = λ none was. other.timed none (one.timed (other.notes.refused none) was);
  }

  -- only notes change, and none of its turn nor of when it is looked at
  pub tends_by_notes : (n : ℕ) (times : Times) (tick : ℕ) (peers : Peers S) (agenda agenda_after : Agenda) (d : Timeout → ℕ → Bool)
      → KeepsNotes no_link no_link d agenda agenda_after → ((timeout : Timeout) (m : ℕ) → due_of is_of_client n timeout m ≡ false → d timeout m ≡ false) → d timeouts.Client n ≡ false
      → TendsClient n times tick peers peers agenda agenda_after
  tends_by_notes n times tick peers agenda agenda_after d notes less stays = record {
    only = client_changes_none n peers;
    notes = notes_wider (λ link apart. refl) (λ link apart. refl) less notes;
    marked = λ none was client there mark. notes.turns (to_client n) refl (was client there mark);
    timed = λ none was client there. still_due timeouts.Client n _ agenda agenda_after (notes.due timeouts.Client n stays) (was client there);
  }

  -- it has a turn, if it needs one
  pub tends_by_turn : (n : ℕ) (times : Times) (tick : ℕ) (before after : Peers S) (agenda agenda_after : Agenda)
      → TurnsOnly (to_client n) before after → KeepsNotes no_link no_link no_deadline agenda agenda_after
      → (agenda_after.refused ≡ false → IsClientMarked n before agenda → IsClientMarked n after agenda_after)
      → TendsClient n times tick before after agenda agenda_after
  tends_by_turn n times tick before after agenda agenda_after turns notes marked = record {
    only = client_only n before after turns.1;
    notes = notes_wider (λ link apart. refl) (λ link apart. refl) (λ timeout m apart. refl) notes;
    marked = marked;
    timed = λ none was client there.
        let kept = made_of (turned turns.0.0) (get nat_cmp before.clients.links n) (get nat_cmp after.clients.links n) client turns.0.1 there in
        subst (λ (c : Client S). is_due_up_to timeouts.Client n (max (next_look c.pace tick times.patience) (tick + LOOKS_AGAIN)) agenda_after ≡ true) (sym kept.2)
        (still_due timeouts.Client n _ agenda agenda_after (notes.due timeouts.Client n refl) (was kept.0 kept.1));
  }

  -- ---- nothing is done

  pub turns_none : (link : Receiver) (peers : Peers S) → TurnsOnly link peers peers
  turns_none (to_client n) peers = (marked (get nat_cmp peers.clients.links n), (refl, λ m differ. refl))
    where
      marked : (there : Option (Client S)) → (queued : Bool) × (there ≡ option_map (turned queued) there)
      marked None = (false, refl)
      marked (Some client) = (client.queued, refl)
  turns_none (to_origin f) peers = (marked (get nat_cmp peers.forwards.links f), (refl, λ m differ. refl))
    where
      marked : (there : Option (Forward S)) → (queued : Bool) × (there ≡ option_map (forwards.turned queued) there)
      marked None = (false, refl)
      marked (Some forward) = (forward.queued, refl)

  -- ---- what is seen to

  -- a client that has the turn that it needs, of whom what may be written is noted, and that goes in time where it has to
  pub client_is_seen : (n tick : ℕ) (peers : Peers S) (heard written agenda : Agenda) → IsClientMarked n peers heard
      → (is_heard_at (to_client n) peers ≡ true → stands_in_turn (to_client n) heard ≡ true)
      → (may_be_written_to (to_client n) peers ≡ true → is_noted_owed (to_client n) written ≡ true)
      → (is_closing_at n peers ≡ true → LingersInTime n tick agenda)
      → KeepsNotes no_link no_link no_deadline heard written → (d : Timeout → ℕ → Bool) → KeepsNotes no_link no_link d written agenda
      → IsClientSeenTo n tick peers agenda
  client_is_seen n tick peers heard written agenda marked hears writes lingers first d last client there =
      let turn : stands_in_turn (to_client n) heard ≡ true → stands_in_turn (to_client n) agenda ≡ true = λ is. last.turns (to_client n) refl (first.turns (to_client n) refl is) in
      record {
        written = λ may. last.owed (to_client n) refl (writes (ap (λ o. is_there_and o (λ (c : Client S). may_be_written c.flow)) there ∙ may));
        heard = λ is. or_left (stands_in_turn (to_client n) agenda) (is_noted_owed (to_client n) agenda) (turn (hears (ap (λ o. is_there_and o is_client_heard) there ∙ is)));
        lingers = λ closing. lingers (ap (λ o. is_there_and o is_closing) there ∙ closing);
        queued = λ mark. turn (marked client there mark);
      }

  -- the same of a forward
  pub forward_is_seen : (f : ℕ) (peers : Peers S) (heard agenda : Agenda) → IsForwardMarked f peers heard
      → (is_heard_at (to_origin f) peers ≡ true → stands_in_turn (to_origin f) heard ≡ true)
      → (may_be_written_to (to_origin f) peers ≡ true → is_noted_owed (to_origin f) agenda ≡ true)
      → KeepsNotes no_link no_link no_deadline heard agenda → IsForwardSeenTo f peers agenda
  forward_is_seen f peers heard agenda marked hears writes last forward there =
      let turn : stands_in_turn (to_origin f) heard ≡ true → stands_in_turn (to_origin f) agenda ≡ true = last.turns (to_origin f) refl in
      record {
        written = λ may. writes (ap (λ o. is_there_and o (λ (kept : Forward S). may_be_written_on kept.reaching)) there ∙ may);
        heard = λ is. or_left (stands_in_turn (to_origin f) agenda) (is_noted_owed (to_origin f) agenda) (turn (hears (ap (λ o. is_there_and o is_forward_heard) there ∙ is)));
        queued = λ mark. turn (marked forward there mark);
      }
