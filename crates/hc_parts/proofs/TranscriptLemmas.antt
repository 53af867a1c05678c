-- A part of a transcript is a transcript.
use Rattle.std.proofs.Common.{◌≡◌, ℕ, ◌<◌, ◌≤◌, Bool, true, false, not, cond, ◌&&◌, eqb, List, [], ◌∷◌, ◌++◌, Option, Some, None, is_some, refl, sym, ap, subst, ◌∙◌, arith, inl, inr}
use Rattle.std.specs.Prelude.{nat_le, nat_lt}
use Rattle.std.specs.Option.{option_map}
use Rattle.std.proofs.lemmas.Bool.{and_from, and_parts, cases_Bool, eqb-true, lt-ltb, ltb-true, ltb-false, le-ltb}
use Rattle.std.proofs.lemmas.List.{append-nil}
use Rattle.hc_head.specs.declared.head.Target.{Target}
use Rattle.hc_transcript.specs.declared.fault.RecordFault.{RecordFault}
use Rattle.hc_transcript.specs.declared.fault.RecordFault.TheVariants as fault
use Rattle.hc_transcript.specs.declared.format.Format.{Format}
use Rattle.hc_transcript.specs.declared.format.Format.TheVariants as form
use Rattle.hc_transcript.specs.declared.line.Kind.{Kind}
use Rattle.hc_transcript.specs.declared.line.Kind.TheVariants as kind
use Rattle.hc_transcript.specs.declared.line.Line.{Line}
use Rattle.hc_transcript.specs.declared.line.ToldCause.{ToldCause}
use Rattle.hc_transcript.specs.declared.line.ToldCause.TheVariants.{Exchange, Untold}
use Rattle.hc_transcript.specs.declared.record.Record.{Record}
use Rattle.hc_transcript.specs.declared.record.Passed.{Passed}
use Rattle.hc_transcript.specs.declared.record.Passed.TheVariants as passed
use Rattle.hc_transcript.specs.Checks.{answers_open, cause_is_open, first_fault, has_right_cause, has_right_length, has_right_number, line_fault}
use Rattle.hc_transcript.specs.Limits.{greatest_moment, greatest_number, longest_message}
use Rattle.hc_transcript.specs.Records.{line_of, message_of, opening, passed_kind, records_text, told_cause}
use Rattle.hc_transcript.specs.Items.{Item, ClientRequest, OriginRequest, OriginResponse, OriginFailure, ClientReply, exchange_is_head, forward_is_head, moment_of}
use Rattle.hc_transcript.specs.Items as items
use Rattle.hc_transcript.specs.History.{exchange_of, forward_of, last_moment, last_exchange, last_forward}
use Rattle.hc_transcript.specs.Transcript.{AreReadAs, Follows, IsItemOf, IsTranscript, is_to_head}
use Rattle.hc_parts.specs.Parts.{KeepsCause, GoesWith, KeepsCauses, goes_into, is_of_part, items_in, part_octets, records_in}
use Rattle.hc_parts.specs.Orderly.{AreInTurn, IsInTurn}
use Rattle.hc_parts.proofs.OpenLemmas.{exchange_open, forward_answered}

-- ---- what a line that passes the checks is

passes : (b : Bool) (f : RecordFault) (rest : Option RecordFault) → cond (not b) (Some f) rest ≡ None → (b ≡ true) × (rest ≡ None)
passes true f rest e = (refl, e)
passes false f rest e = cc

passes_not : (b : Bool) (f : RecordFault) (rest : Option RecordFault) → cond b (Some f) rest ≡ None → (b ≡ false) × (rest ≡ None)
passes_not false f rest e = (refl, e)
passes_not true f rest e = cc

record Passes (l : Line) (moment exchange forward : ℕ) (has_cause has_exchange has_forward : Bool) : Type 0 where
  pub form : (nat_le l.moment greatest_moment && has_right_length l.kind l.size) ≡ true
  pub size : nat_le l.size longest_message ≡ true
  pub time : nat_lt l.moment moment ≡ false
  pub number : has_right_number l.kind exchange forward l.number ≡ true
  pub cause : has_right_cause l.cause has_cause ≡ true
  pub open_for : answers_open l.kind has_exchange has_forward ≡ true

passed_all : (l : Line) (m e f : ℕ) (hc he hf : Bool) → first_fault l m e f hc he hf ≡ None → Passes l m e f hc he hf
passed_all l m e f hc he hf none =
    let a = passes (nat_le l.moment greatest_moment && has_right_length l.kind l.size) fault.Line _ none in
    let b = passes (nat_le l.size longest_message) fault.TooLong _ a.1 in
    let c = passes_not (nat_lt l.moment m) fault.MomentBack _ b.1 in
    let d = passes (has_right_number l.kind e f l.number) fault.Number _ c.1 in
    let g = passes (has_right_cause l.cause hc) fault.Cause _ d.1 in
    let i = passes (answers_open l.kind he hf) fault.NothingOpen _ g.1 in
    record { form = a.0; size = b.0; time = c.0; number = d.0; cause = g.0; open_for = i.0 }

none_failed : (l : Line) (m e f : ℕ) (hc he hf : Bool) → Passes l m e f hc he hf → first_fault l m e f hc he hf ≡ None
none_failed l m e f hc he hf p = rw (p.form, p.size, p.time, p.number, p.cause, p.open_for) refl

-- ---- what a record that follows is

-- the newest item is no earlier than those before, and opens a greater number
abbrev Ascends : List Item → Item → Type 0
Ascends h (ClientRequest number moment request target) = (last_moment h ≤ moment) × (last_exchange h < number)
Ascends h (OriginRequest number moment request target cause) = (last_moment h ≤ moment) × (last_forward h < number)
Ascends h item = last_moment h ≤ moment_of item

abbrev Ascend : List Item → Type 0
Ascend [] = Unit {0}
Ascend (item ∷ h) = Ascend h × Ascends h item

-- what opens a number above all opens what isn't open
unopened_exchange : (h : List Item) (n : ℕ) → Ascend h → last_exchange h < n → exchange_of n h ≡ None
unopened_exchange [] n up lt = refl
unopened_exchange (ClientRequest number moment request target ∷ h) n up lt =
    let apart : (number ≡ n) → ⊥ = λ e. omega (arith, e, lt) in
    rw (ne_is number n apart) (unopened_exchange h n up.0 (let before = up.1.1 in omega (arith, before, lt)))
  where
    ne_is : (a b : ℕ) → ((a ≡ b) → ⊥) → eqb a b ≡ false
    ne_is a b apart = elim (cases_Bool (eqb a b)) [ inl same ↦ absurd (apart (eqb-true a b same)) | inr other ↦ other ]
unopened_exchange (OriginRequest number moment request target cause ∷ h) n up lt = unopened_exchange h n up.0 lt
unopened_exchange (OriginResponse number moment response ∷ h) n up lt = unopened_exchange h n up.0 lt
unopened_exchange (OriginFailure number moment ∷ h) n up lt = unopened_exchange h n up.0 lt
unopened_exchange (ClientReply number moment reply ∷ h) n up lt = elim (cases_Bool (eqb number n)) [
  | inl same ↦ rw same refl
  | inr other ↦ rw other (unopened_exchange h n up.0 lt)
]

unopened_forward : (h : List Item) (n : ℕ) → Ascend h → last_forward h < n → forward_of n h ≡ None
unopened_forward [] n up lt = refl
unopened_forward (OriginRequest number moment request target cause ∷ h) n up lt =
    let apart : (number ≡ n) → ⊥ = λ e. omega (arith, e, lt) in
    rw (ne_is number n apart) (unopened_forward h n up.0 (let before = up.1.1 in omega (arith, before, lt)))
  where
    ne_is : (a b : ℕ) → ((a ≡ b) → ⊥) → eqb a b ≡ false
    ne_is a b apart = elim (cases_Bool (eqb a b)) [ inl same ↦ absurd (apart (eqb-true a b same)) | inr other ↦ other ]
unopened_forward (ClientRequest number moment request target ∷ h) n up lt = unopened_forward h n up.0 lt
unopened_forward (OriginResponse number moment response ∷ h) n up lt = elim (cases_Bool (eqb number n)) [
  | inl same ↦ rw same refl
  | inr other ↦ rw other (unopened_forward h n up.0 lt)
]
unopened_forward (OriginFailure number moment ∷ h) n up lt = elim (cases_Bool (eqb number n)) [
  | inl same ↦ rw same refl
  | inr other ↦ rw other (unopened_forward h n up.0 lt)
]
unopened_forward (ClientReply number moment reply ∷ h) n up lt = unopened_forward h n up.0 lt

record Next (h : List Item) (item : Item) : Type 0 where
  pub ascends : Ascends h item
  pub in_turn : IsInTurn h item

next_by : (k : Kind) (cause : ToldCause) (number moment : ℕ) (to_head : Bool) (octets : List ℕ) (item : Item) (h : List Item) → Ascend h
    → IsItemOf k cause number moment to_head octets item → nat_lt moment (last_moment h) ≡ false → has_right_number k (last_exchange h) (last_forward h) number ≡ true
    → answers_open k (is_some (exchange_of number h)) (is_some (forward_of number h)) ≡ true → Next h item
next_by kind.ClientRequest cause number moment to_head octets item h up is time right open_for =
    let lt = ltb-true (last_exchange h) number ((and_parts (nat_lt (last_exchange h) number) _ right).0) in
    subst (Next h) (sym is.3) (record { ascends = (ltb-false moment (last_moment h) time, lt); in_turn = unopened_exchange h number up lt })
next_by kind.OriginRequest cause number moment to_head octets item h up is time right open_for =
    let lt = ltb-true (last_forward h) number ((and_parts (nat_lt (last_forward h) number) _ right).0) in
    subst (Next h) (sym is.3) (record { ascends = (ltb-false moment (last_moment h) time, lt); in_turn = unopened_forward h number up lt })
next_by kind.OriginResponse cause number moment to_head octets item h up is time right open_for =
    subst (Next h) (sym is.2) (record { ascends = ltb-false moment (last_moment h) time; in_turn = open_for })
next_by kind.OriginFailure cause number moment to_head octets item h up is time right open_for =
    subst (Next h) (sym is) (record { ascends = ltb-false moment (last_moment h) time; in_turn = open_for })
next_by kind.ClientReply cause number moment to_head octets item h up is time right open_for =
    subst (Next h) (sym is.2) (record { ascends = ltb-false moment (last_moment h) time; in_turn = open_for })

checks : (h : List Item) (l : Line) → line_fault h l ≡ None
    → Passes l (last_moment h) (last_exchange h) (last_forward h) (cause_is_open l.cause h) (is_some (exchange_of l.number h)) (is_some (forward_of l.number h))
checks h l none = passed_all l (last_moment h) (last_exchange h) (last_forward h) (cause_is_open l.cause h) (is_some (exchange_of l.number h)) (is_some (forward_of l.number h)) none

module _ (format : Format) where
  next_is : (h : List Item) (r : Record) (item : Item) → Ascend h → Follows format h r item → Next h item
  next_is h r item up follows =
      let l = line_of format r in
      let p = checks h l follows.keeps in
      next_by l.kind l.cause l.number l.moment (is_to_head l.kind l.number h) (message_of r) item h up follows.reads p.time p.number p.open_for

  ascending : (records : List Record) (h : List Item) → AreReadAs format records h → Ascend h
  ascending [] [] read = tt
  ascending [] (item ∷ h) read = absurd read
  ascending (r ∷ records) [] read = absurd read
  ascending (r ∷ records) (item ∷ h) read = let up = ascending records h read.0 in (up, (next_is h r item up read.1).ascends)

  -- the items of a transcript are in turn
  pub in_turn : (records : List Record) (h : List Item) → AreReadAs format records h → AreInTurn h
  in_turn [] [] read = tt
  in_turn [] (item ∷ h) read = absurd read
  in_turn (r ∷ records) [] read = absurd read
  in_turn (r ∷ records) (item ∷ h) read = (in_turn records h read.0, (next_is h r item (ascending records h read.0) read.1).in_turn)

-- ---- what a part leaves of what came last

record IsNoLater (g h : List Item) : Type 0 where
  pub moment : last_moment g ≤ last_moment h
  pub exchange : last_exchange g ≤ last_exchange h
  pub forward : last_forward g ≤ last_forward h

with_both : (item : Item) (g h : List Item) → IsNoLater g h → IsNoLater (item ∷ g) (item ∷ h)
with_both (ClientRequest number moment request target) g h was = let forward = was.forward in record { moment = omega arith; exchange = omega arith; forward = omega (arith, forward) }
with_both (OriginRequest number moment request target cause) g h was = let exchange = was.exchange in record { moment = omega arith; exchange = omega (arith, exchange); forward = omega arith }
with_both (OriginResponse number moment response) g h was = record { moment = omega arith; exchange = was.exchange; forward = was.forward }
with_both (OriginFailure number moment) g h was = record { moment = omega arith; exchange = was.exchange; forward = was.forward }
with_both (ClientReply number moment reply) g h was = record { moment = omega arith; exchange = was.exchange; forward = was.forward }

with_one : (item : Item) (g h : List Item) → Ascends h item → IsNoLater g h → IsNoLater g (item ∷ h)
with_one (ClientRequest number moment request target) g h up was =
    let late = up.0 in let above = up.1 in let before = was.moment in let exchange = was.exchange in
    record { moment = omega (arith, late, before); exchange = omega (arith, above, exchange); forward = was.forward }
with_one (OriginRequest number moment request target cause) g h up was =
    let late = up.0 in let above = up.1 in let before = was.moment in let forward = was.forward in
    record { moment = omega (arith, late, before); exchange = was.exchange; forward = omega (arith, above, forward) }
with_one (OriginResponse number moment response) g h up was = let before = was.moment in record { moment = omega (arith, up, before); exchange = was.exchange; forward = was.forward }
with_one (OriginFailure number moment) g h up was = let before = was.moment in record { moment = omega (arith, up, before); exchange = was.exchange; forward = was.forward }
with_one (ClientReply number moment reply) g h up was = let before = was.moment in record { moment = omega (arith, up, before); exchange = was.exchange; forward = was.forward }

lower_number : (kd : Kind) (e f d c n : ℕ) → d ≤ e → c ≤ f → has_right_number kd e f n ≡ true → has_right_number kd d c n ≡ true
lower_number kind.ClientRequest e f d c n le few right =
    let both = and_parts (nat_lt e n) (nat_le n greatest_number) right in let lt = ltb-true e n both.0 in and_from _ _ (lt-ltb d n (omega (arith, le, lt))) both.1
lower_number kind.OriginRequest e f d c n le few right =
    let both = and_parts (nat_lt f n) (nat_le n greatest_number) right in let lt = ltb-true f n both.0 in and_from _ _ (lt-ltb c n (omega (arith, few, lt))) both.1
lower_number kind.OriginResponse e f d c n le few right = right
lower_number kind.OriginFailure e f d c n le few right = right
lower_number kind.ClientReply e f d c n le few right = right

module _ (part : Target → ℕ) (k : ℕ) where
  no_later : (h : List Item) → Ascend h → IsNoLater (items_in part k h) h
  no_later [] up = record { moment = omega arith; exchange = omega arith; forward = omega arith }
  no_later (item ∷ h) up = elim (cases_Bool (goes_into part k h item)) [
    | inl goes ↦ rw goes (with_both item (items_in part k h) h (no_later h up.0))
    | inr apart ↦ rw apart (with_one item (items_in part k h) h up.1 (no_later h up.0))
  ]

  -- ---- what is open there

  open_there : (o : Option items.Exchange) → is_of_part part k (option_map (λ (x : items.Exchange). x.target) o) ≡ true → (x : items.Exchange) × (o ≡ Some x) × (part x.target ≡ k)
  open_there None goes = cc
  open_there (Some x) goes = (x, refl, eqb-true (part x.target) k goes)

  exchange_there : (n : ℕ) (h : List Item) → AreInTurn h → is_of_part part k (option_map (λ (x : items.Exchange). x.target) (exchange_of n h)) ≡ true
      → (is_some (exchange_of n (items_in part k h)) ≡ true) × (exchange_is_head (exchange_of n (items_in part k h)) ≡ exchange_is_head (exchange_of n h))
  exchange_there n h turn goes =
      let o = open_there (exchange_of n h) goes in
      let it = exchange_open part k n h o.0 turn o.1 o.2 in
      (ap is_some it.is, ap exchange_is_head it.is ∙ ap (λ (x : items.Exchange). exchange_is_head (Some x)) it.same ∙ sym (ap exchange_is_head o.1))

  -- ---- a record of the part follows there

  reads_by : (kd : Kind) (cause : ToldCause) (number moment : ℕ) (octets : List ℕ) (item : Item) (h : List Item) → AreInTurn h → goes_into part k h item ≡ true
      → IsItemOf kd cause number moment (is_to_head kd number h) octets item → answers_open kd (is_some (exchange_of number h)) (is_some (forward_of number h)) ≡ true
      → (answers_open kd (is_some (exchange_of number (items_in part k h))) (is_some (forward_of number (items_in part k h))) ≡ true)
      × IsItemOf kd cause number moment (is_to_head kd number (items_in part k h)) octets item
  reads_by kind.ClientRequest cause number moment octets item h turn goes is open_for = (refl, is)
  reads_by kind.OriginRequest cause number moment octets item h turn goes is open_for = (refl, is)
  reads_by kind.OriginResponse cause number moment octets item h turn goes is open_for =
      let same = forward_answered part k number h turn (sym (ap (goes_into part k h) is.2) ∙ goes) in
      (ap is_some same ∙ open_for, subst (λ (b : Bool). IsItemOf kind.OriginResponse cause number moment b octets item) (sym (ap forward_is_head same)) is)
  reads_by kind.OriginFailure cause number moment octets item h turn goes is open_for =
      (ap is_some (forward_answered part k number h turn (sym (ap (goes_into part k h) is) ∙ goes)) ∙ open_for, is)
  reads_by kind.ClientReply cause number moment octets item h turn goes is open_for =
      let there = exchange_there number h turn (sym (ap (goes_into part k h) is.2) ∙ goes) in
      (there.0, subst (λ (b : Bool). IsItemOf kind.ClientReply cause number moment b octets item) (sym there.1) is)

  joined_there : (n : ℕ) (h : List Item) (target : Target) → AreInTurn h → GoesWith part target (exchange_of n h) → part target ≡ k → is_some (exchange_of n h) ≡ true
      → is_some (exchange_of n (items_in part k h)) ≡ true
  joined_there n h target turn joined its some = by_open (exchange_of n h) refl joined some
    where
      by_open : (o : Option items.Exchange) → exchange_of n h ≡ o → GoesWith part target o → is_some o ≡ true → is_some (exchange_of n (items_in part k h)) ≡ true
      by_open None is joint none = cc
      by_open (Some x) is joint one = ap is_some ((exchange_open part k n h x turn is (sym joint ∙ its)).is)

  cause_told : (n number moment : ℕ) (octets : List ℕ) (item : Item) (h : List Item) → AreInTurn h → KeepsCause part h item → goes_into part k h item ≡ true
      → IsItemOf kind.OriginRequest (Exchange n) number moment false octets item → has_right_cause (Exchange n) (cause_is_open (Exchange n) h) ≡ true
      → has_right_cause (Exchange n) (cause_is_open (Exchange n) (items_in part k h)) ≡ true
  cause_told n number moment octets item h turn joined goes is right =
      let both = and_parts (is_some (exchange_of n h)) (nat_le n greatest_number) right in
      let target = is.1 in
      let its : part target ≡ k = eqb-true (part target) k (sym (ap (goes_into part k h) is.3) ∙ goes) in
      let joint : GoesWith part target (exchange_of n h) = subst (λ (i : Item). KeepsCause part h i) is.3 joined in
      and_from _ _ (joined_there n h target turn joint its both.0) both.1

  cause_there : (format : Format) (of : Passed) (number moment : ℕ) (octets : List ℕ) (item : Item) (h : List Item) → AreInTurn h → KeepsCause part h item → goes_into part k h item ≡ true
      → IsItemOf (passed_kind of) (told_cause format of) number moment (is_to_head (passed_kind of) number h) octets item
      → has_right_cause (told_cause format of) (cause_is_open (told_cause format of) h) ≡ true
      → has_right_cause (told_cause format of) (cause_is_open (told_cause format of) (items_in part k h)) ≡ true
  cause_there form.First of number moment octets item h turn joined goes is right = refl
  cause_there form.Second (passed.OriginRequest message (Some n)) number moment octets item h turn joined goes is right = cause_told n number moment octets item h turn joined goes is right
  cause_there form.Second (passed.OriginRequest message None) number moment octets item h turn joined goes is right = refl
  cause_there form.Second (passed.ClientRequest message) number moment octets item h turn joined goes is right = refl
  cause_there form.Second (passed.OriginResponse message) number moment octets item h turn joined goes is right = refl
  cause_there form.Second passed.OriginFailure number moment octets item h turn joined goes is right = refl
  cause_there form.Second (passed.ClientReply message) number moment octets item h turn joined goes is right = refl

  follows_there : (format : Format) (h : List Item) (r : Record) (item : Item) → AreInTurn h → Ascend h → KeepsCause part h item → goes_into part k h item ≡ true → Follows format h r item
      → Follows format (items_in part k h) r item
  follows_there format h r item turn up joined goes follows =
      let l = line_of format r in
      let p = checks h l follows.keeps in
      let last = no_later h up in
      let reads = reads_by l.kind l.cause l.number l.moment (message_of r) item h turn goes follows.reads p.open_for in
      let time = ltb-false l.moment (last_moment h) p.time in
      let before = last.moment in
      record {
        told = follows.told;
        keeps = none_failed l _ _ _ _ _ _ (record {
          form = p.form;
          size = p.size;
          time = le-ltb l.moment (last_moment (items_in part k h)) (omega (arith, time, before));
          number = lower_number l.kind (last_exchange h) (last_forward h) (last_exchange (items_in part k h)) (last_forward (items_in part k h)) l.number last.exchange last.forward p.number;
          cause = cause_there format r.of r.number r.moment (message_of r) item h turn joined goes follows.reads p.cause;
          open_for = reads.0;
        });
        reads = reads.1;
      }

  pub reads_there : (format : Format) (records : List Record) (h : List Item) → AreReadAs format records h → KeepsCauses part h → AreReadAs format (records_in part k records h) (items_in part k h)
  reads_there format [] [] read joined = tt
  reads_there format [] (item ∷ h) read joined = absurd read
  reads_there format (r ∷ records) [] read joined = absurd read
  reads_there format (r ∷ records) (item ∷ h) read joined = elim (cases_Bool (goes_into part k h item)) [
    | inl goes ↦ rw goes (
      reads_there format records h read.0 joined.0,
      follows_there format h r item (in_turn format records h read.0) (ascending format records h read.0) joined.1 goes read.1,
    )
    | inr apart ↦ rw apart (reads_there format records h read.0 joined.0)
  ]

  pub part_is_transcript : (format : Format) (octets : List ℕ) (records : List Record) (h : List Item) → IsTranscript format octets records h → KeepsCauses part h
      → IsTranscript format (part_octets part format k records h) (records_in part k records h) (items_in part k h)
  part_is_transcript format octets records h is joined = record {
    octets_are = ap (λ (text : List ℕ). opening format ++ text) (sym (append-nil (records_text format (records_in part k records h))));
    are_read = reads_there format records h is.are_read joined;
  }

-- ---- the first format

module _ (part : Target → ℕ) where
  untold : (kd : Kind) (number moment : ℕ) (to_head : Bool) (octets : List ℕ) (item : Item) (h : List Item) → IsItemOf kd Untold number moment to_head octets item → KeepsCause part h item
  untold kind.ClientRequest number moment to_head octets item h is = subst (KeepsCause part h) (sym is.3) tt
  untold kind.OriginRequest number moment to_head octets item h is = subst (KeepsCause part h) (sym is.3) tt
  untold kind.OriginResponse number moment to_head octets item h is = subst (KeepsCause part h) (sym is.2) tt
  untold kind.OriginFailure number moment to_head octets item h is = subst (KeepsCause part h) (sym is) tt
  untold kind.ClientReply number moment to_head octets item h is = subst (KeepsCause part h) (sym is.2) tt

  -- it tells no causes
  pub first_keeps : (records : List Record) (h : List Item) → AreReadAs form.First records h → KeepsCauses part h
  first_keeps [] [] read = tt
  first_keeps [] (item ∷ h) read = absurd read
  first_keeps (r ∷ records) [] read = absurd read
  first_keeps (r ∷ records) (item ∷ h) read =
      (first_keeps records h read.0, untold (passed_kind r.of) r.number r.moment (is_to_head (passed_kind r.of) r.number h) (message_of r) item h read.1.reads)
