-- What a line that passes the checks is, and what may follow.
use Rattle.std.proofs.Common.{◌≡◌, ℕ, ◌<◌, ◌≤◌, Bool, true, false, not, cond, ◌&&◌, List, Option, Some, None, is_some, refl, sym, ap, subst, ◌∙◌, arith}
use Rattle.std.specs.Prelude.{nat_le, nat_lt, IsSome}
use Rattle.std.specs.Option.{option_map}
use Rattle.std.specs.Ordering.{nat_cmp}
use Rattle.std.specs.BTreeMap.{get}
use Rattle.std.proofs.lemmas.Bool.Decides.{nat_tests}
use Rattle.hc_transcript.specs.declared.fault.RecordFault.{RecordFault}
use Rattle.hc_transcript.specs.declared.fault.RecordFault.TheVariants as fault
use Rattle.hc_transcript.specs.declared.format.Format.{Format}
use Rattle.hc_transcript.specs.declared.line.Kind.{Kind}
use Rattle.hc_transcript.specs.declared.line.Kind.TheVariants as kind
use Rattle.hc_transcript.specs.declared.line.Line.{Line}
use Rattle.hc_transcript.specs.declared.line.ToldCause.{ToldCause}
use Rattle.hc_transcript.specs.declared.line.ToldCause.TheVariants.{Untold, NoExchange, Exchange}
use Rattle.hc_transcript.specs.declared.open_numbers.Standing.{Standing}
use Rattle.hc_transcript.specs.Limits.{greatest_number, greatest_moment, longest_message}
use Rattle.hc_transcript.specs.declared.places.RecordPlaces.{RecordPlaces}
use Rattle.hc_transcript.specs.Items.{Item, item_kind, item_number}
use Rattle.hc_transcript.specs.Reading.{item_by, item_at}
use Rattle.hc_transcript.specs.History.{exchange_of, forward_of, last_moment, last_exchange, last_forward}
use Rattle.hc_transcript.specs.Checks.{has_right_length, has_right_number, cause_is_open, has_right_cause, answers_open, first_fault, line_fault}
use Rattle.hc_transcript.specs.Records.{line_text}
use Rattle.hc_transcript.specs.Lines.{IsLineText}
use Rattle.hc_transcript.proofs.LineLaws.{CauseFits, line_text_written}
use Rattle.hc_transcript.specs.Standing.{StandsAs, standing_cause_is_open, standing_fault, CanFollowAs, CanFollow, exchange_head, forward_head}

-- a test that has to hold before the next
passes : (b : Bool) (f : RecordFault) (rest : Option RecordFault) → cond (not b) (Some f) rest ≡ None → (b ≡ true) × (rest ≡ None)
passes true f rest e = (refl, e)
passes false f rest e = cc

-- a test that must not hold before the next
passes_not : (b : Bool) (f : RecordFault) (rest : Option RecordFault) → cond b (Some f) rest ≡ None → (b ≡ false) × (rest ≡ None)
passes_not false f rest e = (refl, e)
passes_not true f rest e = cc

both : (a b : Bool) → (a && b) ≡ true → (a ≡ true) × (b ≡ true)
both true b e = (refl, e)
both false b e = cc

number_in_range : (k : Kind) (e f n : ℕ) → has_right_number k e f n ≡ true → n ≤ greatest_number
number_in_range kind.ClientRequest e f n right = let b = both (nat_lt e n) (nat_le n greatest_number) right in grind (arith, nat_tests, b.1)
number_in_range kind.OriginRequest e f n right = let b = both (nat_lt f n) (nat_le n greatest_number) right in grind (arith, nat_tests, b.1)
number_in_range kind.OriginResponse e f n right = let b = both (nat_lt 0 n) (nat_le n greatest_number) right in grind (arith, nat_tests, b.1)
number_in_range kind.OriginFailure e f n right = let b = both (nat_lt 0 n) (nat_le n greatest_number) right in grind (arith, nat_tests, b.1)
number_in_range kind.ClientReply e f n right = let b = both (nat_lt 0 n) (nat_le n greatest_number) right in grind (arith, nat_tests, b.1)

cause_in_range : (cause : ToldCause) (is_open : Bool) → has_right_cause cause is_open ≡ true → CauseFits cause
cause_in_range Untold is_open right = tt
cause_in_range NoExchange is_open right = tt
cause_in_range (Exchange n) is_open right = let b = both is_open (nat_le n greatest_number) right in grind (arith, nat_tests, b.1)

-- what a line that passes the checks is
pub record IsInOrder (l : Line) (moment exchange forward : ℕ) (has_cause has_exchange has_forward : Bool) : Type 0 where
  pub moment_fits : l.moment ≤ greatest_moment
  pub right_length : has_right_length l.kind l.size ≡ true
  pub size_fits : l.size ≤ longest_message
  pub right_number : has_right_number l.kind exchange forward l.number ≡ true
  pub number_fits : l.number ≤ greatest_number
  pub cause_fits : CauseFits l.cause
  pub is_open : answers_open l.kind has_exchange has_forward ≡ true

in_order : (l : Line) (m e f : ℕ) (hc he hf : Bool) → first_fault l m e f hc he hf ≡ None → IsInOrder l m e f hc he hf
in_order l m e f hc he hf none =
    let a = passes (nat_le l.moment greatest_moment && has_right_length l.kind l.size) fault.Line _ none in
    let b = both (nat_le l.moment greatest_moment) (has_right_length l.kind l.size) a.0 in
    let c = passes (nat_le l.size longest_message) fault.TooLong _ a.1 in
    let d = passes_not (nat_lt l.moment m) fault.MomentBack _ c.1 in
    let g = passes (has_right_number l.kind e f l.number) fault.Number _ d.1 in
    let j = passes (has_right_cause l.cause hc) fault.Cause _ g.1 in
    let i = passes (answers_open l.kind he hf) fault.NothingOpen _ j.1 in
    record {
      moment_fits = grind (arith, nat_tests, b.0);
      right_length = b.1;
      size_fits = grind (arith, nat_tests, c.0);
      right_number = g.0;
      number_fits = number_in_range l.kind e f l.number g.0;
      cause_fits = cause_in_range l.cause hc j.0;
      is_open = i.0;
    }

-- a line that passes the checks after a history, and by what is kept of it
pub order_after : (h : List Item) (l : Line) → line_fault h l ≡ None
    → IsInOrder l (last_moment h) (last_exchange h) (last_forward h) (cause_is_open l.cause h) (is_some (exchange_of l.number h)) (is_some (forward_of l.number h))
order_after h l none =
    in_order l (last_moment h) (last_exchange h) (last_forward h) (cause_is_open l.cause h) (is_some (exchange_of l.number h)) (is_some (forward_of l.number h)) none

pub order_kept : (s : Standing) (l : Line) → standing_fault s l ≡ None
    → IsInOrder l s.moment s.exchange s.forward (standing_cause_is_open s l.cause) (is_some (get nat_cmp s.exchanges l.number)) (is_some (get nat_cmp s.forwards l.number))
order_kept s l none =
    in_order l s.moment s.exchange s.forward (standing_cause_is_open s l.cause) (is_some (get nat_cmp s.exchanges l.number)) (is_some (get nat_cmp s.forwards l.number)) none

-- the moment of a line that passes the checks is in time
pub in_time : (s : Standing) (l : Line) → standing_fault s l ≡ None → l.moment ≤ greatest_moment
in_time s l none = (order_kept s l none).moment_fits

is_there : (o : Option Bool) → is_some o ≡ true → IsSome o
is_there (Some b) e = e
is_there None e = cc

opens : (last n : ℕ) → (nat_lt last n && nat_le n greatest_number) ≡ true → (last < n) × (n ≤ greatest_number)
opens last n right = let b = both (nat_lt last n) (nat_le n greatest_number) right in (grind (arith, nat_tests, b.0), grind (arith, nat_tests, b.1))

follows : (k : Kind) (s : Standing) (n : ℕ) → has_right_number k s.exchange s.forward n ≡ true
    → answers_open k (is_some (get nat_cmp s.exchanges n)) (is_some (get nat_cmp s.forwards n)) ≡ true → CanFollowAs k s n
follows kind.ClientRequest s n right is = opens s.exchange n right
follows kind.OriginRequest s n right is = opens s.forward n right
follows kind.OriginResponse s n right is = is_there (get nat_cmp s.forwards n) is
follows kind.OriginFailure s n right is = is_there (get nat_cmp s.forwards n) is
follows kind.ClientReply s n right is = is_there (get nat_cmp s.exchanges n) is

-- a line that passes the checks may follow
can_follow : (s : Standing) (l : Line) → standing_fault s l ≡ None → CanFollowAs l.kind s l.number
can_follow s l none = let o = order_kept s l none in follows l.kind s l.number o.right_number o.is_open

kind_of : (k : Kind) (p : RecordPlaces) (l : Line) (octets : List ℕ) → item_kind (item_by k p l octets) ≡ k
kind_of kind.ClientRequest p l octets = refl
kind_of kind.OriginRequest p l octets = refl
kind_of kind.OriginResponse p l octets = refl
kind_of kind.OriginFailure p l octets = refl
kind_of kind.ClientReply p l octets = refl

number_of : (k : Kind) (p : RecordPlaces) (l : Line) (octets : List ℕ) → item_number (item_by k p l octets) ≡ l.number
number_of kind.ClientRequest p l octets = refl
number_of kind.OriginRequest p l octets = refl
number_of kind.OriginResponse p l octets = refl
number_of kind.OriginFailure p l octets = refl
number_of kind.ClientReply p l octets = refl

pub item_can_follow : (s : Standing) (l : Line) (p : RecordPlaces) (octets : List ℕ) → standing_fault s l ≡ None → CanFollow s (item_at p l octets)
item_can_follow s l p octets none =
    subst (λ (j : Kind). CanFollowAs j s (item_number (item_at p l octets))) (sym (kind_of l.kind p l octets))
    (subst (λ (m : ℕ). CanFollowAs l.kind s m) (sym (number_of l.kind p l octets)) (can_follow s l none))

is_some-map : {A B : Type 0} (f : A → B) (o : Option A) → is_some (option_map f o) ≡ is_some o
is_some-map f None = refl
is_some-map f (Some x) = refl

open_cause_is : (s : Standing) (h : List Item) (cause : ToldCause) → StandsAs s h → standing_cause_is_open s cause ≡ cause_is_open cause h
open_cause_is s h Untold stands = refl
open_cause_is s h NoExchange stands = refl
open_cause_is s h (Exchange n) stands = ap is_some (stands.exchanges n) ∙ is_some-map exchange_head (exchange_of n h)

-- the checks by what is kept of a history are those after it
pub standing_fault_is : (s : Standing) (h : List Item) (l : Line) → StandsAs s h → standing_fault s l ≡ line_fault h l
standing_fault_is s h l stands =
    let moment = stands.moment in
    let exchange = stands.exchange in
    let forward = stands.forward in
    let cause = open_cause_is s h l.cause stands in
    let exchanges : is_some (get nat_cmp s.exchanges l.number) ≡ is_some (exchange_of l.number h) = ap is_some (stands.exchanges l.number) ∙ is_some-map exchange_head (exchange_of l.number h) in
    let forwards : is_some (get nat_cmp s.forwards l.number) ≡ is_some (forward_of l.number h) = ap is_some (stands.forwards l.number) ∙ is_some-map forward_head (forward_of l.number h) in
    λ i. first_fault l (moment i) (exchange i) (forward i) (cause i) (exchanges i) (forwards i)

-- a line in order is written in one way
pub written_line : (format : Format) (s : Standing) (text : List ℕ) (l : Line) → standing_fault s l ≡ None → IsLineText format text l → text ≡ line_text l
written_line format s text l none is = let o = order_kept s l none in line_text_written format text l is o.number_fits o.moment_fits o.size_fits o.cause_fits

-- the checks of a line say nothing of its message
not_some : (b : Bool) (f g : RecordFault) (rest : Option RecordFault) → (Some f ≡ Some g → ⊥) → (rest ≡ Some g → ⊥) → cond b (Some f) rest ≡ Some g → ⊥
not_some true f g rest one other e = one e
not_some false f g rest one other e = other e

none_is_some : (g : RecordFault) → None ≡ Some g → ⊥
none_is_some g e = cc

abbrev Differs : RecordFault → Type 0
Differs g =
    (Some fault.Line ≡ Some g → ⊥) × (Some fault.TooLong ≡ Some g → ⊥) × (Some fault.MomentBack ≡ Some g → ⊥) × (Some fault.Number ≡ Some g → ⊥)
    × (Some fault.Cause ≡ Some g → ⊥) × (Some fault.NothingOpen ≡ Some g → ⊥)

no_check : (g : RecordFault) (l : Line) (m e f : ℕ) (hc he hf : Bool) → Differs g → first_fault l m e f hc he hf ≡ Some g → ⊥
no_check g l m e f hc he hf d =
    not_some (not (nat_le l.moment greatest_moment && has_right_length l.kind l.size)) fault.Line g _ d.0
    (not_some (not (nat_le l.size longest_message)) fault.TooLong g _ d.1
    (not_some (nat_lt l.moment m) fault.MomentBack g _ d.2
    (not_some (not (has_right_number l.kind e f l.number)) fault.Number g _ d.3
    (not_some (not (has_right_cause l.cause hc)) fault.Cause g _ d.4
    (not_some (not (answers_open l.kind he hf)) fault.NothingOpen g _ d.5 (none_is_some g))))))

pub no_message_check : (l : Line) (m e f : ℕ) (hc he hf : Bool) → first_fault l m e f hc he hf ≡ Some fault.Message → ⊥
no_message_check l m e f hc he hf = no_check fault.Message l m e f hc he hf (λ e. cc, λ e. cc, λ e. cc, λ e. cc, λ e. cc, λ e. cc)

pub no_torn_check : (l : Line) (m e f : ℕ) (hc he hf : Bool) → first_fault l m e f hc he hf ≡ Some fault.Torn → ⊥
no_torn_check l m e f hc he hf = no_check fault.Torn l m e f hc he hf (λ e. cc, λ e. cc, λ e. cc, λ e. cc, λ e. cc, λ e. cc)

pub no_memory_check : (l : Line) (m e f : ℕ) (hc he hf : Bool) → first_fault l m e f hc he hf ≡ Some fault.Memory → ⊥
no_memory_check l m e f hc he hf = no_check fault.Memory l m e f hc he hf (λ e. cc, λ e. cc, λ e. cc, λ e. cc, λ e. cc, λ e. cc)
