-- Plumbing: what a beginning of a transcript leaves for the records after it.
use Rattle.std.specs.Prelude.{◌≡◌, ℕ, ◌+◌, ◌<◌, ◌≤◌, Bool, true, List, length, Option, Some, None, IsSome, is_some, ◌==◌, if◌then◌else◌}
use Rattle.std.specs.Option.{option_map}
use Rattle.std.specs.Ordering.{nat_cmp}
use Rattle.std.specs.BTreeMap.{get}
use Rattle.hc_head.specs.Methods.{is_head}
use Rattle.hc_transcript.specs.declared.fault.RecordFault.{RecordFault}
use Rattle.hc_transcript.specs.declared.line.Kind.{Kind}
use Rattle.hc_transcript.specs.declared.line.Kind.TheVariants as kind
use Rattle.hc_transcript.specs.declared.line.Line.{Line}
use Rattle.hc_transcript.specs.declared.line.ToldCause.{ToldCause}
use Rattle.hc_transcript.specs.declared.line.ToldCause.TheVariants as told
use Rattle.hc_transcript.specs.declared.open_numbers.Standing.{Standing}
use Rattle.hc_transcript.specs.Limits.{greatest_number}
use Rattle.hc_transcript.specs.Items.{Item, Exchange, Forward, item_kind, item_number}
use Rattle.hc_transcript.specs.Checks.{first_fault}
use Rattle.hc_transcript.specs.History.{exchange_of, forward_of, last_moment, last_exchange, last_forward}

abbrev pub exchange_head : Exchange → Bool
exchange_head exchange = is_head exchange.request.method

abbrev pub forward_head : Forward → Bool
forward_head forward = is_head forward.request.method

-- it stands as the history leaves it
pub record StandsAs (s : Standing) (h : List Item) : Type 0 where
  pub records : s.records ≡ length h
  pub moment : s.moment ≡ last_moment h
  pub exchange : s.exchange ≡ last_exchange h
  pub forward : s.forward ≡ last_forward h
  pub exchanges : (e : ℕ) → get nat_cmp s.exchanges e ≡ option_map exchange_head (exchange_of e h)
  pub forwards : (f : ℕ) → get nat_cmp s.forwards f ≡ option_map forward_head (forward_of f h)

-- whether the exchange that is told as a cause is open; true where none is told
abbrev pub standing_cause_is_open : Standing → ToldCause → Bool
standing_cause_is_open s (told.Exchange n) = is_some (get nat_cmp s.exchanges n)
standing_cause_is_open s other = true

-- the first check that a line fails
abbrev pub standing_fault : Standing → Line → Option RecordFault
standing_fault s l =
    first_fault l s.moment s.exchange s.forward (standing_cause_is_open s l.cause) (is_some (get nat_cmp s.exchanges l.number)) (is_some (get nat_cmp s.forwards l.number))

-- the number may be opened, or is open
abbrev pub CanFollowAs : Kind → Standing → ℕ → Type 0
CanFollowAs kind.ClientRequest s number = (s.exchange < number) × (number ≤ greatest_number)
CanFollowAs kind.OriginRequest s number = (s.forward < number) × (number ≤ greatest_number)
CanFollowAs kind.OriginResponse s number = IsSome (get nat_cmp s.forwards number)
CanFollowAs kind.OriginFailure s number = IsSome (get nat_cmp s.forwards number)
CanFollowAs kind.ClientReply s number = IsSome (get nat_cmp s.exchanges number)

abbrev pub CanFollow : Standing → Item → Type 0
CanFollow s item = CanFollowAs (item_kind item) s (item_number item)

-- what a record makes of it
pub record OpensExchange (old new : Standing) (number moment : ℕ) (is_head : Bool) : Type 0 where
  pub records : new.records ≡ old.records + 1
  pub moment_is : new.moment ≡ moment
  pub exchange : new.exchange ≡ number
  pub forward : new.forward ≡ old.forward
  pub exchanges : (e : ℕ) → get nat_cmp new.exchanges e ≡ (if number == e then Some is_head else get nat_cmp old.exchanges e)
  pub forwards : (f : ℕ) → get nat_cmp new.forwards f ≡ get nat_cmp old.forwards f

pub record OpensForward (old new : Standing) (number moment : ℕ) (is_head : Bool) : Type 0 where
  pub records : new.records ≡ old.records + 1
  pub moment_is : new.moment ≡ moment
  pub exchange : new.exchange ≡ old.exchange
  pub forward : new.forward ≡ number
  pub exchanges : (e : ℕ) → get nat_cmp new.exchanges e ≡ get nat_cmp old.exchanges e
  pub forwards : (f : ℕ) → get nat_cmp new.forwards f ≡ (if number == f then Some is_head else get nat_cmp old.forwards f)

pub record ClosesExchange (old new : Standing) (number moment : ℕ) : Type 0 where
  pub records : new.records ≡ old.records + 1
  pub moment_is : new.moment ≡ moment
  pub exchange : new.exchange ≡ old.exchange
  pub forward : new.forward ≡ old.forward
  pub exchanges : (e : ℕ) → get nat_cmp new.exchanges e ≡ (if number == e then None else get nat_cmp old.exchanges e)
  pub forwards : (f : ℕ) → get nat_cmp new.forwards f ≡ get nat_cmp old.forwards f

pub record ClosesForward (old new : Standing) (number moment : ℕ) : Type 0 where
  pub records : new.records ≡ old.records + 1
  pub moment_is : new.moment ≡ moment
  pub exchange : new.exchange ≡ old.exchange
  pub forward : new.forward ≡ old.forward
  pub exchanges : (e : ℕ) → get nat_cmp new.exchanges e ≡ get nat_cmp old.exchanges e
  pub forwards : (f : ℕ) → get nat_cmp new.forwards f ≡ (if number == f then None else get nat_cmp old.forwards f)
