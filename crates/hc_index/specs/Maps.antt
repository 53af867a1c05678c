-- What maps by target and by number are seen as.
use Rattle.std.specs.Prelude.{◌≡◌, ℕ, ◌-◌, Bool, true, false, List, [], ◌++◌, ◌∷◌, drop, map, Option, Some, None, if◌then◌else◌}
use Rattle.std.specs.Option.{option_map}
use Rattle.std.specs.Ordering.{nat_cmp}
use Rattle.std.specs.BTreeMap.{BTreeMap, get}
use Rattle.std.specs.BTreeSet.{contains}
use Rattle.hc_head.specs.declared.head.ResponseHead.{ResponseHead}
use Rattle.hc_head.specs.declared.head.Target.{Target}
use Rattle.hc_head.specs.Targets.{same_target}
use Rattle.hc_framing.specs.declared.message.Message.{Message}
use Rattle.hc_transcript.specs.declared.line.ToldCause.{ToldCause}
use Rattle.hc_transcript.specs.Items.{Exchange, Forward}
use Rattle.hc_history.specs.States.{begun_by}
use Rattle.hc_head.specs.Statuses.{is_error_status}
use Rattle.hc_history.specs.Noting.{live_answered}
use Rattle.hc_history.specs.Seen.{Live, live_at, WindowResponse, Seen}
use Rattle.hc_index.specs.declared.kept.PooledExchange.{PooledExchange}
use Rattle.hc_index.specs.declared.pool.Pool.{Pool}
use Rattle.hc_index.specs.declared.at_target.AtTarget.{AtTarget}
use Rattle.hc_index.specs.declared.map_index.MapIndex.{MapIndex}
use Rattle.hc_index.specs.Windows.{ToldResponse, told_seen, answer_to, those_for}
use Rattle.hc_index.specs.Lists.{by_target, cause_in, exchange_seen, forward_in, is_made_for, live_in}
use Rattle.hc_index.specs.Openings.{by_opening}

-- ---- the pool of a target

-- whether the window of an exchange is open that begins behind so many answers
abbrev pub is_open : ℕ → ℕ → Pool → Bool
is_open behind number pool = contains by_opening pool.windows (behind, number)

-- the answers behind so many
abbrev pub answers_behind : ℕ → Pool → List ToldResponse
answers_behind behind pool = map told_seen (drop (behind - pool.dropped) pool.answers.items)

-- what the opening of a window makes of a pool
pub record OpensWindow (number : ℕ) (old : Pool) (behind : ℕ) (new : Pool) : Type 0 where
  pub opened : is_open behind number new ≡ true
  pub nothing_yet : answers_behind behind new ≡ []
  pub others : (b n : ℕ) → (n ≡ number → ⊥) → is_open b n new ≡ is_open b n old
  pub answers : (b n : ℕ) → is_open b n old ≡ true → answers_behind b new ≡ answers_behind b old

-- what the closing of the window of a number makes of it
pub record ClosesWindow (number : ℕ) (old : Pool) (new : Pool) : Type 0 where
  pub others : (b n : ℕ) → (n ≡ number → ⊥) → is_open b n new ≡ is_open b n old
  pub answers : (b n : ℕ) → (n ≡ number → ⊥) → is_open b n old ≡ true → answers_behind b new ≡ answers_behind b old

-- what one more answer makes of it
pub record AddsAnswer (answer : ToldResponse) (old : Pool) (new : Pool) : Type 0 where
  pub others : (b n : ℕ) → is_open b n new ≡ is_open b n old
  pub answers : (b n : ℕ) → is_open b n old ≡ true → answers_behind b new ≡ answers_behind b old ++ answer ∷ []

-- ---- what is kept of a target, if anything is

abbrev pub live_kept : Target → Option AtTarget → List Live
live_kept target None = []
live_kept target (Some here) = live_in target here.lives.items

-- the position of its latest error, and that of its latest failure; 0 where there was none
abbrev pub error_kept : Option AtTarget → ℕ
error_kept None = 0
error_kept (Some here) = here.error

abbrev pub failure_kept : Option AtTarget → ℕ
failure_kept None = 0
failure_kept (Some here) = here.failure

-- whether the window of an exchange is open
abbrev pub open_kept : ℕ → ℕ → Option AtTarget → Bool
open_kept behind number None = false
open_kept behind number (Some here) = is_open behind number here.pool

-- what it holds
abbrev pub window_kept : ℕ → Option AtTarget → List ToldResponse
window_kept behind None = []
window_kept behind (Some here) = answers_behind behind here.pool

-- nothing more is known by one than by the other
pub record KeepsSame (target : Target) (old : Option AtTarget) (new : Option AtTarget) : Type 0 where
  pub live : live_kept target new ≡ live_kept target old
  pub error : error_kept new ≡ error_kept old
  pub failure : failure_kept new ≡ failure_kept old
  pub others : (b n : ℕ) → open_kept b n new ≡ open_kept b n old
  pub windows : (b n : ℕ) → open_kept b n old ≡ true → window_kept b new ≡ window_kept b old

-- what a request makes of it
pub record OpensAt (target : Target) (number : ℕ) (behind : ℕ) (old : Option AtTarget) (new : Option AtTarget) : Type 0 where
  pub live : live_kept target new ≡ live_kept target old
  pub error : error_kept new ≡ error_kept old
  pub failure : failure_kept new ≡ failure_kept old
  pub opened : open_kept behind number new ≡ true
  pub nothing_yet : window_kept behind new ≡ []
  pub others : (b n : ℕ) → (n ≡ number → ⊥) → open_kept b n new ≡ open_kept b n old
  pub windows : (b n : ℕ) → open_kept b n old ≡ true → window_kept b new ≡ window_kept b old

-- what a reply makes of it
pub record ClosesAt (target : Target) (number : ℕ) (old : Option AtTarget) (new : Option AtTarget) : Type 0 where
  pub live : live_kept target new ≡ live_kept target old
  pub error : error_kept new ≡ error_kept old
  pub failure : failure_kept new ≡ failure_kept old
  pub others : (b n : ℕ) → (n ≡ number → ⊥) → open_kept b n new ≡ open_kept b n old
  pub windows : (b n : ℕ) → (n ≡ number → ⊥) → open_kept b n old ≡ true → window_kept b new ≡ window_kept b old

-- what a forward that fails makes of it
pub record FailsAt (target : Target) (position : ℕ) (old : Option AtTarget) (new : Option AtTarget) : Type 0 where
  pub live : live_kept target new ≡ live_kept target old
  pub error : error_kept new ≡ error_kept old
  pub failure : failure_kept new ≡ position
  pub others : (b n : ℕ) → open_kept b n new ≡ open_kept b n old
  pub windows : (b n : ℕ) → open_kept b n old ≡ true → window_kept b new ≡ window_kept b old

-- what a response to a forward of the target makes of it
pub record AnswersAt (forward : Forward) (cause : ToldCause) (position moment : ℕ) (response : Message ResponseHead) (old : Option AtTarget) (new : Option AtTarget) : Type 0 where
  pub live : live_kept forward.target new
      ≡ map (live_answered forward position moment response) (live_kept forward.target old) ++ live_at forward.target position (begun_by forward moment response)
  pub error : error_kept new ≡ (if is_error_status response.head.status then position else error_kept old)
  pub failure : failure_kept new ≡ failure_kept old
  pub others : (b n : ℕ) → open_kept b n new ≡ open_kept b n old
  pub windows : (b n : ℕ) → open_kept b n old ≡ true → window_kept b new ≡ window_kept b old ++ answer_to forward cause response ∷ []

-- ---- all targets

-- what is kept of each target
abbrev pub Targets : Type 0
Targets = BTreeMap Target AtTarget

-- what is kept of one target changes so, and what is kept of each other stays
pub record ChangesAt (target : Target) (old new : Targets) (Changes : Option AtTarget → Option AtTarget → Type 0) : Type 0 where
  pub here : Changes (get by_target old target) (get by_target new target)
  pub elsewhere : (other : Target) → same_target target other ≡ false → get by_target new other ≡ get by_target old other

-- ---- all of it

-- the exchange of a number, if its target knows that its window is open
abbrev pub known_in : Targets → ℕ → Option PooledExchange → Option PooledExchange
known_in targets e None = None
known_in targets e (Some pooled) = if open_kept pooled.behind e (get by_target targets pooled.exchange.target) then Some pooled else None

abbrev pub open_in : MapIndex → ℕ → Option PooledExchange
open_in index e = known_in index.targets e (get nat_cmp index.exchanges e)

abbrev pub pooled_exchange : Option PooledExchange → Option Exchange
pooled_exchange o = option_map (λ (pooled : PooledExchange). exchange_seen pooled.exchange) o

abbrev pub window_in : Targets → Option PooledExchange → List WindowResponse
window_in targets None = []
window_in targets (Some pooled) = those_for pooled.exchange.number (window_kept pooled.behind (get by_target targets pooled.exchange.target))

-- what the index is seen as
abbrev pub seen_in : MapIndex → Seen
seen_in index = record {
  live = λ target. live_kept target (get by_target index.targets target);
  exchange = λ e. pooled_exchange (open_in index e);
  forward = λ f. forward_in f index.forwards;
  cause = λ f. cause_in f index.forwards;
  window = λ e. window_in index.targets (open_in index e);
  has_forward = λ e. is_made_for e index.forwards;
  error = λ target. error_kept (get by_target index.targets target);
  failure = λ target. failure_kept (get by_target index.targets target);
}
