-- A new cache, to which nothing has happened.
use Rattle.std.proofs.Common.{◌≡◌, ℕ, [], Some, None, refl, sym, ◌∙◌, arith}
use Rattle.std.specs.FinMap.{empty, get, len-empty}
use Rattle.std.specs.List.{IsDistinct}
use Rattle.std.specs.Ordering.{nat_cmp}
use Rattle.hc_head.specs.Targets.{same_target}
use Rattle.hc_service.specs.declared.settings.CoreSettings.{CoreSettings}
use Rattle.hc_service.specs.declared.settings.CoreOptions.{CoreOptions}
use Rattle.hc_service.specs.State.{new_state_with}
use Rattle.hc_service.specs.Agreement.{Agrees}
use Rattle.hc_service.specs.Runs.{nothing_yet}
use Rattle.hc_service.proofs.TableLemmas.{get_none}

nothing_there : {X : Type 0} {P : Type 0} (n : ℕ) (x : X) → get (empty {X = X} {R = nat_cmp}) n ≡ Some x → P
nothing_there {X} n x is = absurd (no (sym (get_none {X = X} n) ∙ is))
  where
    no : None ≡ Some x → ⊥
    no e = cc

no_keys : IsDistinct same_target []
unfolding IsDistinct
no_keys = tt

pub new_agrees : (settings : CoreSettings) (options : CoreOptions) → Agrees (new_state_with settings options) nothing_yet
new_agrees settings options = record {
  consistent = record {
    counted = record {
      are_read = tt;
      records = refl;
      exchange = refl;
      forward = refl;
      moment = omega arith;
      exchanges = omega arith;
      forwards = omega arith;
      in_range = omega arith;
      in_time = omega arith;
    };
    since = λ target. 0;
    entries = tt;
    keys = no_keys;
    received = record {
      connections_are = λ c k is. nothing_there c k is;
      forwards_are = λ f a is. nothing_there f a is;
      later_connections = λ c later. refl;
      later_forwards = λ f later. refl;
    };
    asked = record {
      exchanges_are = λ e. rw get_none refl;
      forwards_are = λ f. rw get_none refl;
      purposes = λ f a is. nothing_there f a is;
      causes = λ f a is. nothing_there f a is;
      alone = λ f g e a b is. nothing_there f a is;
      later_exchanges = λ e later. get_none e;
      later_forwards = λ f later. get_none f;
      no_exchange = get_none 0;
      no_forward = get_none 0;
    };
    linked = record {
      on_connections = λ e x is. nothing_there e x is;
      busy = λ c e k is. nothing_there c k is;
      later = λ c later. get_none c;
    };
    waiting = record {
      joinable = λ e f x is. nothing_there e x is;
      own = λ e f g x a is. nothing_there e x is;
      behind = λ e f x seen is. nothing_there e x is;
      reached = λ target. omega arith;
    };
    few = rw len-empty (omega arith);
  };
  quiet = λ c k is. nothing_there c k is;
  awaiting = λ f a is. nothing_there f a is;
}
