-- Laws of the crates below that agreement rests on.
use Rattle.std.specs.Prelude.{◌≡◌, ◌≢◌, ℕ, true, List, codes}
use Rattle.std.specs.List.{list_all}
use Rattle.hc_fields.specs.declared.fields.Field.{Field}
use Rattle.hc_head.specs.declared.head.RequestHead.{RequestHead}
use Rattle.hc_head.specs.declared.head.Target.{Target}
use Rattle.hc_head.specs.declared.head.TheConstants.Room.{RECORDED}
use Rattle.hc_head.specs.Plain.{is_plain_field}
use Rattle.hc_head.specs.Targets.{HasTarget}
use Rattle.hc_head.specs.Writable.{IsWritableRequest}
use Rattle.hc_rules.specs.Forwards.{plain_request, unconditional_request, conditional_request}
use Rattle.hc_rules.specs.Laws.{IsCacheName, IsForwardable}

-- a request that goes forward is read as it was written, and keeps its target: as it came, without the client's own conditions, and with the cache's in their place
pub record ForwardLaws : Type 0 where
  pub writable : (name : List ℕ) (target : Target) (received : RequestHead) → IsCacheName name → IsForwardable received target
      → IsWritableRequest (plain_request name target received) RECORDED
  pub keeps_target : (name : List ℕ) (target : Target) (received : RequestHead) → HasTarget received target → HasTarget (plain_request name target received) target
  pub unconditional_writable : (name : List ℕ) (target : Target) (received : RequestHead) → IsCacheName name → IsForwardable received target
      → IsWritableRequest (unconditional_request name target received) RECORDED
  pub unconditional_keeps : (name : List ℕ) (target : Target) (received : RequestHead) → HasTarget received target
      → HasTarget (unconditional_request name target received) target
  pub conditional_writable : (name : List ℕ) (target : Target) (received : RequestHead) (stored : List Field) → IsCacheName name → IsForwardable received target
      → list_all is_plain_field stored ≡ true → IsWritableRequest (conditional_request name target received stored) RECORDED
  pub conditional_keeps : (name : List ℕ) (target : Target) (received : RequestHead) (stored : List Field) → HasTarget received target
      → received.method ≢ codes "OPTIONS" → HasTarget (conditional_request name target received stored) target
