-- What the code's own values are seen as.
use Rattle.std.specs.Prelude.{ℕ, Bool, List}
use Rattle.lru.specs.LruCache.{LruCache}
use Rattle.hc_head.specs.declared.head.Target.{Target}
use Rattle.hc_update.specs.declared.stored.Stored.{Stored}
use Rattle.hc_store.specs.declared.freshening.NotModified.{NotModified}
use Rattle.hc_store.specs.Entries.{Holdings}
use Rattle.hc_store.specs.Changes.{Validation}

abbrev pub validation_seen : NotModified → Validation
validation_seen v = record {
  forward = v.forward.now;
  not_modified = v.head.now;
  request_time = v.request_time;
  response_time = v.response_time;
  position = v.position;
}

-- the keys of a store, how much they may weigh, and whether responses that set a cookie are kept
abbrev pub held : ℕ → Bool → LruCache Target (List Stored) → Holdings
held bytes keeps_cookies keys = record { entries = keys.entries; keys = keys.cap; bytes = bytes; keeps_cookies = keeps_cookies }
