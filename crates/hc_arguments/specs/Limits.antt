-- How far a proxy records, and within which limits it serves.
use Rattle.std.specs.Prelude.{◌≡◌, ⊤, ℕ, Option, Some, None, codes, false}
use Rattle.clap.specs.Words.{Text}
use Rattle.hc_transcript.specs.Limits.{greatest_number}
use Rattle.hc_options.specs.declared.rows.Takes.{Takes}
use Rattle.hc_options.specs.declared.rows.Takes.TheVariants.{AnyText, FileName, Count, Number, Size, AllowedWords, Names, VaryNames, CacheName, Positions, OriginAddress}
use Rattle.hc_options.specs.Rows.{Entry}
use Rattle.hc_options.specs.Values.{flag_by, number_by, number_or}
use Rattle.hc_arguments.specs.declared.order.ProxyLimits.{ProxyLimits}
use Rattle.hc_arguments.specs.declared.order.ProxyPatience.{ProxyPatience}
use Rattle.hc_arguments.specs.declared.order.RecordTerms.{RecordTerms}
use Rattle.hc_arguments.specs.Tables.{abandoned, connect_timeout, drain_timeout, held, idle_timeout, max_connections, origin_connections}
use Rattle.hc_arguments.specs.Tables.{origin_timeout, origin_total, queue_timeout, request_timeout, send_timeout}

-- a row takes numbers or sizes
abbrev pub TakesNumbers : Takes → Type 0
TakesNumbers (Number least most) = ⊤
TakesNumbers (Size least) = ⊤
TakesNumbers AnyText = ⊥
TakesNumbers FileName = ⊥
TakesNumbers Count = ⊥
TakesNumbers AllowedWords = ⊥
TakesNumbers Names = ⊥
TakesNumbers VaryNames = ⊥
TakesNumbers CacheName = ⊥
TakesNumbers Positions = ⊥
TakesNumbers OriginAddress = ⊥

-- the values, by their names, say how far `proxy` records
pub record AsksTerms (value : Text → Option Text) (terms : RecordTerms) : Type 0 where
  pub strict_is : flag_by (value (codes "record-strict")) ≡ terms.strict
  pub limit_is : number_by (Size 0) (value (codes "record-limit")) ≡ Some terms.limit

-- the number of a limit, and the usual one where it isn't given
abbrev pub limit_in : (Text → Option Text) → Entry → ℕ → Option ℕ
limit_in value limit usual = number_or limit.takes usual (value limit.name)

-- and how long clients, and requests to the origin, may take
pub record AsksPatience (value : Text → Option Text) (patience : ProxyPatience) : Type 0 where
  pub idle_timeout_is : limit_in value idle_timeout 75 ≡ Some patience.idle_timeout
  pub request_timeout_is : limit_in value request_timeout 60 ≡ Some patience.request_timeout
  pub send_timeout_is : limit_in value send_timeout 60 ≡ Some patience.send_timeout
  pub queue_timeout_is : limit_in value queue_timeout 5 ≡ Some patience.queue_timeout
  pub origin_timeout_is : limit_in value origin_timeout 60 ≡ Some patience.origin_timeout
  pub origin_total_is : limit_in value origin_total 600 ≡ Some patience.origin_total
  pub abandoned_is : limit_in value abandoned 5 ≡ Some patience.abandoned

-- and all its limits
pub record AsksLimits (value : Text → Option Text) (limits : ProxyLimits) : Type 0 where
  pub connections_are : limit_in value max_connections 1024 ≡ Some limits.connections
  pub origin_connections_are : limit_in value origin_connections 100 ≡ Some limits.origin_connections
  pub held_is : limit_in value held 268435456 ≡ Some limits.held
  pub connect_timeout_is : limit_in value connect_timeout 5 ≡ Some limits.connect_timeout
  pub drain_timeout_is : limit_in value drain_timeout 8 ≡ Some limits.drain_timeout
  pub patience_is : AsksPatience value limits.patience
  pub clients_are : number_by (Number 1 greatest_number) (value (codes "connections")) ≡ Some limits.clients

-- ---- without options

-- how far a proxy records: to no end, and it serves on where it can't
abbrev pub plain_terms : RecordTerms
plain_terms = record { strict = false; limit = None }

abbrev pub plain_patience : ProxyPatience
plain_patience = record {
  idle_timeout = 75;
  request_timeout = 60;
  send_timeout = 60;
  queue_timeout = 5;
  origin_timeout = 60;
  origin_total = 600;
  abandoned = 5;
}

abbrev pub plain_limits : ProxyLimits
plain_limits = record {
  connections = 1024;
  origin_connections = 100;
  held = 268435456;
  connect_timeout = 5;
  drain_timeout = 8;
  patience = plain_patience;
  clients = None;
}
