-- Lemmas of what clients of a proxy were served by.
use Rattle.std.proofs.Common.{◌≡◌, ◌∙◌, ◌≤◌, ◌++◌, ℕ, List, [], Result, Ok, Err, ap, append-nil, refl, sym}
use Rattle.hc_transcript.specs.Records.{opening}
use Rattle.hc_service.specs.declared.settings.CoreOptions.{CoreOptions}
use Rattle.hc_service.specs.declared.settings.CoreSettings.{CoreSettings}
use Rattle.hc_service.specs.Sending.{recorded_format}
use Rattle.hc_service.specs.Settings.{AreGood}
use Rattle.hc_service.specs.State.{new_state_with}
use Rattle.hc_core.specs.Steps.{Cache, StandsFor}
use Rattle.hc_links.specs.Buffers.{HasGot}
use Rattle.hc_drive.specs.declared.fault.DriveFault.{DriveFault}
use Rattle.hc_drive.specs.Crowds.{GivesCrowd, Telling}
use Rattle.hc_drive.specs.Rounds.{DriveStage, stage}
use Rattle.hc_serving.specs.Proxies.{HasServed, IsExpectedEnd}

-- ---- a new recorder

-- where nothing waits, all was written
pub got_all : {R : Type 0} (has_got : R → List ℕ → Type 0) (link : R) (waiting octets : List ℕ) → waiting ≡ [] → has_got link octets → HasGot has_got link waiting octets
got_all has_got link waiting octets none got = (octets, got, sym (ap (λ w. octets ++ w) none ∙ append-nil octets))

-- ---- what came of serving

module _ (T : Type 0) (most : ℕ) (was_safe : Type 0) (new : Telling) (from : DriveStage) (cache : Cache) where
  -- what is safe if that was so is safe where it was
  pub safely_served : (result : Result T DriveFault) → was_safe → GivesCrowd most was_safe result new from cache → GivesCrowd most (Unit {0}) result new from cache
  safely_served (Ok done) was ends = ends
  safely_served (Err why) was breaks = record { cut = breaks.cut; safe = λ _. breaks.safe was }

  -- of a new cache with room for all connections, no other fault ends it
  pub expected_end : (settings : CoreSettings) (options : CoreOptions) (result : Result T DriveFault) → AreGood settings → StandsFor settings from.cache (new_state_with settings options)
      → most ≤ options.connections → from.log ≡ [] → (served : GivesCrowd most was_safe result new from cache) → IsExpectedEnd T most was_safe new from cache result served
  expected_end settings options (Ok done) good is_new less none ends = tt
  expected_end settings options (Err why) good is_new less none breaks = λ few. breaks.cut.expected settings options good is_new less none few

pub has_served : (T : Type 0) (most : ℕ) (was_safe : Type 0) (new : Telling) (first cache : Cache) (settings : CoreSettings) (options : CoreOptions) (result : Result T DriveFault)
    → AreGood settings → StandsFor settings first (new_state_with settings options) → most ≤ options.connections → was_safe
    → GivesCrowd most was_safe result new (stage first [] (opening recorded_format)) cache → HasServed settings options most result new cache
has_served T most was_safe new first cache settings options result good is_new less was given =
    let from = stage first [] (opening recorded_format) in
    let serves = safely_served T most was_safe new from cache result was given in record {
      first = first;
      is_new = is_new;
      serves = serves;
      expected = expected_end T most (Unit {0}) new from cache settings options result good is_new less refl serves;
    }
