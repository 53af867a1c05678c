-- What one call keeps and the next one does, both keep.
use Rattle.std.proofs.Common.{◌∙◌, ℕ, List, refl}
use Rattle.hc_order.specs.Log.{Move}
use Rattle.hc_links.specs.Keeping.{KeepsLimits, KeepsLinks, KeepsRecorder}

module _ {L B : Type 0} {most : L → ℕ} {bounds_of : L → B} {may_tell : L → ℕ → Type 0} where
  pub limits_same : (links : L) → KeepsLimits most bounds_of may_tell links links
  limits_same links = record { as_many = refl; bounds = refl; moments = λ moment may. may }

  pub limits_stay : {first between last : L} → KeepsLimits most bounds_of may_tell first between → KeepsLimits most bounds_of may_tell between last
      → KeepsLimits most bounds_of may_tell first last
  limits_stay a b = record {
    as_many = b.as_many ∙ a.as_many;
    bounds = b.bounds ∙ a.bounds;
    moments = λ moment may. a.moments moment (b.moments moment may);
  }

  module _ {shows : L → List Move → Type 0} where
    pub links_same : (links : L) → KeepsLinks shows most bounds_of may_tell links links
    links_same links = record { shown = λ log was. was; limits = limits_same links }

    pub links_stay : {first between last : L} → KeepsLinks shows most bounds_of may_tell first between → KeepsLinks shows most bounds_of may_tell between last
        → KeepsLinks shows most bounds_of may_tell first last
    links_stay a b = record { shown = λ log was. b.shown log (a.shown log was); limits = limits_stay a.limits b.limits }

module _ {R : Type 0} {has_kept : R → List ℕ → Type 0} {was_read : R → ℕ → Type 0} where
  pub recorder_same : (recorder : R) → KeepsRecorder has_kept was_read recorder recorder
  recorder_same recorder = record { kept = λ octets kept. kept; unread = λ times was. was }

  pub recorder_stays : {first between last : R} → KeepsRecorder has_kept was_read first between → KeepsRecorder has_kept was_read between last
      → KeepsRecorder has_kept was_read first last
  recorder_stays a b = record {
    kept = λ octets kept. b.kept octets (a.kept octets kept);
    unread = λ times was. b.unread times (a.unread times was);
  }
