-- What was fed piece after piece.
use Rattle.std.proofs.Common.{ℕ, List, ◌++◌, Option, None}
use Rattle.std.specs.Io.KnownBytes.{Consumes}
use Rattle.std.proofs.KnownBytes.{Consumes-trans}
use Rattle.hc_auditing.specs.Pulling.{IsPulled}

pub pulled_on : {F T A : Type 0} (goes : F → T → F → T → List ℕ → Option A → Type 0)
    → ((first middle last : F) (before between after : T) (some more : List ℕ) (answer : Option A) → goes first before middle between some None
    → goes middle between last after more answer → goes first before last after (some ++ more) answer)
    → (first middle last : F) (before between after : T) (old mid new : Option (List ℕ)) (more : List ℕ) (answer : Option A)
    → IsPulled goes first before middle between old mid None → Consumes mid new more → goes middle between last after more answer
    → IsPulled goes first before last after old new answer
pulled_on goes goes_on first middle last before between after old mid new more answer so_far consumed goes_then = record {
  octets = so_far.octets ++ more;
  goes_by = goes_on first middle last before between after so_far.octets more answer so_far.goes_by goes_then;
  consumed = Consumes-trans old mid new so_far.octets more so_far.consumed consumed;
}
