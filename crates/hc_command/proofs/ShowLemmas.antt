-- What was shown of what was read of an input.
use Rattle.std.proofs.Common.{◌≡◌, ℕ, List, [], ◌++◌, Option, None, ◌∙◌, ap, inl, inr, subst, sym}
use Rattle.std.specs.Io.KnownBytes.{Appends, Consumes, IsAtEnd}
use Rattle.std.proofs.KnownBytes.{Appends-trans}
use Rattle.hc_shown.specs.declared.showing.ShowingStage.{ShowingStage}
use Rattle.hc_shown.specs.declared.showing.ShowingStage.TheVariants as stage
use Rattle.hc_shown.specs.declared.showing.Showing.{Showing}
use Rattle.hc_shown.specs.declared.span.Span.{Span}
use Rattle.hc_shown.specs.Showings.{GivesStage, IsAtStage}
use Rattle.hc_command.specs.declared.showing.Shown.{Shown}
use Rattle.hc_command.specs.declared.showing.Shown.TheVariants.{Fewer}
use Rattle.hc_command.specs.Show.{ComesTo, GoesOn, PutsOut, ShownFor, ShowsFor, ShowsOf, shown_end, stopped_by}

-- what a showing has come to, where more may come if it isn't the end
comes_to : (r : ShowingStage) (s : Showing) (span : Span) (octets text : List ℕ) → IsAtStage r s span octets text → ComesTo s span octets text (stopped_by r)
comes_to stage.More s span octets text is = is
comes_to stage.Last s span octets text is = (is, λ never. absurd cc)
comes_to (stage.Broken position f) s span octets text is = (is, λ never. absurd cc)

-- a piece whose text was put out
pub goes_on : (s : Showing) (span : Span) (octets text begun put : List ℕ) (old new : Option (List ℕ)) (r : ShowingStage) (known : Option Shown)
    → GivesStage s span octets text begun put r → begun ≡ [] → Appends old new put → known ≡ stopped_by r → GoesOn s span octets text old new known
goes_on s span octets text begun put old new r known gives empty written is =
    subst (λ (k : Option Shown). GoesOn s span octets text old new k) (sym is)
    (gives.0, subst (Appends old new) (gives.1 ∙ ap (λ (l : List ℕ). l ++ gives.0) empty) written, comes_to r s span octets (text ++ gives.0) gives.2)

-- all that was read, and the line of a break behind it
pub puts_out : (s : Showing) (span : Span) (input left old between new : Option (List ℕ)) (octets : List ℕ) (stopped : Option Shown) (shown : Shown)
    → Consumes input left octets → GoesOn s span octets [] old between stopped
    → ((o t : List ℕ) → ComesTo s span o t stopped → ShowsOf shown span o t)
    → ((o t : List ℕ) → ComesTo s span o t stopped → shown ≡ Fewer → stopped ≡ None)
    → (stopped ≡ None → IsAtEnd left) → Appends between new (shown_end shown) → PutsOut span input left old new shown
puts_out s span input left old between new octets stopped shown consumed goes is fewer end behind = record {
  read = octets;
  text = goes.0;
  consumed = consumed;
  is = is octets goes.0 goes.2;
  all = λ short. end (fewer octets goes.0 goes.2 short);
  written = Appends-trans old between new goes.0 (shown_end shown) goes.1 behind;
}

-- the same of an input that isn't known
pub of_any : (span : Span) (input left : Option (List ℕ)) (status : ℕ) (old new faults_old faults_new : Option (List ℕ))
    → ShowsFor span input left status old new faults_old faults_new → ShownFor span status old new faults_old faults_new
of_any span input left status old new faults_old faults_new (inl failed) = inl failed
of_any span input left status old new faults_old faults_new (inr is) = inr (
  is.0,
  record { read = is.1.read; text = is.1.text; consumed = tt; is = is.1.is; all = λ fewer. tt; written = is.1.written },
  is.2,
  is.3,
)
