-- How a showing is fed piece after piece.
use Rattle.std.proofs.Common.{ℕ, List, [], ◌++◌, Option, None, append-nil, append_assoc, subst, sym}
use Rattle.std.proofs.KnownBytes.{Appends-nil, Appends-trans}
use Rattle.hc_shown.specs.declared.span.Span.{Span}
use Rattle.hc_shown.specs.Showings.{Shows}
use Rattle.hc_command.specs.declared.showing.Putting.{Putting}
use Rattle.hc_command.specs.declared.showing.Shown.{Shown}
use Rattle.hc_command.specs.Show.{ComesTo, GoesOn}

module _ {W : Type 0} (contents : W → Option (List ℕ)) where
  -- by these octets the showing came from the first to the last, its text was put out, and that is shown, if it needs no more
  abbrev Goes : Putting → W → Putting → W → List ℕ → Option Shown → Type 0
  Goes first before last after octets shown =
      (span : Span) (read text : List ℕ) → Shows first.showing span read text
      → GoesOn last.showing span (read ++ octets) text (contents before) (contents after) shown

  -- by no octets it stays as it is
  pub showing_stays : (putting : Putting) (output : W) → Goes putting output putting output [] None
  showing_stays putting output = λ span read text shows. (
    [],
    Appends-nil (contents output),
    subst (λ (o : List ℕ). Shows putting.showing span o (text ++ [])) (sym (append-nil read))
        (subst (λ (t : List ℕ). Shows putting.showing span read t) (sym (append-nil text)) shows),
  )

  -- and by some, and then more, it comes to where all of them lead
  pub showing_goes_on : (first middle last : Putting) (before between after : W) (some more : List ℕ) (shown : Option Shown)
      → Goes first before middle between some None → Goes middle between last after more shown → Goes first before last after (some ++ more) shown
  showing_goes_on first middle last before between after some more shown so_far on = λ span read text shows.
      let f = so_far span read text shows in
      let g = on span (read ++ some) (text ++ f.0) f.2 in (
        f.0 ++ g.0,
        Appends-trans (contents before) (contents between) (contents after) f.0 g.0 f.1 g.1,
        subst (λ (o : List ℕ). ComesTo last.showing span o (text ++ (f.0 ++ g.0)) shown) (append_assoc read some more)
            (subst (λ (t : List ℕ). ComesTo last.showing span ((read ++ some) ++ more) t shown) (append_assoc text f.0 g.0) g.2),
      )
