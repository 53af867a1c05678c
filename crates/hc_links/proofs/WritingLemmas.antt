-- Octets that are written in two parts.
use Rattle.std.proofs.Common.{◌≡◌, ℕ, List, ◌++◌, Result, Ok, Err, sym, ap, ◌∙◌, subst, append_assoc}
use Rattle.hc_links.specs.declared.link.LinkFailure.{LinkFailure}
use Rattle.hc_links.specs.Links.{IsBeginning, WritesAll}

-- a beginning of the front part is one of both
pub front_written : (before after : List ℕ → Type 0) (front rest octets : List ℕ) → front ++ rest ≡ octets
    → ((got : List ℕ) → before got → (part : List ℕ) × IsBeginning part front × after (got ++ part))
    → (got : List ℕ) → before got → (part : List ℕ) × IsBeginning part octets × after (got ++ part)
front_written before after front rest octets is wrote got had =
    let w = wrote got had in (
      w.0,
      (w.1.0 ++ rest, sym is ∙ ap (λ (o : List ℕ). o ++ rest) w.1.1 ∙ append_assoc w.0 w.1.0 rest),
      w.2,
    )

-- behind the front part the rest is written, or a beginning of it
pub both_written : (before between after : List ℕ → Type 0) (result : Result Unit LinkFailure) (front rest octets : List ℕ) → front ++ rest ≡ octets
    → ((got : List ℕ) → before got → between (got ++ front)) → WritesAll between after result rest → WritesAll before after result octets
both_written before between after (Ok done) front rest octets is first second = λ got had.
    subst after (append_assoc got front rest ∙ ap (λ (o : List ℕ). got ++ o) is) (second (got ++ front) (first got had))
both_written before between after (Err failure) front rest octets is first second = λ got had.
    let w = second (got ++ front) (first got had) in (
      front ++ w.0,
      (w.1.0, sym is ∙ ap (λ (o : List ℕ). front ++ o) w.1.1 ∙ sym (append_assoc front w.0 w.1.0)),
      subst after (append_assoc got front w.0) w.2,
    )
