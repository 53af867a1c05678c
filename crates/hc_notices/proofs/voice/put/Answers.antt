use Rattle.std.proofs.Common.{◌≡◌, ℕ, ◌-◌, List, ◌++◌, length, take, drop, ap, ◌∙◌, append_assoc, take-append-drop}
use Rattle.std.proofs.lemmas.List.{take_rest}
use Rattle.std.proofs.KnownBytes.{Appends-trans}
use Rattle.hc_notices.proofs.voice.put.Goals as goal

-- octets move from the rest to what was written
moved : (said rest octets : List ℕ) (n : ℕ) → said ++ rest ≡ octets → (said ++ take n rest) ++ take (length rest - n) (drop n rest) ≡ octets
moved said rest octets n split = append_assoc said (take n rest) (take (length rest - n) (drop n rest)) ∙ ap (λ l. said ++ (take n rest ++ l)) (take_rest rest n)
    ∙ ap (λ l. said ++ l) (take-append-drop n rest) ∙ split

pub pieces-preserved : goal.pieces-preserved
pieces-preserved g c =
    let (said, split, appended) = c.pieces.invariant in
    (_, moved said c.pieces.rest.now _ c.in-Ok.count split, Appends-trans _ _ _ _ _ appended c.in-Ok.ensures.bytes)
