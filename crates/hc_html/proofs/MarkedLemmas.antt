-- A piece more makes a document of a document, and no escaped text has markup.
use Rattle.std.proofs.Common.{◌≡◌, ◌∙◌, ◌==◌, ◌++◌, ℕ, Bool, true, false, List, [], ◌∷◌, ap, refl, sym, append-nil}
use Rattle.std.proofs.Math.Logic.{∥∥₁_map}
use Rattle.std.proofs.lemmas.Bool.{and_from, cond_both}
use Rattle.std.proofs.lemmas.Grind.{flat_map-append, merely}
use Rattle.std.proofs.lemmas.List.Folds.{list_all-append}
use Rattle.std.specs.List.{list_all}
use Rattle.std.specs.Prelude.{Result, Ok, Err, OnOk, is_err}
use Rattle.hc_html.specs.Marked.{IsMarked, Piece, escaped, escaped_octet, is_plain, is_written, piece_text, pieces_text}

-- ---- pieces

marked_on : (piece : Piece) (old new : List ℕ) → new ≡ old ++ piece_text piece → IsMarked old → IsMarked new
marked_on piece old new is marked = (
  marked.0 ++ piece ∷ [],
  is ∙ ap (λ (text : List ℕ). text ++ piece_text piece) marked.1 ∙ ap (λ (text : List ℕ). pieces_text marked.0 ++ text) (sym (append-nil (piece_text piece)))
      ∙ sym (flat_map-append piece_text marked.0 (piece ∷ [])),
)

-- nothing is a document
pub nothing_marked : ∥ IsMarked [] ∥₁
nothing_marked = merely ([], refl)

-- so is a document with the piece that was written, if it was
pub kept : {E : Type 0} (piece : Piece) (written : Result (Unit {0}) E) (test refused : Bool) (old new : List ℕ) → OnOk written (new ≡ old ++ piece_text piece)
    → test ≡ is_err written → test ≡ false → (refused ≡ false → ∥ IsMarked old ∥₁) → refused ≡ false → ∥ IsMarked new ∥₁
kept piece (Ok u) test refused old new is same none marked whole = ∥∥₁_map (marked whole) (marked_on piece old new is)
kept piece (Err e) test refused old new is same none marked whole = let wrong : true ≡ false = sym same ∙ none in cc

-- ---- texts

plain_octet : (octet : ℕ) → list_all is_plain (escaped_octet octet) ≡ true
plain_octet octet = cond_both (octet == 38) _ _ (λ t. list_all is_plain t ≡ true) (λ _. refl) (λ _.
    cond_both (octet == 60) _ _ (λ t. list_all is_plain t ≡ true) (λ _. refl) (λ less.
    cond_both (octet == 62) _ _ (λ t. list_all is_plain t ≡ true) (λ _. refl) (λ more.
    cond_both (octet == 34) _ _ (λ t. list_all is_plain t ≡ true) (λ _. refl) (λ double.
    cond_both (octet == 39) _ _ (λ t. list_all is_plain t ≡ true) (λ _. refl) (λ single.
    cond_both (is_written octet) _ _ (λ t. list_all is_plain t ≡ true) (λ printable. rw printable (rw less (rw more (rw double (rw single refl))))) (λ _. refl))))))

pub plain_text : (octets : List ℕ) → list_all is_plain (escaped octets) ≡ true
plain_text [] = refl
plain_text (octet ∷ rest) = list_all-append is_plain (escaped_octet octet) (escaped rest) ∙ and_from _ _ (plain_octet octet) (plain_text rest)
