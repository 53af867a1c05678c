-- Pieces that wait, and what comes behind them.
use Rattle.std.proofs.Common.{◌≡◌, ℕ, ◌+◌, ◌-◌, ◌<◌, ◌≤◌, List, [], ◌∷◌, ◌++◌, length, drop, leb, Result, Ok, Err, OnOk, OnErr, inl, inr, refl, sym, ap, ◌∙◌, subst, arith, append_assoc, append-nil, length-append, leb-true, leb-false}
use Rattle.std.proofs.lemmas.Bool.{cases_Bool}
use Rattle.std.proofs.lemmas.List.{drop-append-le, drop-drop, drop_all, drop_at}
use Rattle.std.specs.declared.alloc.AllocError.{AllocError}
use Rattle.hc_flow.specs.declared.pieces.Piece.{Piece}
use Rattle.hc_flow.specs.Pieces.{Grows, GrowsIfOk, all_of, first_of, octets_of}

-- ---- octets in two parts

drop_long : (n : ℕ) (xs ys : List ℕ) → length xs ≤ n → drop n xs ++ drop (n - length xs) ys ≡ drop n (xs ++ ys)
drop_long n xs ys long =
    ap (λ (front : List ℕ). front ++ drop (n - length xs) ys) (drop_all n xs long)
    ∙ ap (drop (n - length xs)) (sym (drop_at xs ys (length xs) refl))
    ∙ drop-drop (n - length xs) (length xs) (xs ++ ys)
    ∙ ap (λ (m : ℕ). drop m (xs ++ ys)) (let e : length xs + (n - length xs) ≡ n = omega (arith, long) in e)

drop_short : (n : ℕ) (xs ys : List ℕ) → n < length xs → drop n xs ++ drop (n - length xs) ys ≡ drop n (xs ++ ys)
drop_short n xs ys short =
    ap (λ (m : ℕ). drop n xs ++ drop m ys) (let e : n - length xs ≡ 0 = omega (arith, short) in e)
    ∙ sym (drop-append-le n xs ys (omega (arith, short)))

pub drop_parts : (n : ℕ) (xs ys : List ℕ) → drop n xs ++ drop (n - length xs) ys ≡ drop n (xs ++ ys)
drop_parts n xs ys =
    elim (cases_Bool (leb (length xs) n)) [
      | inl le ↦ drop_long n xs ys (leb-true (length xs) n le)
      | inr gt ↦ drop_short n xs ys (leb-false (length xs) n gt)
    ]

-- ---- more behind them

all_more : (pieces : List Piece) (tail more : List ℕ) → all_of pieces (tail ++ more) ≡ all_of pieces tail ++ more
all_more [] tail more = refl
all_more (piece ∷ pieces) tail more =
    ap (λ (rest : List ℕ). octets_of piece ++ rest) (all_more pieces tail more) ∙ sym (append_assoc (octets_of piece) (all_of pieces tail) more)

all_piece : (pieces : List Piece) (piece : Piece) (tail : List ℕ) → all_of (pieces ++ piece ∷ []) tail ≡ all_of pieces (octets_of piece ++ tail)
all_piece [] piece tail = refl
all_piece (first ∷ pieces) piece tail = ap (λ (rest : List ℕ). octets_of first ++ rest) (all_piece pieces piece tail)

first_piece : (pieces : List Piece) (piece : Piece) (tail : List ℕ) → first_of (pieces ++ piece ∷ []) tail ≡ first_of pieces (octets_of piece)
first_piece [] piece tail = refl
first_piece (first ∷ pieces) piece tail = refl

first_grows : (pieces : List Piece) (tail more : List ℕ) → length (first_of pieces tail) ≤ length (first_of pieces (tail ++ more))
first_grows [] tail more = omega (arith, length-append tail more)
first_grows (piece ∷ pieces) tail more = omega arith

-- the tail took more
pub grows_tail : (pieces : List Piece) (tail tail' more : List ℕ) → tail' ≡ tail ++ more → Grows pieces tail pieces tail' more
grows_tail pieces tail tail' more is = record {
  all = ap (all_of pieces) is ∙ all_more pieces tail more;
  first = subst (λ (t : List ℕ). length (first_of pieces tail) ≤ length (first_of pieces t)) (sym is) (first_grows pieces tail more);
}

-- the tail became a piece
pub grows_closed : (pieces pieces' : List Piece) (tail tail' : List ℕ) (piece : Piece) → octets_of piece ≡ tail → pieces' ≡ pieces ++ piece ∷ [] → tail' ≡ [] → Grows pieces tail pieces' tail' []
grows_closed pieces pieces' tail tail' piece its is none = record {
  all =
      (λ i. all_of (is i) (none i)) ∙ all_piece pieces piece [] ∙ ap (all_of pieces) (append-nil (octets_of piece) ∙ its)
      ∙ sym (append-nil (all_of pieces tail));
  first =
      let same = ap length ((λ i. first_of (is i) (none i)) ∙ first_piece pieces piece [] ∙ ap (first_of pieces) its) in
      omega (arith, same);
}

-- a piece came behind them, where the tail had nothing
pub grows_piece : (pieces pieces' : List Piece) (tail : List ℕ) (piece : Piece) (octets : List ℕ) → octets_of piece ≡ octets → pieces' ≡ pieces ++ piece ∷ [] → tail ≡ [] → Grows pieces tail pieces' tail octets
grows_piece pieces pieces' tail piece octets its is none = record {
  all =
      (λ i. all_of (is i) (none i)) ∙ all_piece pieces piece [] ∙ ap (all_of pieces) (append-nil (octets_of piece) ∙ its)
      ∙ all_more pieces [] octets ∙ ap (λ (t : List ℕ). all_of pieces t ++ octets) (sym none);
  first =
      let same = ap length ((λ i. first_of (is i) (none i)) ∙ first_piece pieces piece []) in
      let more = first_grows pieces [] (octets_of piece) in
      let before = ap (λ (t : List ℕ). length (first_of pieces t)) none in
      omega (arith, same, more, before);
}

-- one after the other
pub grows_on : (pieces pieces' pieces'' : List Piece) (tail tail' tail'' octets : List ℕ) → Grows pieces tail pieces' tail' [] → Grows pieces' tail' pieces'' tail'' octets → Grows pieces tail pieces'' tail'' octets
grows_on pieces pieces' pieces'' tail tail' tail'' octets one two = record {
  all = two.all ∙ ap (λ (o : List ℕ). o ++ octets) (one.all ∙ append-nil (all_of pieces tail));
  first = let a = one.first in let b = two.first in omega (arith, a, b);
}

-- ---- unless memory was refused

pub appended : {T : Type 0} (pieces : List Piece) (tail tail' more : List ℕ) (result : Result T AllocError) → OnOk result (tail' ≡ tail ++ more) → OnErr result (tail' ≡ tail) → GrowsIfOk pieces tail pieces tail' more result
appended pieces tail tail' more (Ok done) ok err = grows_tail pieces tail tail' more ok
appended pieces tail tail' more (Err refused) ok err = grows_tail pieces tail tail' [] (err ∙ sym (append-nil tail))

pub appended_on : {T : Type 0} (pieces pieces' pieces'' : List Piece) (tail tail' tail'' more : List ℕ) (result : Result T AllocError) → Grows pieces tail pieces' tail' [] → GrowsIfOk pieces' tail' pieces'' tail'' more result
    → GrowsIfOk pieces tail pieces'' tail'' more result
appended_on pieces pieces' pieces'' tail tail' tail'' more (Ok done) one two = grows_on pieces pieces' pieces'' tail tail' tail'' more one two
appended_on pieces pieces' pieces'' tail tail' tail'' more (Err refused) one two = grows_on pieces pieces' pieces'' tail tail' tail'' [] one two
