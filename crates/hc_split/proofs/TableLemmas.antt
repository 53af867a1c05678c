-- Where a table has a position.
use Rattle.std.proofs.Common.{inl, inr, ◌≡◌, ◌⊎◌, ◌<◌, ◌+◌, ◌^◌, ℕ, zero, suc, Bool, true, false, cond, ◌&&◌, List, [], ◌∷◌, ◌++◌, length, drop, Option, None, Some, refl, sym, ap, subst, ◌∙◌, arith, append_assoc, length-append}
use Rattle.std.specs.Prelude.{IfSome, slice_get, ◌==◌}
use Rattle.std.specs.Fmt.{decimal}
use Rattle.std.proofs.lemmas.Bool.Decides.{nat_tests}
use Rattle.hc_head.specs.declared.head.Target.{Target}
use Rattle.hc_transcript.specs.Items.{Item}
use Rattle.hc_transcript.specs.History.{next_position}
use Rattle.hc_transcript.specs.Lines.{Writes, is_feed}
use Rattle.hc_transcript.proofs.LineLaws.{Writes_decimal, Writes_unique}
use Rattle.hc_transcript.proofs.MarkLemmas.{first_mark_unique}
use Rattle.hc_transcript.proofs.NumeralLemmas.{written_lacks_feed}
use Rattle.hc_parts.specs.Parts.{goes_into, items_in, position_in}
use Rattle.hc_split.specs.Splitting.{positions_in, table_text}
use Rattle.hc_split.specs.Tables.{AreFew, IsLineAnd}

-- ---- lines

nothing_left : (line behind : List ℕ) → [] ≡ line ++ 10 ∷ behind → ⊥
nothing_left [] behind e = cc
nothing_left (x ∷ line) behind e = cc

-- the first line of a table is its first position
first_of : (position : ℕ) (positions line behind : List ℕ) → position < 10 ^ 18 → IsLineAnd (table_text (position ∷ positions)) line behind
    → (line ≡ decimal position) × (behind ≡ table_text positions)
first_of position positions line behind few is =
    let text : line ++ 10 ∷ behind ≡ decimal position ++ 10 ∷ table_text positions = sym is.text_is ∙ append_assoc (decimal position) (10 ∷ []) (table_text positions) in
    let lacks = written_lacks_feed (decimal position) position (Writes_decimal position few) in
    first_mark_unique is_feed line (decimal position) behind (table_text positions) 10 10 refl refl is.no_feed lacks text

-- behind so many positions, and then a line, stand the positions behind one more
pub next_line : (positions : List ℕ) (i n : ℕ) (line behind : List ℕ) → n ≡ i + 1 → AreFew positions → IsLineAnd (table_text (drop i positions)) line behind
    → behind ≡ table_text (drop n positions)
next_line positions i zero line behind next few is = absurd (omega (arith, next))
next_line [] zero (suc n) line behind next few is = absurd (nothing_left line behind is.text_is)
next_line [] (suc i) (suc n) line behind next few is = absurd (nothing_left line behind is.text_is)
next_line (p ∷ positions) zero (suc n) line behind next few is =
    let none : 0 ≡ n = omega (arith, next) in
    (first_of p positions line behind few.0 is).1 ∙ ap (λ (m : ℕ). table_text (drop m positions)) none
next_line (p ∷ positions) (suc i) (suc n) line behind next few is = next_line positions i n line behind (omega (arith, next)) few.1 is

-- and that line says the position there
pub line_says : (positions : List ℕ) (i : ℕ) (line behind : List ℕ) (n : ℕ) → AreFew positions → IsLineAnd (table_text (drop i positions)) line behind → Writes line n → slice_get positions i ≡ Some n
line_says [] zero line behind n few is writes = absurd (nothing_left line behind is.text_is)
line_says [] (suc i) line behind n few is writes = absurd (nothing_left line behind is.text_is)
line_says (p ∷ positions) zero line behind n few is writes =
    let same = (first_of p positions line behind few.0 is).0 in
    ap (λ (m : ℕ). Some m) (Writes_unique line p n (subst (λ (t : List ℕ). Writes t p) (sym same) (Writes_decimal p few.0)) writes)
line_says (p ∷ positions) (suc i) line behind n few is writes = line_says positions i line behind n few.1 is writes

-- ---- positions of a part

few_more : (positions : List ℕ) (position : ℕ) → AreFew positions → position < 10 ^ 18 → AreFew (positions ++ position ∷ [])
few_more [] position few lt = (lt, tt)
few_more (p ∷ positions) position few lt = (few.0, few_more positions position few.1 lt)

few_if : (b : Bool) (positions : List ℕ) (position : ℕ) → AreFew positions → position < 10 ^ 18 → AreFew (cond b (positions ++ position ∷ []) positions)
few_if true positions position few lt = few_more positions position few lt
few_if false positions position few lt = few

pub positions_few : (part : Target → ℕ) (k : ℕ) (h : List Item) → length h < 10 ^ 18 → AreFew (positions_in part k h)
positions_few part k [] lt = tt
positions_few part k (item ∷ h) lt = few_if (goes_into part k h item) (positions_in part k h) (next_position h) (positions_few part k h (omega (arith, lt))) (omega (arith, lt))

length_if : {A : Type 0} (b : Bool) (positions : List ℕ) (items : List A) (position : ℕ) (item : A) → length positions ≡ length items
    → length (cond b (positions ++ position ∷ []) positions) ≡ length (cond b (item ∷ items) items)
length_if true positions items position item same = omega (arith, length-append positions (position ∷ []), same)
length_if false positions items position item same = same

as_many : (part : Target → ℕ) (k : ℕ) (h : List Item) → length (positions_in part k h) ≡ length (items_in part k h)
as_many part k [] = refl
as_many part k (item ∷ h) = length_if (goes_into part k h item) (positions_in part k h) (items_in part k h) (next_position h) item (as_many part k h)

-- the last of a list, or one before it
one_of : (positions : List ℕ) (last i p : ℕ) → slice_get (positions ++ last ∷ []) i ≡ Some p → ((i < length positions) × (slice_get positions i ≡ Some p)) ⊎ ((i ≡ length positions) × (p ≡ last))
one_of [] last zero p is = inr (refl, cc)
one_of [] last (suc i) p is = absurd cc
one_of (q ∷ positions) last zero p is = inl (omega arith, is)
one_of (q ∷ positions) last (suc i) p is = by (one_of positions last i p is)
  where
    by : ((i < length positions) × (slice_get positions i ≡ Some p)) ⊎ ((i ≡ length positions) × (p ≡ last))
        → ((suc i < length (q ∷ positions)) × (slice_get positions i ≡ Some p)) ⊎ ((suc i ≡ length (q ∷ positions)) × (p ≡ last))
    by (inl found) = inl (omega (arith, found.0), found.1)
    by (inr found) = inr (ap (λ (n : ℕ). suc n) found.0, found.1)

same_test : (m n : ℕ) → m ≡ n → (m == n) ≡ true
same_test m n is = grind (arith, nat_tests, is)

greater_test : (m n : ℕ) → n < m → (m == n) ≡ false
greater_test m n lt = grind (arith, nat_tests, lt)

-- what a table has at a place is the position in the whole
tells_if : (b : Bool) (positions : List ℕ) (many i p next before : ℕ) → length positions ≡ many → (slice_get positions i ≡ Some p → p ≡ before)
    → slice_get (cond b (positions ++ next ∷ []) positions) i ≡ Some p → p ≡ cond (b && (many + 1 == i + 1)) next before
tells_if false positions many i p next before same earlier is = earlier is
tells_if true positions many i p next before same earlier is = by (one_of positions next i p is)
  where
    by : ((i < length positions) × (slice_get positions i ≡ Some p)) ⊎ ((i ≡ length positions) × (p ≡ next)) → p ≡ cond (many + 1 == i + 1) next before
    by (inl found) = earlier found.1 ∙ sym (ap (λ (t : Bool). cond t next before) (greater_test (many + 1) (i + 1) (omega (arith, found.0, same))))
    by (inr found) = found.1 ∙ sym (ap (λ (t : Bool). cond t next before) (same_test (many + 1) (i + 1) (omega (arith, found.0, same))))

pub tells_position : (part : Target → ℕ) (k i p : ℕ) (h : List Item) → slice_get (positions_in part k h) i ≡ Some p → p ≡ position_in part k (i + 1) h
tells_position part k i p [] is = absurd cc
tells_position part k i p (item ∷ h) is =
    tells_if (goes_into part k h item) (positions_in part k h) (length (items_in part k h)) i p (next_position h) (position_in part k (i + 1) h) (as_many part k h)
    (tells_position part k i p h) is

-- what holds of what is there, if anything is
pub if_some : {A : Type 0} (o : Option A) (P Q : A → Type 0) → ((x : A) → P x → Q x) → IfSome o P → IfSome o Q
if_some None P Q from is = tt
if_some (Some x) P Q from is = from x is
