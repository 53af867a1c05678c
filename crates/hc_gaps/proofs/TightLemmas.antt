-- The octets of a value that are kept, piece by piece: blanks, and what stands behind them.
use Rattle.std.proofs.Common.{◌≡◌, ◌||◌, ◌+◌, ◌-◌, ◌<◌, ◌≤◌, ◌++◌, Bool, true, false, cond, ℕ, List, [], ◌∷◌, length, take, drop, get_or, refl, ap, sym, ◌∙◌, arith}
use Rattle.std.specs.List.{list_all, slice_range}
use Rattle.std.proofs.lemmas.Bool.{and_from, and_parts, cond-false, cond-true, false≢true}
use Rattle.std.proofs.lemmas.List.{append-nil, append_assoc, drop_all, drop_more, get_or-drop, length-drop, take_more}
use Rattle.std.proofs.lemmas.List.Folds.{drop_split}
use Rattle.hc_fields.specs.Lists.{is_blank}
use Rattle.hc_gaps.specs.declared.forms.Place.{Place}
use Rattle.hc_gaps.specs.declared.forms.Place.TheVariants.{Plain, Quoted, Escaped}
use Rattle.hc_gaps.specs.Forms.{begins_separated, is_separator, is_space, place_behind, separates, tight_from}

-- ---- what stands behind blanks, and nothing

begins_behind : (bs : List ℕ) (c : ℕ) (cs : List ℕ) → list_all is_blank bs ≡ true → is_blank c ≡ false
    → begins_separated (bs ++ c ∷ cs) ≡ is_separator c
begins_behind [] c cs all other = cond-false (is_blank c) (begins_separated cs) (is_separator c) other
begins_behind (b ∷ bs) c cs all other =
    let parts = and_parts (is_blank b) (list_all is_blank bs) all in
    cond-true (is_blank b) (begins_separated (bs ++ c ∷ cs)) (is_separator b) parts.0 ∙ begins_behind bs c cs parts.1 other

begins_at_end : (bs : List ℕ) → list_all is_blank bs ≡ true → begins_separated bs ≡ true
begins_at_end [] all = refl
begins_at_end (b ∷ bs) all =
    let parts = and_parts (is_blank b) (list_all is_blank bs) all in
    cond-true (is_blank b) (begins_separated bs) (is_separator b) parts.0 ∙ begins_at_end bs parts.1

-- ---- blanks are kept, or left out, all of them

none_kept : (left : Bool) (rest : List ℕ) → cond left [] [] ++ rest ≡ rest
none_kept true rest = refl
none_kept false rest = refl

one_kept : (left : Bool) (b : ℕ) (bs rest : List ℕ) → cond left (cond left [] bs ++ rest) (b ∷ (cond left [] bs ++ rest)) ≡ cond left [] (b ∷ bs) ++ rest
one_kept true b bs rest = refl
one_kept false b bs rest = refl

either_way : (before : Bool) (one other : List ℕ) → cond (before || true) one other ≡ one
either_way true one other = refl
either_way false one other = refl

behind_blanks : (before : Bool) (bs : List ℕ) (c : ℕ) (cs : List ℕ) → list_all is_blank bs ≡ true → is_blank c ≡ false
    → tight_from Plain before (bs ++ c ∷ cs) ≡ cond (before || is_separator c) [] bs ++ c ∷ tight_from (place_behind Plain c) (is_separator c) cs
behind_blanks before [] c cs all other =
    let rest = c ∷ tight_from (place_behind Plain c) (is_separator c) cs in
    cond-false (is_blank c) _ rest other ∙ sym (none_kept (before || is_separator c) rest)
behind_blanks before (b ∷ bs) c cs all other =
    let parts = and_parts (is_blank b) (list_all is_blank bs) all in
    let rest = c ∷ tight_from (place_behind Plain c) (is_separator c) cs in
    cond-true (is_blank b) _ _ parts.0
    ∙ ap (λ (t : Bool). cond (before || t) (tight_from Plain before (bs ++ c ∷ cs)) (b ∷ tight_from Plain before (bs ++ c ∷ cs))) (begins_behind bs c cs parts.1 other)
    ∙ ap (λ (l : List ℕ). cond (before || is_separator c) l (b ∷ l)) (behind_blanks before bs c cs parts.1 other)
    ∙ one_kept (before || is_separator c) b bs rest

blanks_at_end : (before : Bool) (bs : List ℕ) → list_all is_blank bs ≡ true → tight_from Plain before bs ≡ []
blanks_at_end before [] all = refl
blanks_at_end before (b ∷ bs) all =
    let parts = and_parts (is_blank b) (list_all is_blank bs) all in
    cond-true (is_blank b) _ _ parts.0
    ∙ ap (λ (t : Bool). cond (before || t) (tight_from Plain before bs) (b ∷ tight_from Plain before bs)) (begins_at_end bs parts.1)
    ∙ either_way before (tight_from Plain before bs) (b ∷ tight_from Plain before bs)
    ∙ blanks_at_end before bs parts.1

-- the same wherever they stand: inside of quoted strings is none
behind_spaces : (place : Place) (before : Bool) (bs : List ℕ) (c : ℕ) (cs : List ℕ) → list_all (is_space place) bs ≡ true → is_space place c ≡ false
    → tight_from place before (bs ++ c ∷ cs) ≡ cond (before || separates place c) [] bs ++ c ∷ tight_from (place_behind place c) (separates place c) cs
behind_spaces Plain before bs c cs all other = behind_blanks before bs c cs all other
behind_spaces Quoted before [] c cs all other = sym (none_kept (before || false) _)
behind_spaces Quoted before (b ∷ bs) c cs all other = absurd (false≢true all)
behind_spaces Escaped before [] c cs all other = sym (none_kept (before || false) _)
behind_spaces Escaped before (b ∷ bs) c cs all other = absurd (false≢true all)

spaces_at_end : (place : Place) (before : Bool) (bs : List ℕ) → list_all (is_space place) bs ≡ true → tight_from place before bs ≡ []
spaces_at_end Plain before bs all = blanks_at_end before bs all
spaces_at_end Quoted before [] all = refl
spaces_at_end Quoted before (b ∷ bs) all = absurd (false≢true all)
spaces_at_end Escaped before [] all = refl
spaces_at_end Escaped before (b ∷ bs) all = absurd (false≢true all)

-- ---- the octets of a value, one after another

all_then : (p : ℕ → Bool) (bs : List ℕ) (c : ℕ) → list_all p bs ≡ true → p c ≡ true → list_all p (bs ++ c ∷ []) ≡ true
all_then p [] c all one = and_from (p c) true one refl
all_then p (b ∷ bs) c all one =
    let parts = and_parts (p b) (list_all p bs) all in
    and_from (p b) (list_all p (bs ++ c ∷ [])) parts.0 (all_then p bs c parts.1 one)

one_longer : (octets : List ℕ) (behind index : ℕ) → behind ≤ index → index < length octets
    → slice_range octets behind (index + 1) ≡ slice_range octets behind index ++ get_or octets index 0 ∷ []
one_longer octets behind index order within =
    let more : index + 1 - behind ≡ index - behind + 1 = omega arith in
    let there : index - behind < length (drop behind octets) = omega (arith, length-drop behind octets) in
    let same : behind + (index - behind) ≡ index = omega arith in
    ap (λ (n : ℕ). take n (drop behind octets)) more
    ∙ take_more (drop behind octets) (index - behind) 0 there
    ∙ ap (λ (b : ℕ). slice_range octets behind index ++ b ∷ []) (get_or-drop behind octets (index - behind) 0 ∙ ap (λ (n : ℕ). get_or octets n 0) same)

-- one more blank
pub space_taken : (p : ℕ → Bool) (octets : List ℕ) (behind index c : ℕ) → behind ≤ index → index < length octets → c ≡ get_or octets index 0
    → list_all p (slice_range octets behind index) ≡ true → p c ≡ true → list_all p (slice_range octets behind (index + 1)) ≡ true
space_taken p octets behind index c order within is all one =
    ap (list_all p) (one_longer octets behind index order within ∙ ap (λ (b : ℕ). slice_range octets behind index ++ b ∷ []) (sym is))
    ∙ all_then p (slice_range octets behind index) c all one

-- one more octet that is none: the blanks before it are kept, or not, and it is
one_taken : (place : Place) (before : Bool) (octets old all : List ℕ) (behind index c : ℕ)
    → behind ≤ index → index < length octets → c ≡ get_or octets index 0
    → list_all (is_space place) (slice_range octets behind index) ≡ true → is_space place c ≡ false
    → old ++ tight_from place before (drop behind octets) ≡ all
    → ((old ++ cond (before || separates place c) [] (slice_range octets behind index)) ++ c ∷ []) ++ tight_from (place_behind place c) (separates place c) (drop (index + 1) octets) ≡ all
one_taken place before octets old all behind index c order within is spaces other was =
    let bs = slice_range octets behind index in
    let cs = drop (index + 1) octets in
    let rest = tight_from (place_behind place c) (separates place c) cs in
    let kept = cond (before || separates place c) [] bs in
    let left : drop behind octets ≡ bs ++ c ∷ cs =
    drop_split octets behind index order
    ∙ ap (λ (l : List ℕ). bs ++ l) (drop_more octets index 0 within ∙ ap (λ (b : ℕ). b ∷ cs) (sym is)) in
    append_assoc (old ++ kept) (c ∷ []) rest
    ∙ append_assoc old kept (c ∷ rest)
    ∙ ap (λ (l : List ℕ). old ++ l) (sym (ap (tight_from place before) left ∙ behind_spaces place before bs c cs spaces other))
    ∙ was

pub octet_taken : (place next : Place) (before separated : Bool) (octets kept old mid new all : List ℕ) (behind index c : ℕ)
    → behind ≤ index → index < length octets → c ≡ get_or octets index 0
    → list_all (is_space place) (slice_range octets behind index) ≡ true → is_space place c ≡ false
    → next ≡ place_behind place c → separated ≡ separates place c
    → kept ≡ cond (before || separated) [] (slice_range octets behind index) → mid ≡ old ++ kept → new ≡ mid ++ c ∷ []
    → old ++ tight_from place before (drop behind octets) ≡ all
    → new ++ tight_from next separated (drop (index + 1) octets) ≡ all
octet_taken place next before separated octets kept old mid new all behind index c order within is spaces other next-is separated-is kept-is mid-is new-is was =
    let bs = slice_range octets behind index in
    let cs = drop (index + 1) octets in
    let items : new ≡ (old ++ cond (before || separates place c) [] bs) ++ c ∷ [] =
    new-is ∙ ap (λ (l : List ℕ). l ++ c ∷ []) (mid-is ∙ ap (λ (l : List ℕ). old ++ l) (kept-is ∙ ap (λ (b : Bool). cond (before || b) [] bs) separated-is)) in
    ap (λ (l : List ℕ). l ++ tight_from next separated cs) items
    ∙ ap (λ (b : Bool). ((old ++ cond (before || separates place c) [] bs) ++ c ∷ []) ++ tight_from next b cs) separated-is
    ∙ ap (λ (p : Place). ((old ++ cond (before || separates place c) [] bs) ++ c ∷ []) ++ tight_from p (separates place c) cs) next-is
    ∙ one_taken place before octets old all behind index c order within is spaces other was

-- no blank stands behind it yet
pub no_spaces : (p : ℕ → Bool) (octets : List ℕ) (index : ℕ) → list_all p (slice_range octets index index) ≡ true
no_spaces p octets index =
    let none : index - index ≡ 0 = omega arith in
    ap (λ (n : ℕ). list_all p (take n (drop index octets))) none

-- and nothing is kept of the blanks at the end
pub all_taken : (place : Place) (before : Bool) (octets old all : List ℕ) (behind index : ℕ) → behind ≤ index → length octets ≤ index
    → list_all (is_space place) (slice_range octets behind index) ≡ true
    → old ++ tight_from place before (drop behind octets) ≡ all → old ≡ all
all_taken place before octets old all behind index order end spaces was =
    let bs = slice_range octets behind index in
    let left : drop behind octets ≡ bs =
    drop_split octets behind index order ∙ ap (λ (l : List ℕ). bs ++ l) (drop_all index octets end) ∙ append-nil bs in
    sym (ap (λ (l : List ℕ). old ++ l) (ap (tight_from place before) left ∙ spaces_at_end place before bs spaces) ∙ append-nil old)
    ∙ was
