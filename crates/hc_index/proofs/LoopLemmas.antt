-- Loops that write each element of a list.
use Rattle.std.proofs.Common.{◌≡◌, ℕ, ◌<◌, ◌+◌, List, ◌++◌, length, arith, take, drop, map, get_or, ap, sym, ◌∙◌}
use Rattle.std.proofs.Math.ListN.{set}
use Rattle.std.proofs.lemmas.List.{map-set, get_or-map, get_or_default, length-map}
use Rattle.std.proofs.lemmas.List.Edits.{map_over_more}

-- one more element written over by f
pub map_over_at : {X : Type 0} (f : X → X) (xs ys : List X) (i : ℕ) (d y : X) → length ys ≡ length xs → i < length xs
    → ys ≡ map f (take i xs) ++ drop i xs → y ≡ f (get_or ys i d) → set ys i y ≡ map f (take (i + 1) xs) ++ drop (i + 1) xs
map_over_at f xs ys i d y same lt so_far is =
    ap (set ys i) is ∙ map_over_more f xs ys i (get_or ys i d) lt so_far (get_or_default ys i d (get_or ys i d) (omega arith))

-- the same of what is seen of the elements
pub seen_over_at : {X Y : Type 0} (see : X → Y) (f : Y → Y) (xs ys : List X) (i : ℕ) (d y : X) → length ys ≡ length xs → i < length xs
    → map see ys ≡ map f (take i (map see xs)) ++ drop i (map see xs) → see y ≡ f (see (get_or ys i d))
    → map see (set ys i y) ≡ map f (take (i + 1) (map see xs)) ++ drop (i + 1) (map see xs)
seen_over_at see f xs ys i d y same lt so_far is =
    map-set see ys i y
    ∙ map_over_at f (map see xs) (map see ys) i (see d) (see y) (length-map ys see ∙ same ∙ sym (length-map xs see))
    (let l = length-map xs see in omega (arith, l)) so_far
    (is ∙ ap f (sym (get_or-map see ys i d (see d) (omega arith))))
