-- The members of lists that are joined by commas.
use Rattle.std.proofs.Common.{◌≡◌, ℕ, Bool, true, false, cond, ◌&&◌, not, List, [], ◌∷◌, ◌++◌, Some, IsTrue, refl, sym, ap, subst, ◌∙◌, append-nil, arith}
use Rattle.std.proofs.lemmas.Bool.Decides.{nat_tests}
use Rattle.std.specs.Prelude.{map, filter, codes}
use Rattle.std.specs.List.{list_all, flat_map, onto_first, join_by}
use Rattle.std.proofs.lemmas.List.{map-append}
use Rattle.std.proofs.lemmas.List.Elements.{filter-append}
use Rattle.hc_fields.specs.declared.lists.Quoting.{Quoting}
use Rattle.hc_fields.specs.declared.lists.Quoting.TheVariants.{Outside, Inside, Escaped}
use Rattle.hc_fields.specs.Values.{joined_values}
use Rattle.hc_fields.specs.Lists.{trimmed, is_empty, quoting_behind, ends_piece, pieces, list_members, quoting_at_end, is_outside, closes_quotes}
use Rattle.hc_fields.proofs.ListLemmas.{kept, first_piece}

outside : (quoting : Quoting) → is_outside quoting ≡ true → quoting ≡ Outside
outside Outside e = refl
outside Inside e = absurd (cc)
outside Escaped e = absurd (cc)

-- a comma that ends a piece leaves the octets behind it outside
comma_stays : (quoting : Quoting) (c : ℕ) → ends_piece quoting c ≡ true → quoting_behind quoting c ≡ Outside
comma_stays Outside c e = let at : c ≡ 44 = grind (arith, nat_tests) in rw at refl
comma_stays Inside c e = absurd (cc)
comma_stays Escaped c e = absurd (cc)

onto-append : (c : ℕ) (piece : List ℕ) (parts more : List (List ℕ)) (all : List (List ℕ)) → all ≡ piece ∷ parts → onto_first c (all ++ more) ≡ onto_first c all ++ more
onto-append c piece parts more all e = rw e refl

-- a comma behind closed strings cuts the list in two
pieces-append : (quoting : Quoting) (a b : List ℕ) → quoting_at_end quoting a ≡ Outside → pieces quoting (a ++ 44 ∷ b) ≡ pieces quoting a ++ pieces Outside b
pieces-append quoting [] b e = rw e refl
pieces-append quoting (c ∷ cs) b e =
    go (ends_piece quoting c) (comma_stays quoting c) (pieces-append (quoting_behind quoting c) cs b e)
  where
    go : (ends : Bool) → (ends ≡ true → quoting_behind quoting c ≡ Outside)
        → pieces (quoting_behind quoting c) (cs ++ 44 ∷ b) ≡ pieces (quoting_behind quoting c) cs ++ pieces Outside b
        → cond ends ([] ∷ pieces Outside (cs ++ 44 ∷ b)) (onto_first c (pieces (quoting_behind quoting c) (cs ++ 44 ∷ b)))
        ≡ cond ends ([] ∷ pieces Outside cs) (onto_first c (pieces (quoting_behind quoting c) cs)) ++ pieces Outside b
    go true stays ih =
        let P : Quoting → Type 0 = λ q. pieces q (cs ++ 44 ∷ b) ≡ pieces q cs ++ pieces Outside b in
        ap (λ (parts : List (List ℕ)). [] ∷ parts) (subst P (stays refl) ih)
    go false stays ih =
        ap (onto_first c) ih ∙ onto-append c _ _ (pieces Outside b) (pieces (quoting_behind quoting c) cs) (first_piece (quoting_behind quoting c) cs)

kept-append : (xs ys : List (List ℕ)) → kept (xs ++ ys) ≡ kept xs ++ kept ys
kept-append xs ys =
    ap (filter (λ member. not (is_empty member))) (map-append trimmed xs ys) ∙ filter-append (λ member. not (is_empty member)) (map trimmed xs) (map trimmed ys)

-- a space before a list is none of its members
space_before : (b : List ℕ) → list_members (32 ∷ b) ≡ list_members b
space_before b =
    ap (λ (parts : List (List ℕ)). kept (onto_first 32 parts)) (first_piece Outside b)
    ∙ sym (ap kept (first_piece Outside b))

two_lists : (a b : List ℕ) → closes_quotes a ≡ true → list_members (a ++ 44 ∷ (32 ∷ b)) ≡ list_members a ++ list_members b
two_lists a b closed =
    ap kept (pieces-append Outside a (32 ∷ b) (outside (quoting_at_end Outside a) closed))
    ∙ kept-append (pieces Outside a) (pieces Outside (32 ∷ b))
    ∙ ap (λ (ms : List (List ℕ)). list_members a ++ ms) (space_before b)

and_left : (a b : Bool) → (a && b) ≡ true → a ≡ true
and_left true b e = refl
and_left false b e = absurd (cc)

and_right : (a b : Bool) → (a && b) ≡ true → b ≡ true
and_right true b e = e
and_right false b e = absurd (cc)

joined_members : (value : List ℕ) (values : List (List ℕ)) → list_all closes_quotes (value ∷ values) ≡ true
    → list_members (join_by (λ v. v) (codes ", ") (value ∷ values)) ≡ flat_map list_members (value ∷ values)
joined_members value [] closed = ap list_members (append-nil value) ∙ sym (append-nil (list_members value))
joined_members value (next ∷ values) closed =
    two_lists value (join_by (λ v. v) (codes ", ") (next ∷ values)) (and_left (closes_quotes value) (list_all closes_quotes (next ∷ values)) closed)
    ∙ ap (λ (ms : List (List ℕ)). list_members value ++ ms)
    (joined_members next values (and_right (closes_quotes value) (list_all closes_quotes (next ∷ values)) closed))

pub joined_have : (values : List (List ℕ)) (value : List ℕ) → IsTrue (list_all closes_quotes values) → joined_values values ≡ Some value
    → list_members value ≡ flat_map list_members values
joined_have [] value closed e = absurd (cc)
joined_have (first ∷ values) value closed e =
    let is : value ≡ join_by (λ v. v) (codes ", ") (first ∷ values) = cc in
    ap list_members is ∙ joined_members first values closed
