-- A list of the first so many.
use Rattle.std.proofs.Common.{◌≡◌, ℕ, ◌<◌, ◌≤◌, ◌+◌, ◌-◌, ◌^◌, List, [], ◌∷◌, ◌++◌, Some, length, min, take, refl, sym, ◌∙◌, ap, subst, arith, length-append}
use Rattle.std.specs.Option.{option_or}
use Rattle.std.specs.List.{slice_get}
use Rattle.std.proofs.lemmas.List.{take_all, take-append-le, length-take}
use Rattle.hc_history.specs.declared.wrong.WrongReply.{WrongReply}
use Rattle.hc_figures.specs.Listed.{AreListed, most_listed}
use Rattle.hc_figures.specs.Wrongs.{wrongs_of}
use Rattle.hc_figures.specs.declared.listed.ListedReplies.{ListedReplies}

-- where it has room, all that there was is in it
pub all_are_listed : {A : Type 0} (n : ℕ) (kept xs : List A) → kept ≡ take n xs → length kept < n → kept ≡ xs
all_are_listed n kept xs same room =
    let fewer : min n (length xs) < n = subst (λ m. m < n) (ap length same ∙ length-take n xs) room in
    same ∙ take_all n xs (omega (arith, fewer))

pub one_more : {A : Type 0} (n : ℕ) (kept xs : List A) (x : A) → kept ≡ take n xs → length kept < n
    → kept ++ x ∷ [] ≡ take n (xs ++ x ∷ [])
one_more n kept xs x same room =
    let all = all_are_listed n kept xs same room in
    let few : length xs < n = subst (λ ys. length ys < n) all room in
    ap (λ ys. ys ++ x ∷ []) all ∙ sym (take_all n (xs ++ x ∷ []) (subst (λ m. m ≤ n) (sym (length-append xs (x ∷ []))) (omega (arith, few))))

pub no_more : {A : Type 0} (n : ℕ) (kept xs : List A) (x : A) → kept ≡ take n xs → n ≤ length kept
    → kept ≡ take n (xs ++ x ∷ [])
no_more n kept xs x same full =
    let enough : n ≤ min n (length xs) = subst (λ m. n ≤ m) (ap length same ∙ length-take n xs) full in
    same ∙ sym (take-append-le n xs (x ∷ []) (omega (arith, enough)))

-- ---- one more wrong reply

one_counted : (n count top : ℕ) → count ≡ min n top → min (count + 1) top ≡ min (n + 1) top
one_counted n count top is = grind (arith)

first_of : {A : Type 0} (xs : List A) (x : A) → option_or (slice_get xs 0) (Some x) ≡ slice_get (xs ++ x ∷ []) 0
first_of [] x = refl
first_of (y ∷ ys) x = refl

pub noted : (wrongs : List WrongReply) (wrong : WrongReply) (old new : ListedReplies) → new.count ≡ min (old.count + 1) (2 ^ 64 - 1)
    → new.first ≡ option_or old.first (Some wrong) → wrongs_of new.listed.items ≡ take most_listed (wrongs ++ wrong ∷ [])
    → AreListed old wrongs → AreListed new (wrongs ++ wrong ∷ [])
noted wrongs wrong old new count first front are = record {
  count = count ∙ one_counted (length wrongs) old.count (2 ^ 64 - 1) are.count
      ∙ ap (λ (n : ℕ). min n (2 ^ 64 - 1)) (sym (length-append wrongs (wrong ∷ [])));
  first = first ∙ ap (λ one. option_or one (Some wrong)) are.first ∙ first_of wrongs wrong;
  front = front;
}
