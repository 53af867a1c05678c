-- Lines one behind another.
use Rattle.std.proofs.Common.{◌≡◌, ◌∙◌, ◌++◌, ◌+◌, ◌<◌, ◌∷◌, [], ℕ, List, Option, None, Some, Ok, Err, Result, Bor, IfOk, add-one, ap, append_assoc, append-nil, get_or, length, map, subst, sym, take}
use Rattle.std.specs.List.{flat_map}
use Rattle.std.proofs.lemmas.Grind.{flat_map-append}
use Rattle.std.proofs.lemmas.List.{map-append}
use Rattle.std.proofs.Math.Seq.{take-suc}
use Rattle.std.specs.Io.KnownBytes.{Appends}
use Rattle.hc_cases.specs.Answers.{AnswersEach, IsLineOf, case_line}

-- what is the line of a case and an answer is a line of the case
pub line_of_case : {A E : Type 0} (bytes : A → List ℕ) (r : Result A E) (case answer : List ℕ)
    → IfOk r (λ line. bytes line ≡ case_line case answer) → IfOk r (λ line. IsLineOf case (bytes line))
line_of_case bytes (Ok line) case answer same = (answer, same)
line_of_case bytes (Err e) case answer same = same

-- what is appended to what was appended is appended
appends_more : (old mid new : Option (List ℕ)) (xs ys zs : List ℕ) → zs ≡ xs ++ ys
    → Appends old mid xs → Appends mid new ys → Appends old new zs
appends_more None mid new xs ys zs is first second = first
appends_more (Some a) None new xs ys zs is first second = absurd first
appends_more (Some a) (Some b) None xs ys zs is first second = absurd second
appends_more (Some a) (Some b) (Some c) xs ys zs is first second =
    second ∙ ap (λ front. front ++ ys) first ∙ append_assoc a xs ys ∙ ap (λ t. a ++ t) (sym is)

-- a case more, and its line
one_more : (cases : List (List ℕ)) (case line : List ℕ) (old mid new : Option (List ℕ)) → IsLineOf case line
    → AnswersEach cases old mid → Appends mid new line → AnswersEach (cases ++ case ∷ []) old new
one_more cases case line old mid new (answer, is) each more =
    let write : List ℕ × List ℕ → List ℕ = λ p. case_line p.0 p.1 in
    record {
      answered = each.answered ++ (case, answer) ∷ [];
      in_order = map-append (λ p. p.0) each.answered ((case, answer) ∷ []) ∙ ap (λ front. front ++ case ∷ []) each.in_order;
      written = appends_more old mid new _ line _
          (flat_map-append write each.answered ((case, answer) ∷ [])
          ∙ ap (λ t. flat_map write each.answered ++ t) (append-nil (case_line case answer) ∙ sym is))
          each.written more;
    }

-- the first cases, and the next one
pub next_case : (cases : List (Bor (List ℕ))) (index : ℕ) (case : Bor (List ℕ)) (line shown : List ℕ)
    (old mid new : Option (List ℕ)) → index < length cases → IsLineOf (get_or cases index case).now line → shown ≡ line
    → AnswersEach (map (λ c. c.now) (take index cases)) old mid → Appends mid new shown
    → AnswersEach (map (λ c. c.now) (take (index + 1) cases)) old new
next_case cases index case line shown old mid new within is same each more =
    let texts : List (Bor (List ℕ)) → List (List ℕ) = map (λ c. c.now) in
    let L : List ℕ → Type 0 = λ t. IsLineOf (get_or cases index case).now t in
    let P : List (List ℕ) → Type 0 = λ t. AnswersEach t old new in
    subst P
    (sym (ap (λ n. texts (take n cases)) (add-one index) ∙ ap texts (take-suc cases index case within)
    ∙ map-append (λ c. c.now) (take index cases) (get_or cases index case ∷ [])))
    (one_more (texts (take index cases)) (get_or cases index case).now shown old mid new (subst L (sym same) is) each more)
