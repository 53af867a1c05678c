-- What a program of cases writes.
use Rattle.std.specs.Prelude.{◌≡◌, ℕ, List, [], ◌∷◌, ◌++◌, codes, map, Option}
use Rattle.std.specs.List.{flat_map}
use Rattle.std.specs.Io.KnownBytes.{Appends}

-- the line of a case: the case, an arrow and its answer
abbrev pub case_line : List ℕ → List ℕ → List ℕ
case_line case answer = case ++ (codes " => " ++ (answer ++ 10 ∷ []))

-- the text is a line of the case
abbrev pub IsLineOf : List ℕ → List ℕ → Type 0
IsLineOf case text = (answer : List ℕ) × (text ≡ case_line case answer)

-- the writer got one line for each case, in order, and nothing else
pub record AnswersEach (cases : List (List ℕ)) (old new : Option (List ℕ)) : Type 0 where
  pub answered : List (List ℕ × List ℕ)
  pub in_order : map (λ p. p.0) answered ≡ cases
  pub written : Appends old new (flat_map (λ p. case_line p.0 p.1) answered)

-- the same of some cases
abbrev pub AnswersSome : Option (List ℕ) → Option (List ℕ) → Type 0
AnswersSome old new = (cases : List (List ℕ)) × AnswersEach cases old new
