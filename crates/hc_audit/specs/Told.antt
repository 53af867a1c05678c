-- What whoever is told of the records of a transcript knows of them.
use Rattle.std.specs.Prelude.{ℕ, List, [], ◌∷◌}
use Rattle.hc_transcript.specs.Items.{Item}
use Rattle.hc_history.specs.declared.verdicts.Finding.{Finding}
use Rattle.hc_history.specs.declared.verdicts.Finding.TheVariants.{Right, Wrong}
use Rattle.hc_history.specs.declared.wrong.WrongReply.{WrongReply}

-- the wrong reply that a reply at that position is, by what is found of it: none where it is right
abbrev pub wrong_of : ℕ → Finding → List WrongReply
wrong_of position Right = []
wrong_of position (Wrong why) = record { position = position; reason = why } ∷ []

-- there are wrong replies that are the one's, and that the other tells
abbrev pub AreToldOf : (List WrongReply → Type 0) → (List WrongReply → Type 0) → Type 0
AreToldOf are tells = (wrongs : List WrongReply) × are wrongs × tells wrongs

-- there are items and wrong replies that are the one's, and the other tells these and has heard of those
abbrev pub IsToldOf : (List Item → List WrongReply → Type 0) → (List WrongReply → Type 0) → (List Item → Type 0) → Type 0
IsToldOf is tells hears = (h : List Item) × (wrongs : List WrongReply) × is h wrongs × tells wrongs × hears h
