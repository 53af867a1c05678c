-- The links that wait for their turns.
use Rattle.std.specs.Prelude.{◌≡◌, List, [], ◌∷◌, ◌++◌, Option, Some, None}
use Rattle.hc_order.specs.declared.receiver.Receiver.{Receiver}

-- those whose turns are of this batch, and those that came behind, the next one first
pub record Waiting : Type 0 where
  pub batch : List Receiver
  pub behind : List Receiver

-- a link comes behind the others
abbrev pub pushed : Waiting → Receiver → Waiting
pushed waiting link = record { batch = waiting.batch; behind = waiting.behind ++ link ∷ [] }

-- a link comes before all others
abbrev pub before_all : Waiting → Receiver → Waiting
before_all waiting link = record { batch = link ∷ waiting.batch; behind = waiting.behind }

-- all that wait are of a new batch
abbrev pub batch_of : Waiting → Waiting
batch_of waiting = record { batch = waiting.batch ++ waiting.behind; behind = [] }

-- the first of the batch has its turn, or the batch is over
abbrev pub GivesTurn : Option Receiver → Waiting → Waiting → Type 0
GivesTurn None old new = (old.batch ≡ []) × (new ≡ old)
GivesTurn (Some link) old new = old ≡ record { batch = link ∷ new.batch; behind = new.behind }

-- it is the link whose turn is next in the batch; there is none where the batch is over
abbrev pub IsFirstTurn : Option Receiver → Waiting → Type 0
IsFirstTurn None waiting = waiting.batch ≡ []
IsFirstTurn (Some link) waiting = (rest : List Receiver) × (waiting.batch ≡ link ∷ rest)

-- ---- a batch

-- what comes of links that wait: one has its turn, or comes behind the others, or before them
pub data Step : Type 0 where
  Turn : (link : Receiver) → Step
  Behind : (link : Receiver) → Step
  Before : (link : Receiver) → Step

-- steps, the first one first, lead from those that wait to others
abbrev pub LeadsTo : List Step → Waiting → Waiting → Type 0
LeadsTo [] waiting after = after ≡ waiting
LeadsTo (Turn link ∷ steps) waiting after = (next : Waiting) × GivesTurn (Some link) waiting next × LeadsTo steps next after
LeadsTo (Behind link ∷ steps) waiting after = LeadsTo steps (pushed waiting link) after
LeadsTo (Before link ∷ steps) waiting after = LeadsTo steps (before_all waiting link) after

-- the links that had their turns, in order
abbrev pub turns_of : List Step → List Receiver
turns_of [] = []
turns_of (Turn link ∷ steps) = link ∷ turns_of steps
turns_of (Behind link ∷ steps) = turns_of steps
turns_of (Before link ∷ steps) = turns_of steps

-- those that came before the others, the first one first
abbrev pub put_before_in : List Step → List Receiver
put_before_in [] = []
put_before_in (Turn link ∷ steps) = put_before_in steps
put_before_in (Behind link ∷ steps) = put_before_in steps
put_before_in (Before link ∷ steps) = link ∷ put_before_in steps

-- steps lead from the beginning of a batch to where it is over
abbrev pub IsBatch : List Step → Waiting → Waiting → Type 0
IsBatch steps waiting after = LeadsTo steps (batch_of waiting) after × GivesTurn None after after

-- all links that wait, of this batch and behind it
abbrev pub all_of : Waiting → List Receiver
all_of waiting = waiting.batch ++ waiting.behind
