-- What is said first of a reply: where it stands, what is found of it, and the sections that ask what it doesn't keep.
use Rattle.std.specs.Prelude.{◌≡◌, ◌≤◌, ⊤, ℕ, List, [], ◌∷◌, ◌++◌, Some, codes}
use Rattle.serde_json.specs.Data.{Members, depth, object}
use Rattle.serde_json.specs.Read.{max_depth, read}
use Rattle.hc_history.specs.declared.verdicts.Finding.{Finding}
use Rattle.hc_history.specs.declared.verdicts.Finding.TheVariants.{Right, Wrong}
use Rattle.hc_history.specs.Names.{reason_name, reason_number}
use Rattle.hc_figures.specs.Entries.{Entry, HaveAll, number_at, text_at}
use Rattle.hc_why.specs.declared.explaining.Explanation.{Explanation}
use Rattle.hc_why.specs.Demanding.{IsDemanded}
use Rattle.hc_why.specs.Explaining.{way_name}
use Rattle.hc_explain.specs.declared.explaining.Form.{Form}
use Rattle.hc_explain.specs.declared.explaining.Form.TheVariants.{Text, Json}

-- these sections ask what a reply of that finding doesn't keep
abbrev pub AreAskedOf : Explanation → Finding → List ℕ → Type 0
AreAskedOf explanation Right sections = ⊤
AreAskedOf explanation (Wrong why) sections = IsDemanded explanation why sections

-- ---- in JSON

-- where it stands, its request, its exchange, and the way that it went
abbrev pub place_entries : Explanation → List Entry
place_entries explanation =
    number_at (codes "position") explanation.position ∷ number_at (codes "request") explanation.claim.since
    ∷ number_at (codes "exchange") explanation.claim.exchange ∷ text_at (codes "way") (way_name explanation.way) ∷ []

-- what is found of it; of a wrong one the reason, the sections, and words for what they ask
abbrev pub finding_entries : Finding → List ℕ → List ℕ → List Entry
finding_entries Right sections words = text_at (codes "finding") (codes "right") ∷ []
finding_entries (Wrong why) sections words =
    text_at (codes "finding") (codes "wrong") ∷ number_at (codes "reason") (reason_number why) ∷ text_at (codes "name") (reason_name why)
    ∷ text_at (codes "sections") sections ∷ text_at (codes "broken") words ∷ []

abbrev pub fact_entries : Explanation → List ℕ → List ℕ → List Entry
fact_entries explanation sections words = place_entries explanation ++ finding_entries explanation.finding sections words

-- the members have these
pub record HaveFacts (explanation : Explanation) (all : Members) : Type 0 where
  pub sections : List ℕ
  pub words : List ℕ
  pub asked : AreAskedOf explanation explanation.finding sections
  pub have : HaveAll (fact_entries explanation sections words) all

-- the text is that of an object which has them, and is read back so, unless it nests too deep for that
pub record IsJsonOf (explanation : Explanation) (text : List ℕ) : Type 0 where
  pub all : Members
  pub facts : HaveFacts explanation all
  pub reads : depth (object all) ≤ max_depth → read text ≡ Some (object all)

-- ---- in lines

-- the line of what a wrong reply doesn't keep, after the sections that ask it; a right one has none
abbrev pub IsBrokenLine : Explanation → Finding → List ℕ → Type 0
IsBrokenLine explanation Right line = line ≡ []
IsBrokenLine explanation (Wrong why) line =
    (sections : List ℕ) × (words : List ℕ) × IsDemanded explanation why sections
    × (line ≡ codes "broken          " ++ (sections ++ (codes ": " ++ (words ++ codes "\n"))))

-- the text begins with that line
pub record IsTextOf (explanation : Explanation) (text : List ℕ) : Type 0 where
  pub line : List ℕ
  pub rest : List ℕ
  pub is_line : IsBrokenLine explanation explanation.finding line
  pub is : text ≡ line ++ rest

-- one of both
abbrev pub IsFormOf : Form → Explanation → List ℕ → Type 0
IsFormOf Text explanation text = IsTextOf explanation text
IsFormOf Json explanation text = IsJsonOf explanation text
