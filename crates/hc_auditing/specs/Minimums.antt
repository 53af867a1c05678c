-- What the program says, and by which status it ends, where it had to judge so many replies.
use Rattle.std.specs.Prelude.{◌≡◌, ◌+◌, ◌++◌, ◌||◌, ℕ, Bool, List, [], ◌∷◌, Option, codes, decimal, if◌then◌else◌, nat_lt}
use Rattle.std.specs.Io.KnownBytes.{Appends}
use Rattle.hc_history.specs.declared.verdicts.Counts.{Counts}
use Rattle.hc_history.specs.declared.verdicts.Verdict.{Verdict}
use Rattle.hc_history.specs.declared.verdicts.Verdict.TheVariants.{Yes, No, Malformed}
use Rattle.hc_options.specs.declared.auditing.Minimums.{Minimums}

-- the replies that were judged: hits and forwarded ones
abbrev pub judged_of : Counts → ℕ
judged_of c = c.hits + c.forwarded

-- whether there are too few hits, or too few replies that were judged
abbrev pub falls_short : Minimums → Counts → Bool
falls_short least c = nat_lt c.hits least.hits || nat_lt (judged_of c) least.judged

-- the line that says that there are too few
abbrev pub shortfall_line : List ℕ → ℕ → ℕ → List ℕ
shortfall_line name had wanted = codes "too few: " ++ (name ++ (codes "=" ++ (decimal had ++ (codes ", wanted " ++ (decimal wanted ++ 10 ∷ [])))))

-- if there are
abbrev pub too_few_line : List ℕ → ℕ → ℕ → List ℕ
too_few_line name had wanted = if nat_lt had wanted then shortfall_line name had wanted else []

-- what is said of a verdict's counts: hits first
abbrev pub shortfall_lines : Minimums → Verdict → List ℕ
shortfall_lines least (Yes c) = too_few_line (codes "hits") c.hits least.hits ++ too_few_line (codes "judged") (judged_of c) least.judged
shortfall_lines least (No position why) = []
shortfall_lines least (Malformed position fault) = []

-- the exit status of a verdict: 4 where it is yes and there are too few
abbrev pub status_by : Minimums → Verdict → ℕ
status_by least (Yes c) = if falls_short least c then 4 else 0
status_by least (No position why) = 1
status_by least (Malformed position fault) = 2

-- this is the status of the verdict, and the faults got the lines that say what is too few, and nothing else
pub record EndsBy (least : Minimums) (verdict : Verdict) (status : ℕ) (faults_old faults_new : Option (List ℕ)) : Type 0 where
  pub has_status : status ≡ status_by least verdict
  pub says : Appends faults_old faults_new (shortfall_lines least verdict)
