-- The line that says a verdict.
use Rattle.std.specs.Prelude.{◌≡◌, ℕ, List, [], ◌∷◌, ◌++◌, codes, decimal}
use Rattle.hc_transcript.specs.Names.{fault_number, fault_name}
use Rattle.hc_history.specs.declared.verdicts.Counts.{Counts}
use Rattle.hc_history.specs.declared.verdicts.Verdict.{Verdict}
use Rattle.hc_history.specs.declared.verdicts.Verdict.TheVariants.{Yes, No, Malformed}
use Rattle.hc_history.specs.Names.{reason_number, reason_name}

-- the counts of a transcript that is right, with their names
abbrev pub yes_line : Counts → List ℕ
yes_line c = codes "yes records=" ++ (decimal c.records
    ++ (codes " replies=" ++ (decimal c.replies
    ++ (codes " hits=" ++ (decimal c.hits
    ++ (codes " forwarded=" ++ (decimal c.forwarded
    ++ (codes " unmarked=" ++ (decimal c.unmarked ++ 10 ∷ [])))))))))

-- where a reply is wrong, and by which reason, by its number and its name
abbrev pub no_line : ℕ → ℕ → List ℕ → List ℕ
no_line position number name = codes "no " ++ (decimal position
    ++ (codes " " ++ (decimal number ++ (codes " " ++ (name ++ 10 ∷ [])))))

-- where a transcript breaks, and by which fault, by its number and its name
abbrev pub malformed_line : ℕ → ℕ → List ℕ → List ℕ
malformed_line position number name = codes "malformed " ++ (decimal position
    ++ (codes " " ++ (decimal number ++ (codes " " ++ (name ++ 10 ∷ [])))))

-- the line says the verdict
abbrev pub IsVerdictLine : Verdict → List ℕ → Type 0
IsVerdictLine (Yes counts) line = line ≡ yes_line counts
IsVerdictLine (No position why) line = line ≡ no_line position (reason_number why) (reason_name why)
IsVerdictLine (Malformed position fault) line =
    line ≡ malformed_line position (fault_number fault) (fault_name fault)

-- the exit status of a verdict
abbrev pub status_of : Verdict → ℕ
status_of (Yes counts) = 0
status_of (No position why) = 1
status_of (Malformed position fault) = 2
