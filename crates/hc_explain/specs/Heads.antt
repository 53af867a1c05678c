-- The head line of an explanation.
use Rattle.std.specs.Prelude.{◌≡◌, ℕ, List, ◌++◌, codes, decimal}
use Rattle.hc_history.specs.declared.verdicts.Finding.{Finding}
use Rattle.hc_history.specs.declared.verdicts.Finding.TheVariants.{Right, Wrong}
use Rattle.hc_history.specs.Names.{reason_number, reason_name}
use Rattle.hc_why.specs.declared.explaining.Way.{Way}
use Rattle.hc_why.specs.Explaining.{way_name}

-- the text heads the explanation of the reply at that position, of which that is found, and which went so: it says which it is, of a right reply the way, and of a wrong one
-- the reason
abbrev pub IsHead : ℕ → Finding → Way → List ℕ → Type 0
IsHead position Right way text = text ≡ codes "right " ++ (decimal position ++ (codes " " ++ way_name way))
IsHead position (Wrong why) way text =
    text ≡ codes "no " ++ (decimal position ++ (codes " " ++ (decimal (reason_number why) ++ (codes " " ++ reason_name why))))
