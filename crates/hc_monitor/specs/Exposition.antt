-- The text format of Prometheus, version 0.0.4: of each family two lines that say what it is, and a line for each of its numbers.
use Rattle.std.specs.Prelude.{ℕ, List, ◌++◌, codes, decimal}
use Rattle.hc_monitor.specs.declared.families.Family.{Family}
use Rattle.hc_monitor.specs.declared.families.Number.{Number}

-- what a family is
abbrev pub family_text : Family → List ℕ
family_text family = codes "# HELP " ++ (family.name.now ++ (codes " " ++ (family.help.now ++ (codes "\n# TYPE "
    ++ (family.name.now ++ (codes " " ++ (family.kind.now ++ codes "\n")))))))

-- a number of a family
abbrev pub number_text : List ℕ → ℕ → List ℕ
number_text name value = name ++ (codes " " ++ (decimal value ++ codes "\n"))

-- a family of one number
abbrev pub single_text : Family → ℕ → List ℕ
single_text family value = family_text family ++ number_text family.name.now value

-- the same of a number with its family
abbrev pub number_line : Number → List ℕ
number_line number = single_text number.family number.value

-- a number that is told apart by one label
abbrev pub labelled_text : (name label which : List ℕ) → ℕ → List ℕ
labelled_text name label which value = name ++ (codes "{" ++ (label ++ (codes "=\"" ++ (which ++ (codes "\"} " ++ (decimal value ++ codes "\n"))))))

-- how many replies of a mark and a class there are
abbrev pub sample_text : (mark class : List ℕ) → ℕ → List ℕ
sample_text mark class value = codes "hcache_replies_total{mark=\"" ++ (mark ++ (codes "\",status=\"" ++ (class ++ (codes "\"} " ++ (decimal value ++ codes "\n")))))
