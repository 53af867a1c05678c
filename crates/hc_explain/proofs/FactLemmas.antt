-- The facts that an object has.
use Rattle.std.proofs.Common.{◌≡◌, ℕ, true, List, refl}
use Rattle.serde_json.specs.Data.{Members, depth, object}
use Rattle.hc_history.specs.declared.verdicts.Finding.{Finding}
use Rattle.hc_history.specs.declared.verdicts.Finding.TheVariants.{Right, Wrong}
use Rattle.hc_figures.specs.Entries.{are_distinct, with_all}
use Rattle.hc_figures.proofs.EntryLemmas.{all_there}
use Rattle.hc_why.specs.declared.explaining.Explanation.{Explanation}
use Rattle.hc_explain.specs.Facts.{AreAskedOf, HaveFacts, IsJsonOf, fact_entries, finding_entries, place_entries}
use Rattle.std.specs.Prelude.{◌++◌, ◌≤◌, Err, IfOk, Ok, Result, Some, String, string_bytes}
use Rattle.std.specs.declared.alloc.AllocError.{AllocError}
use Rattle.std.specs.declared.alloc.Global.{Global}
use Rattle.serde_json.specs.Read.{max_depth, read}

distinct_for : (explanation : Explanation) (finding : Finding) (sections words : List ℕ)
    → are_distinct (place_entries explanation ++ finding_entries finding sections words) ≡ true
distinct_for explanation Right sections words = refl
distinct_for explanation (Wrong why) sections words = refl

-- those that were put in
pub has_facts : (explanation : Explanation) (all : Members) (sections words : List ℕ) → AreAskedOf explanation explanation.finding sections
    → HaveFacts explanation (with_all (fact_entries explanation sections words) all)
has_facts explanation all sections words asked = record {
  sections = sections;
  words = words;
  asked = asked;
  have = all_there (fact_entries explanation sections words) all (distinct_for explanation explanation.finding sections words);
}

-- JSON of an object into which they were put
pub json_is : (explanation : Explanation) (written : Result (String Global) AllocError) (base : Members) (sections words : List ℕ)
    → AreAskedOf explanation explanation.finding sections
    → (depth (object (with_all (fact_entries explanation sections words) base)) ≤ max_depth
    → IfOk written (λ text. read (string_bytes text) ≡ Some (object (with_all (fact_entries explanation sections words) base))))
    → IfOk written (λ text. IsJsonOf explanation (string_bytes text))
json_is explanation (Ok text) base sections words asked reads =
    record { all = with_all (fact_entries explanation sections words) base; facts = has_facts explanation base sections words asked; reads = reads }
json_is explanation (Err refused) base sections words asked reads = tt
