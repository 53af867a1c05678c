-- What is shown of the values of fields, and of targets.
use Rattle.std.specs.Prelude.{ℕ, List, [], ◌++◌, length, codes, if◌then◌else◌}
use Rattle.hc_head.specs.declared.head.Target.{Target}
use Rattle.hc_shown.specs.Octets.{length_text}
use Rattle.hc_shown.specs.Pieces.{both_text}
use Rattle.hc_shown.specs.Secrets.{is_credential}

-- the value of a field: in double quotes, without what is hidden in it; of one that bears credentials its length alone
abbrev pub value_text : List ℕ → List ℕ → List ℕ
value_text name value = if is_credential name then length_text (length value) else codes "\"" ++ (both_text value [] ++ codes "\"")

-- a target: its host and its path, cut as one, without what is hidden in each
abbrev pub target_text : Target → List ℕ
target_text target = both_text target.host target.path
