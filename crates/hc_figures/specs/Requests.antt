-- What is shown of requests.
use Rattle.std.specs.Prelude.{◌≡◌, ℕ, List, ◌++◌, codes, string_bytes}
use Rattle.hc_history.specs.declared.reasons.Reason.{Reason}
use Rattle.hc_history.specs.Names.{reason_name}
use Rattle.hc_figures.specs.declared.listed.ShownRequest.{ShownRequest}

-- the same is shown
pub record ShowsAs (shown copy : ShownRequest) : Type 0 where
  pub method : string_bytes copy.method ≡ string_bytes shown.method
  pub target : string_bytes copy.target ≡ string_bytes shown.target

-- the kind of a wrong reply: the name of the reason, the method and the target, with a space between them. Two targets of which the same is shown are one: hidden
-- values, and what is cut, tell nothing apart
abbrev pub kind_text : Reason → List ℕ → List ℕ → List ℕ
kind_text why method target = reason_name why ++ (codes " " ++ (method ++ (codes " " ++ target)))
