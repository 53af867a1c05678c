-- A command with the rows of a table.
use Rattle.std.proofs.Common.{◌≡◌, ◌∙◌, ◌+◌, ◌<◌, ◌++◌, ℕ, List, [], ◌∷◌, ap, get_or, length, map, refl, subst, sym, take}
use Rattle.std.specs.Prelude.{Result}
use Rattle.std.specs.declared.alloc.AllocError.{AllocError}
use Rattle.std.proofs.lemmas.List.{map-append, take_more}
use Rattle.clap.specs.Words.{App, Rule, with_rule}
use Rattle.clap.specs.declared.Command.{Command as Builder}
use Rattle.hc_options.specs.declared.rows.Row.{Row}
use Rattle.hc_options.specs.Commands.{IsMade, with_rules}
use Rattle.hc_options.specs.Rows.{row_rule}

with_one_more : (app : App) (rules : List Rule) (rule : Rule) → with_rules app (rules ++ rule ∷ []) ≡ with_rule (with_rules app rules) rule
with_one_more app [] rule = refl
with_one_more app (first ∷ rest) rule = with_one_more (with_rule app first) rest rule

-- the rows up to one, and with it
with_next : (app : App) (rows : List Row) (i : ℕ) (other : Row) → i < length rows
    → with_rules app (map row_rule (take (i + 1) rows))
    ≡ with_rule (with_rules app (map row_rule (take i rows))) (row_rule (get_or rows i other))
with_next app rows i other less =
    ap (λ (t : List Row). with_rules app (map row_rule t)) (take_more rows i other less)
    ∙ ap (λ (r : List Rule). with_rules app r) (map-append row_rule (take i rows) (get_or rows i other ∷ []))
    ∙ with_one_more app (map row_rule (take i rows)) (row_rule (get_or rows i other))

-- a command has one more of them
pub next_made : (app : App) (rows : List Row) (i : ℕ) (other : Row) (made : Result Builder AllocError) → i < length rows
    → IsMade (with_rule (with_rules app (map row_rule (take i rows))) (row_rule (get_or rows i other))) made
    → IsMade (with_rules app (map row_rule (take (i + 1) rows))) made
next_made app rows i other made less = subst (λ (a : App). IsMade a made) (sym (with_next app rows i other less))
