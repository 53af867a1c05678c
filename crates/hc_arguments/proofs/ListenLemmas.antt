-- The values of an option that may be given again.
use Rattle.std.proofs.Common.{◌≡◌, ◌∙◌, ◌==◌, List, [], ◌∷◌, Option, None, Some, Bool, false, true, ap, arith, length, map, refl, sym, codes, option_and_then, option_map}
use Rattle.std.specs.Borrow.{Bor}
use Rattle.std.specs.Option.{option_map_or}
use Rattle.std.specs.Prelude.{Result, IfOk, slice_get}
use Rattle.std.proofs.lemmas.Bool.{eqb-true}
use Rattle.std.proofs.lemmas.Result.{IfOk-weaker}
use Rattle.clap.specs.Words.{Row, Text, all_of, first_value, matched_of, raw_values, rows_of, subcommand_rows_of}
use Rattle.clap.specs.declared.parser.matches.ArgMatches.{ArgMatches}
use Rattle.clap.specs.declared.parser.matches.Found.{Found}
use Rattle.clap.specs.declared.parser.matches.MatchedArg.{MatchedArg}
use Rattle.clap.proofs.WalkLemmas.{raw_values-rows}
use Rattle.hc_options.specs.declared.refusal.Refusal.{Refusal}
use Rattle.hc_arguments.specs.declared.order.Order.{Order}
use Rattle.hc_arguments.specs.declared.order.Order.TheVariants.{Audit, Report, Explain, Show, Replay, Convert, Split, Join, Serve, Proxy}
use Rattle.hc_arguments.specs.Tables.{Command}
use Rattle.hc_arguments.specs.Tables.Command.{Audits, Reports, Explains, Shows, Replays, Converts, Splits, Joins, Serves, Proxies}
use Rattle.hc_arguments.specs.Tasks.{AreAll, AsksBy, ListensAt, all_values, first_text, task_of, values_in}

-- ---- the first value, and all of them

first_now : (texts : List (Bor Text)) → option_map (λ (s : Bor Text). s.now) (slice_get texts 0) ≡ slice_get (map (λ (s : Bor Text). s.now) texts) 0
first_now [] = refl
first_now (text ∷ rest) = refl

first_of_matched : (o : Option MatchedArg) → option_and_then (λ (a : MatchedArg). option_map (λ s. s.now) (slice_get a.vals.items 0)) o
    ≡ option_and_then (λ (texts : List Text). slice_get texts 0) (option_map raw_values o)
first_of_matched None = refl
first_of_matched (Some a) = first_now a.vals.items

first_of_all : (found : Found) (name : Text) (all : Option (List Text)) → all ≡ all_values found name
    → first_value found name ≡ option_and_then (λ (texts : List Text). slice_get texts 0) all
first_of_all found name all are = first_of_matched (matched_of found name) ∙ ap (option_and_then (λ (texts : List Text). slice_get texts 0)) (sym are)

-- where there are none there is no first one
pub none_named : (found : Found) (name : Text) → None ≡ all_values found name → first_value found name ≡ None
none_named found name none = first_of_all found name None none

pub no_first : (found : Found) (name : Text) (texts : List (Bor Text)) → AreAll texts (all_values found name) → (length texts == 0) ≡ true
    → first_value found name ≡ None
no_first found name [] are empty = first_of_all found name (Some []) are
no_first found name (text ∷ rest) are empty = absurd (omega (arith, eqb-true (length (text ∷ rest)) 0 empty))

pub first_named : (found : Found) (name : Text) (texts : List (Bor Text)) → AreAll texts (all_values found name) → (length texts == 0) ≡ false
    → first_value found name ≡ Some (first_text texts)
first_named found name [] are some = absurd cc
first_named found name (text ∷ rest) are some = first_of_all found name (Some (text.now ∷ map (λ (s : Bor Text). s.now) rest)) are

-- ---- after the subcommand

of_rows : (f : List Row → Option (List Text)) (p : Option (Text × List Row))
    → option_and_then (λ q. f q.1) p ≡ option_and_then f (option_map (λ q. q.1) p)
of_rows f None = refl
of_rows f (Some q) = refl

module _ (m : ArgMatches) (found : Found) (rows : Some (rows_of found) ≡ option_map (λ q. q.1) (subcommand_rows_of m)) where
  all_after : (name : Text) → all_values found name ≡ values_in (subcommand_rows_of m) name
  all_after name = raw_values-rows found name ∙ ap (option_and_then (all_of name)) rows ∙ sym (of_rows (all_of name) (subcommand_rows_of m))

  listens_after : (order : Order) → ListensAt (all_values found (codes "listen")) order → ListensAt (values_in (subcommand_rows_of m) (codes "listen")) order
  listens_after (Proxy p) listens = listens ∙ all_after (codes "listen")
  listens_after (Audit file terms) listens = tt
  listens_after (Report file terms form) listens = tt
  listens_after (Explain file terms) listens = tt
  listens_after (Show file span) listens = tt
  listens_after (Replay file) listens = tt
  listens_after (Convert file) listens = tt
  listens_after (Split file parts dir) listens = tt
  listens_after (Join dir least) listens = tt
  listens_after (Serve s) listens = tt

  pub all_listen : (result : Result Order Refusal) → IfOk result (ListensAt (all_values found (codes "listen")))
      → IfOk result (ListensAt (values_in (subcommand_rows_of m) (codes "listen")))
  all_listen result listens = IfOk-weaker result _ _ listens_after listens

-- ---- what is no proxy

abbrev pub is_proxy : Command → Bool
is_proxy Proxies = true
is_proxy Audits = false
is_proxy Reports = false
is_proxy Explains = false
is_proxy Shows = false
is_proxy Replays = false
is_proxy Converts = false
is_proxy Splits = false
is_proxy Joins = false
is_proxy Serves = false

listens_nowhere : (command : Command) → is_proxy command ≡ false → (value : Text → Option Text) (places : Option (List Text)) (order : Order)
    → AsksBy (Some command) value (task_of order) → ListensAt places order
listens_nowhere command other value places (Proxy p) asks = absurd (true_is_not_false (sym (ap (λ (c : Option Command). option_map_or is_proxy c false) asks.0) ∙ other))
  where
    true_is_not_false : true ≡ false → ⊥
    true_is_not_false is = cc
listens_nowhere command other value places (Audit file terms) asks = tt
listens_nowhere command other value places (Report file terms form) asks = tt
listens_nowhere command other value places (Explain file terms) asks = tt
listens_nowhere command other value places (Show file span) asks = tt
listens_nowhere command other value places (Replay file) asks = tt
listens_nowhere command other value places (Convert file) asks = tt
listens_nowhere command other value places (Split file parts dir) asks = tt
listens_nowhere command other value places (Join dir least) asks = tt
listens_nowhere command other value places (Serve s) asks = tt

pub none_listens : (command : Command) → is_proxy command ≡ false → (value : Text → Option Text) (places : Option (List Text)) (result : Result Order Refusal)
    → IfOk result (λ order. AsksBy (Some command) value (task_of order)) → IfOk result (ListensAt places)
none_listens command other value places result asks = IfOk-weaker result _ _ (λ order. listens_nowhere command other value places order) asks
