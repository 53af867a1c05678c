-- What a parse of the words of a command comes to.
use Rattle.std.proofs.Common.{◌≡◌, ◌∙◌, ℕ, List, [], ◌∷◌, Option, None, Some, ap, inl, inr, refl, rules, sym, subst, true, false, nat_eq, option_and_then, option_map}
use Rattle.std.specs.Prelude.{Result, Ok, Err, IfOk, IfErr}
use Rattle.std.specs.Str.{bytes_eq}
use Rattle.clap.specs.Lexer.{long_of, short_of}
use Rattle.clap.specs.Words.{App, FailsBy, HasKind, HasMatchesOf, Row, Text, app_of, fault_of, first_of, first_value, is_simple, is_simple_and_free}
use Rattle.clap.specs.Words.{rows_of, subcommand_of, subcommand_rows_of}
use Rattle.clap.specs.declared.parser.matches.ArgMatches.{ArgMatches}
use Rattle.clap.specs.declared.parser.matches.Found.{Found}
use Rattle.clap.specs.declared.Command.{Command as Builder}
use Rattle.clap.specs.declared.error.Error.{Error}
use Rattle.clap.proofs.WalkLemmas.{first_value-rows}
use Rattle.hc_options.specs.Commands.{IsWord, value_in}

-- ---- any words

-- a parse fails by a fault of the words alone
module _ (app : App) (simple : is_simple_and_free app ≡ true) (c : Builder) (words : List Text) (result : Result ArgMatches Error) (is : app_of c ≡ app)
    (fails : is_simple_and_free (app_of c) ≡ true → FailsBy (fault_of (app_of c) words) result) where
  fails_by : FailsBy (fault_of app words) result
  fails_by = subst (λ (a : App). FailsBy (fault_of a words) result) is (fails (ap is_simple_and_free is ∙ simple))

  pub taken_from : IfOk result (λ _. fault_of app words ≡ [])
  taken_from = at_ok result fails_by
    where
      at_ok : (r : Result ArgMatches Error) → FailsBy (fault_of app words) r → IfOk r (λ _. fault_of app words ≡ [])
      at_ok (Ok m) none = none
      at_ok (Err e) has = tt

  pub refused_from : IfErr result (HasKind (fault_of app words))
  refused_from = at_err result fails_by
    where
      at_err : (r : Result ArgMatches Error) → FailsBy (fault_of app words) r → IfErr r (HasKind (fault_of app words))
      at_err (Ok m) none = tt
      at_err (Err e) has = has

-- the values after the subcommand are those of the words
pub given_from : (app : App) → is_simple app ≡ true → (c : Builder) (words : List Text) (m : ArgMatches) → app_of c ≡ app → HasMatchesOf (app_of c) words m
    → subcommand_rows_of m ≡ subcommand_of app words
given_from app simple c words m is has = (has (ap is_simple is ∙ simple)).1 ∙ ap (λ (a : App). subcommand_of a words) is

-- ---- the subcommand

-- what is read of the rows alone
of_rows : (f : List Row → Option Text) (p : Option (Text × List Row))
    → option_and_then (λ q. f q.1) p ≡ option_and_then f (option_map (λ q. q.1) p)
of_rows f None = refl
of_rows f (Some q) = refl

-- a value of what was found is the one after the subcommand
value_is : (given : Option (Text × List Row)) (found : Found) → Some (rows_of found) ≡ option_map (λ q. q.1) given → (name : Text)
    → first_value found name ≡ value_in given name
value_is given found rows name = first_value-rows found name ∙ ap (option_and_then (first_of name)) rows ∙ sym (of_rows (first_of name) given)

pub same_values : (given : Option (Text × List Row)) (found : Found) → Some (rows_of found) ≡ option_map (λ q. q.1) given
    → first_value found ≡ value_in given
same_values given found rows = λ i. λ word. value_is given found rows word i

-- where there is no subcommand there are no values
pub no_value : (given : Option (Text × List Row)) → None ≡ option_map (λ q. q.1) given → (name : Text) → value_in given name ≡ None
no_value None none name = refl
no_value (Some p) none name = absurd cc

-- ---- plain words

-- a word that is no flag
pub record IsNoFlag (word : Text) : Type 0 where
  pub dashes : bytes_eq word (45 ∷ 45 ∷ []) ≡ false
  pub long : long_of word ≡ None
  pub short : short_of word ≡ None

no_flag_after : (x : ℕ) (rest : Text) → nat_eq x 45 ≡ false → IsNoFlag (x ∷ rest)
no_flag_after x rest e = record { dashes = rw e refl; long = rw e refl; short = rw e refl }

pub not_hyphen : (x : ℕ) → (Some x ≡ Some 45 → ⊥) → nat_eq x 45 ≡ false
not_hyphen x h = search rules

pub no_flag : (word : Text) → IsWord word → IsNoFlag word
no_flag [] h = record { dashes = refl; long = refl; short = refl }
no_flag (x ∷ rest) (inl e) = subst IsNoFlag (sym e) (record { dashes = refl; long = refl; short = refl })
no_flag (x ∷ rest) (inr h) = no_flag_after x rest (not_hyphen x h)
